-- The base is the names element of the latest item that has one and wasn't replaced.
use Rattle.std.proofs.Common.{◌≡◌, List, [], ◌∷◌, Option, None, Some, MatchOption, refl, sym, ap, ◌∙◌}
use Rattle.std.specs.List.{All}
use Rattle.std.specs.Option.{option_or, option_and_then}
use Rattle.std.proofs.lemmas.List.Elements.{All-nil, All-cons}
use Rattle.value_trees.specs.declared.elem.Elem.{Elem}
use Rattle.value_styles.specs.declared.style.SubsequentAuthorSubstituteRule.{SubsequentAuthorSubstituteRule}
use Rattle.rounds_substitution.specs.Names.{names_element}
use Rattle.rounds_substitution.specs.Substitution.{Item, stayed, base}
use Rattle.rounds_substitution.specs.Laws.{IsLatestKept, BaseIsLatest}

-- without a base nothing is replaced
same_option : (o : Option Elem) → option_and_then (λ own. Some own) o ≡ o
same_option None = refl
same_option (Some e) = refl

all_stay : (rule : SubsequentAuthorSubstituteRule) (item : Item) → stayed rule None item.0 ≡ names_element item.0
all_stay rule item = same_option (names_element item.0)

abbrev NoNames : Item → Type 0
NoNames item = names_element item.0 ≡ None

-- one item more
one_more : (rule : SubsequentAuthorSubstituteRule) (item : Item) (before : List Item) (b s : Option Elem) → base rule before ≡ b → stayed rule b item.0 ≡ s
    → MatchOption b (All NoNames before) (IsLatestKept rule before) → MatchOption (option_or s b) (All NoNames (item ∷ before)) (IsLatestKept rule (item ∷ before))
one_more rule item before b (Some e) i h k = ([], item, before, refl, ap (λ o. stayed rule o item.0) i ∙ h, All-nil (λ later. stayed rule (Some e) later.0 ≡ None))
one_more rule item before None None i h k = All-cons NoNames item before (sym (all_stay rule item) ∙ h) k
one_more rule item before (Some e) None i h (after, kept, first, p, q, r) =
    (item ∷ after, kept, first, ap (λ xs. item ∷ xs) p, q, All-cons (λ later. stayed rule (Some e) later.0 ≡ None) item after h r)

pub base_is_latest : BaseIsLatest
base_is_latest rule [] = All-nil NoNames
base_is_latest rule (item ∷ before) = one_more rule item before (base rule before) (stayed rule (base rule before) item.0) refl refl (base_is_latest rule before)
