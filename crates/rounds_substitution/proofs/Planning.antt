-- What is planned and then done to each item is what substitution makes of it.
use Rattle.std.proofs.Common.{OnOk, Result, Ok, Err, Bor, option_map, ◌≡◌, ℕ, suc, ◌<◌, ◌≤◌, Bool, true, false, cond, List, [], ◌∷◌, ◌++◌, map, take, reverse, length, get_or, Option, None, Some, String, string_bytes, Global, refl, sym, ap, ap₂, ◌∙◌, arith, append_assoc}
use Rattle.std.specs.List.{scan, zip, enumerate_from}
use Rattle.std.specs.Option.{option_and_then}
use Rattle.std.proofs.lemmas.List.{reverse-append, take_at, length_push}
use Rattle.value_trees.specs.Child.{Child}
use Rattle.value_trees.specs.FirstNames.{put_names}
use Rattle.value_trees.specs.declared.elem.Elem.{Elem}
use Rattle.value_sources.specs.declared.formatting.Formatted.{Formatted}
use Rattle.value_styles.specs.declared.style.SubsequentAuthorSubstituteRule.{SubsequentAuthorSubstituteRule}
use Rattle.rounds_substitution.specs.Names.{names_element}
use Rattle.rounds_substitution.specs.Rewriting.{elem_changed}
use Rattle.rounds_substitution.specs.Rules.{rule_for, change_by}
use Rattle.rounds_substitution.specs.Substitution.{Item, is_replaced, base, names_after, tree_after, item_after, substitute_text, substituted}
use Rattle.rounds_substitution.specs.ItemView.{rendered_items_view}
use Rattle.rounds_substitution.specs.Changes.{change_of, planned, next_base, plan, tree_changed, trees_changed}
use Rattle.rounds_substitution.specs.declared.changes.Change.{Change}

-- a tree after what is planned for it
abbrev with_change : Formatted → Option Change → Option Elem → List Child → List Child
with_change t None found tree = tree
with_change t (Some change) found tree = elim found [ None ↦ tree | Some own ↦ put_names tree (elem_changed t change own) ]

with_change-tree : (t : Formatted) (change : Option Change) (tree : List Child) → tree_changed t change tree ≡ with_change t change (names_element tree) tree
with_change-tree t None tree = refl
with_change-tree t (Some change) tree = refl

abbrev after : Formatted → SubsequentAuthorSubstituteRule → Elem → Option Elem → List Child → List Child
after t rule kept found tree = elim found [ None ↦ tree | Some own ↦ cond (is_replaced rule (Some kept) own) (put_names tree (names_after t rule kept own)) tree ]

if_changed : (t : Formatted) (b : Bool) (change : Change) (own : Elem) (tree : List Child) → with_change t (cond b (Some change) None) (Some own) tree ≡ cond b (put_names tree (elem_changed t change own)) tree
if_changed t true change own tree = refl
if_changed t false change own tree = refl

found_changed : (t : Formatted) (rule : SubsequentAuthorSubstituteRule) (kept : Elem) (found : Option Elem) (tree : List Child) → with_change t (option_and_then (change_of rule (Some kept)) found) found tree ≡ after t rule kept found tree
found_changed t rule kept None tree = refl
found_changed t rule kept (Some own) tree = if_changed t (is_replaced rule (Some kept) own) (change_by (rule_for rule own) kept own) own tree

nothing_changed : (t : Formatted) (rule : SubsequentAuthorSubstituteRule) (found : Option Elem) (tree : List Child) → with_change t (option_and_then (change_of rule None) found) found tree ≡ tree
nothing_changed t rule None tree = refl
nothing_changed t rule (Some own) tree = refl

planned_changed : (t : Formatted) (rule : SubsequentAuthorSubstituteRule) (b : Option Elem) (tree : List Child) → tree_changed t (planned rule b tree) tree ≡ tree_after t rule b tree
planned_changed t rule None tree = with_change-tree t (planned rule None tree) tree ∙ nothing_changed t rule (names_element tree) tree
planned_changed t rule (Some kept) tree = with_change-tree t (planned rule (Some kept) tree) tree ∙ found_changed t rule kept (names_element tree) tree

-- trees one after another
abbrev trees_after : Formatted → SubsequentAuthorSubstituteRule → Option Elem → List (List Child) → List (List Child)
trees_after t rule = scan (next_base rule) (tree_after t rule)

plan_changed : (t : Formatted) (rule : SubsequentAuthorSubstituteRule) (b : Option Elem) (trees : List (List Child)) → trees_changed t (plan rule b trees) trees ≡ trees_after t rule b trees
plan_changed t rule b [] = refl
plan_changed t rule b (tree ∷ trees) = ap₂ (λ c cs. c ∷ cs) (planned_changed t rule b tree) (plan_changed t rule (next_base rule b tree) trees)

-- and each against the base of those before it
each_after : (t : Formatted) (rule : SubsequentAuthorSubstituteRule) (before items all : List Item) → before ++ items ≡ all
    → map (item_after t rule all) (enumerate_from (length before) items) ≡ zip (trees_after t rule (base rule (reverse before)) (map (λ p. p.0) items)) (map (λ p. p.1) items)
each_after t rule before [] all e = refl
each_after t rule before (x ∷ items) all e =
    let own = ap (take (length before)) (sym e) ∙ take_at before (x ∷ items) (length before) refl in
    let later = each_after t rule (before ++ x ∷ []) items all (append_assoc before (x ∷ []) items ∙ e) in
    ap₂ (λ p ps. p ∷ ps)
    (λ i. (tree_after t rule (base rule (reverse (own i))) x.0, x.1))
    (ap (λ n. map (item_after t rule all) (enumerate_from n items)) (sym (length_push before x)) ∙ later
    ∙ ap (λ ys. zip (trees_after t rule (base rule ys) (map (λ p. p.0) items)) (map (λ p. p.1) items)) (reverse-append before (x ∷ [])))

-- items are their trees and their keys
parted : (xs : List (List Child × String Global)) → rendered_items_view xs ≡ zip (map (λ p. p.0) xs) (map string_bytes (map (λ p. p.1) xs))
parted [] = refl
parted (x ∷ xs) = ap (λ ps. (x.0, string_bytes x.1) ∷ ps) (parted xs)

trees-view : (xs : List (List Child × String Global)) → map (λ p. p.0) (rendered_items_view xs) ≡ map (λ p. p.0) xs
trees-view [] = refl
trees-view (x ∷ xs) = ap (λ ps. x.0 ∷ ps) (trees-view xs)

keys-view : (xs : List (List Child × String Global)) → map (λ p. p.1) (rendered_items_view xs) ≡ map string_bytes (map (λ p. p.1) xs)
keys-view [] = refl
keys-view (x ∷ xs) = ap (λ ps. string_bytes x.1 ∷ ps) (keys-view xs)

-- all items, where each tree was changed as planned and each key kept
all_after : (t : Formatted) (rule : SubsequentAuthorSubstituteRule) (xs ys : List (List Child × String Global))
    → map (λ p. p.0) xs ≡ trees_changed t (plan rule None (map (λ p. p.0) ys)) (map (λ p. p.0) ys) → map (λ p. p.1) xs ≡ map (λ p. p.1) ys
    → rendered_items_view xs ≡ map (item_after t rule (rendered_items_view ys)) (enumerate_from 0 (rendered_items_view ys))
all_after t rule xs ys e k =
    parted xs
    ∙ ap₂ zip (e ∙ plan_changed t rule None (map (λ p. p.0) ys) ∙ ap (trees_after t rule None) (sym (trees-view ys))) (ap (map string_bytes) k ∙ sym (keys-view ys))
    ∙ sym (each_after t rule [] (rendered_items_view ys) (rendered_items_view ys) refl)

-- as many changes as trees
pub plan-length : (rule : SubsequentAuthorSubstituteRule) (b : Option Elem) (trees : List (List Child)) → length (plan rule b trees) ≡ length trees
plan-length rule b [] = refl
plan-length rule b (tree ∷ trees) = ap suc (plan-length rule (next_base rule b tree) trees)

-- trees changed one by one
module _ {K : Type 0} where
  pub each_changed : (t : Formatted) (cs : List (Option Change)) (xs ys : List (List Child × K)) → length xs ≡ length ys → length ys ≤ length cs
      → ((k : ℕ) (d : List Child × K) → k < length ys → (get_or xs k d).0 ≡ tree_changed t (get_or cs k None) (get_or ys k d).0)
      → map (λ p. p.0) xs ≡ trees_changed t cs (map (λ p. p.0) ys)
  each_changed t [] [] [] e l h = refl
  each_changed t (c ∷ cs) [] [] e l h = refl
  each_changed t (c ∷ cs) (x ∷ xs) (y ∷ ys) e l h = ap₂ (λ p ps. p ∷ ps) (h 0 x (omega arith)) (each_changed t cs xs ys (omega (arith, e)) (omega (arith, l)) (λ k d m. h (suc k) d (omega (arith, m))))
  each_changed t [] (x ∷ xs) (y ∷ ys) e l h = absurd (omega (arith, l))
  each_changed t cs [] (y ∷ ys) e l h = absurd (omega (arith, e))
  each_changed t cs (x ∷ xs) [] e l h = absurd (omega (arith, e))

  pub each_key : (xs ys : List (List Child × K)) → length xs ≡ length ys → ((k : ℕ) (d : List Child × K) → (get_or xs k d).1 ≡ (get_or ys k d).1) → map (λ p. p.1) xs ≡ map (λ p. p.1) ys
  each_key [] [] e h = refl
  each_key (x ∷ xs) (y ∷ ys) e h = ap₂ (λ p ps. p ∷ ps) (h 0 x) (each_key xs ys (omega (arith, e)) (λ k d. h (suc k) d))
  each_key [] (y ∷ ys) e h = absurd (omega (arith, e))
  each_key (x ∷ xs) [] e h = absurd (omega (arith, e))

-- where a call succeeds and leaves trees and keys
both_ok : {T E P Q R : Type 0} (r : Result T E) → (P → Q → R) → OnOk r P → OnOk r Q → OnOk r R
both_ok (Ok x) f p q = f p q
both_ok (Err e) f p q = p

module _ {T E : Type 0} where
  pub all_substituted : (r : Result T E) (rule : SubsequentAuthorSubstituteRule) (o : Option (Bor (List ℕ))) (b : Bor (List ℕ)) (t : Formatted) (cs : List (Option Change)) (xs ys : List (List Child × String Global))
      → o ≡ Some b → t ≡ substitute_text b.now → cs ≡ plan rule None (map (λ p. p.0) ys)
      → OnOk r (map (λ p. p.0) xs ≡ trees_changed t cs (map (λ p. p.0) ys)) → OnOk r (map (λ p. p.1) xs ≡ map (λ p. p.1) ys)
      → OnOk r (rendered_items_view xs ≡ substituted (option_map (λ s. s.now) o) rule (rendered_items_view ys))
  all_substituted r rule o b t cs xs ys i e f =
      let whole = ap₂ (λ u ds. trees_changed u ds (map (λ p. p.0) ys)) e f in
      both_ok r (λ p k. all_after (substitute_text b.now) rule xs ys (p ∙ whole) k ∙ sym (ap (λ s. substituted (option_map (λ c. c.now) s) rule (rendered_items_view ys)) i))
