-- The members of an object of driven styles are read one after another.
use Rattle.std.proofs.Common.{◌≡◌, ℕ, List, [], ◌∷◌, ◌++◌, Option, Some, None, refl, ap, ◌∙◌, sym, append_assoc, append-nil, string_bytes, map, subst}
use Rattle.std.specs.Prelude.{option_and_then, option_map, String}
use Rattle.std.proofs.lemmas.List.{map-append}
use Rattle.std.specs.declared.alloc.Global.{Global}
use Rattle.serde_json.specs.Data.{Data}
use Rattle.serde_json.specs.View.{view, members_view}
use Rattle.serde_json.specs.declared.value.Value.{Value}
use Rattle.document_values.specs.Words.{member_form}
use Rattle.document_styles.specs.Styles.{NamedStyle}
use Rattle.document_styles.proofs.Members.{Entries}
use Rattle.document_driven.specs.DrivenStyles.{driven_members, driven_style_form}

-- one before others
abbrev before : Option (List NamedStyle) → Option NamedStyle → Option (List NamedStyle)
before others o = option_and_then (λ x. option_and_then (λ xs. Some (x ∷ xs)) others) o

-- what a member is
abbrev pub driven_member : List ℕ → Data → Option NamedStyle
driven_member name d = member_form (driven_style_form name) name d

-- the members before the rest gave xs; what the rest gives completes what all give
abbrev pub DrivenProgress : Entries → Entries → List NamedStyle → Type 0
DrivenProgress whole rest xs = option_map (λ t. xs ++ t) (driven_members (members_view rest)) ≡ driven_members (members_view whole)

pub DrivenProgress-start : (whole rest : Entries) → rest ≡ whole → DrivenProgress whole rest []
DrivenProgress-start whole rest e = by (driven_members (members_view rest)) ∙ ap (λ ms. driven_members (members_view ms)) e
  where
    by : (o : Option (List NamedStyle)) → option_map (λ t. [] ++ t) o ≡ o
    by None = refl
    by (Some xs) = refl

joins : (xs : List NamedStyle) (y : NamedStyle) (o : Option (List NamedStyle))
    → option_map (λ t. xs ++ t) (before o (Some y)) ≡ option_map (λ t. (xs ++ y ∷ []) ++ t) o
joins xs y None = refl
joins xs y (Some zs) = ap Some (sym (append_assoc xs (y ∷ []) zs))

more : (whole rest others : Entries) (xs : List NamedStyle) (m : String Global × Value) (y : NamedStyle)
    → rest ≡ m ∷ others → driven_member (string_bytes m.0) (view m.1) ≡ Some y → DrivenProgress whole rest xs → DrivenProgress whole others (xs ++ y ∷ [])
more whole rest others xs m y e r was =
    sym (joins xs y (driven_members (members_view others)))
    ∙ ap (λ o. option_map (λ t. xs ++ t) (before (driven_members (members_view others)) o)) (sym r)
    ∙ ap (λ ms. option_map (λ t. xs ++ t) (driven_members (members_view ms))) (sym e) ∙ was

pub DrivenProgress-pushed : {X : Type 0} (g : X → NamedStyle) (whole rest others : Entries) (xs ys : List X) (m : String Global × Value) (x : X)
    → rest ≡ m ∷ others → driven_member (string_bytes m.0) (view m.1) ≡ Some (g x) → ys ≡ xs ++ x ∷ []
    → DrivenProgress whole rest (map g xs) → DrivenProgress whole others (map g ys)
DrivenProgress-pushed g whole rest others xs ys m x e r p was =
    subst (DrivenProgress whole others) (sym (map-append g xs (x ∷ [])) ∙ ap (map g) (sym p)) (more whole rest others (map g xs) m (g x) e r was)

pub DrivenProgress-none : (whole rest others : Entries) (xs : List NamedStyle) (m : String Global × Value)
    → rest ≡ m ∷ others → driven_member (string_bytes m.0) (view m.1) ≡ None → DrivenProgress whole rest xs → driven_members (members_view whole) ≡ None
DrivenProgress-none whole rest others xs m e r was =
    sym was ∙ ap (λ ms. option_map (λ t. xs ++ t) (driven_members (members_view ms))) e
    ∙ ap (λ o. option_map (λ t. xs ++ t) (before (driven_members (members_view others)) o)) r

pub DrivenProgress-end : (whole rest : Entries) (xs : List NamedStyle) → rest ≡ [] → DrivenProgress whole rest xs
    → driven_members (members_view whole) ≡ Some xs
DrivenProgress-end whole rest xs e was =
    sym was ∙ ap (λ ms. option_map (λ t. xs ++ t) (driven_members (members_view ms))) e ∙ ap Some (append-nil xs)
