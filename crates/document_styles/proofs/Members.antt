-- The members of an object are read one after another.
use Rattle.std.proofs.Common.{◌≡◌, ℕ, suc, get_or, BTreeMap, string_cmp, List, [], ◌∷◌, ◌++◌, Option, Some, None, refl, ap, ◌∙◌, sym, append_assoc, append-nil, string_bytes, map, subst, arith}
use Rattle.std.specs.Prelude.{option_map, option_and_then, String}
use Rattle.std.proofs.lemmas.List.{map-append}
use Rattle.std.specs.BTreeMap.{get}
use Rattle.std.specs.List.{All}
use Rattle.std.specs.declared.alloc.Global.{Global}
use Rattle.serde_json.proofs.Views.{view-lookup}
use Rattle.serde_json.specs.Data.{Data}
use Rattle.serde_json.specs.Find.{get_member}
use Rattle.serde_json.specs.View.{view, members_view}
use Rattle.serde_json.specs.declared.value.Value.{Value}
use Rattle.document_values.specs.Words.{member_form, all_members}

-- members as the code has them
abbrev pub Entries : Type 0
Entries = List (String Global × Value)

-- one before others
abbrev before : {X : Type 0} → Option (List X) → Option X → Option (List X)
before others o = option_and_then (λ x. option_and_then (λ xs. Some (x ∷ xs)) others) o

module _ {A : Type 0} (f : Data → Option A) where
  -- the members before the rest gave xs; what the rest gives completes what all give
  abbrev pub MembersProgress : Entries → Entries → List (List ℕ × A) → Type 0
  MembersProgress whole rest xs = option_map (λ t. xs ++ t) (all_members f (members_view rest)) ≡ all_members f (members_view whole)

  pub MembersProgress-start : (whole rest : Entries) → rest ≡ whole → MembersProgress whole rest []
  MembersProgress-start whole rest e = by (all_members f (members_view rest)) ∙ ap (λ ms. all_members f (members_view ms)) e
    where
      by : (o : Option (List (List ℕ × A))) → option_map (λ t. [] ++ t) o ≡ o
      by None = refl
      by (Some xs) = refl

  joins : (xs : List (List ℕ × A)) (y : List ℕ × A) (o : Option (List (List ℕ × A)))
      → option_map (λ t. xs ++ t) (before o (Some y)) ≡ option_map (λ t. (xs ++ y ∷ []) ++ t) o
  joins xs y None = refl
  joins xs y (Some zs) = ap Some (sym (append_assoc xs (y ∷ []) zs))

  pub MembersProgress-more : (whole rest others : Entries) (xs : List (List ℕ × A)) (m : String Global × Value) (y : List ℕ × A)
      → rest ≡ m ∷ others → member_form f (string_bytes m.0) (view m.1) ≡ Some y → MembersProgress whole rest xs → MembersProgress whole others (xs ++ y ∷ [])
  MembersProgress-more whole rest others xs m y e r was =
      sym (joins xs y (all_members f (members_view others)))
      ∙ ap (λ o. option_map (λ t. xs ++ t) (before (all_members f (members_view others)) o)) (sym r)
      ∙ ap (λ ms. option_map (λ t. xs ++ t) (all_members f (members_view ms))) (sym e) ∙ was

  pub MembersProgress-pushed : {X : Type 0} (g : X → List ℕ × A) (whole rest others : Entries) (xs ys : List X) (m : String Global × Value) (x : X)
      → rest ≡ m ∷ others → member_form f (string_bytes m.0) (view m.1) ≡ Some (g x) → ys ≡ xs ++ x ∷ []
      → MembersProgress whole rest (map g xs) → MembersProgress whole others (map g ys)
  MembersProgress-pushed g whole rest others xs ys m x e r p was =
      subst (MembersProgress whole others) (sym (map-append g xs (x ∷ [])) ∙ ap (map g) (sym p)) (MembersProgress-more whole rest others (map g xs) m (g x) e r was)

  pub MembersProgress-none : (whole rest others : Entries) (xs : List (List ℕ × A)) (m : String Global × Value)
      → rest ≡ m ∷ others → member_form f (string_bytes m.0) (view m.1) ≡ None → MembersProgress whole rest xs → all_members f (members_view whole) ≡ None
  MembersProgress-none whole rest others xs m e r was =
      sym was ∙ ap (λ ms. option_map (λ t. xs ++ t) (all_members f (members_view ms))) e
      ∙ ap (λ o. option_map (λ t. xs ++ t) (before (all_members f (members_view others)) o)) r

  pub MembersProgress-end : (whole rest : Entries) (xs : List (List ℕ × A)) → rest ≡ [] → MembersProgress whole rest xs
      → all_members f (members_view whole) ≡ Some xs
  MembersProgress-end whole rest xs e was =
      sym was ∙ ap (λ ms. option_map (λ t. xs ++ t) (all_members f (members_view ms))) e ∙ ap Some (append-nil xs)

-- each of these members is what the object has under its key
abbrev pub AreFound : Entries → Entries → Type 0
AreFound whole rest = All (λ m. get_member (string_bytes m.0) (members_view whole) ≡ Some (view m.1)) rest

pub AreFound-start : (members : BTreeMap (String Global) Value) (rest : Entries) → rest ≡ members.entries
    → All (λ m. get string_cmp members m.0 ≡ Some m.1) members.entries → AreFound members.entries rest
AreFound-start members rest e h =
    subst (AreFound members.entries) (sym e)
    (λ k d b. sym (view-lookup (string_bytes (get_or members.entries k d).0) members.entries) ∙ ap (option_map view) (h k d b))

pub AreFound-next : (whole rest others : Entries) (m : String Global × Value) → rest ≡ m ∷ others → AreFound whole rest → AreFound whole others
AreFound-next whole rest others m e h k d b = (subst (AreFound whole) e h) (suc k) d (omega (arith, b))

pub AreFound-first : (whole rest others : Entries) (m : String Global × Value) → rest ≡ m ∷ others → AreFound whole rest
    → get_member (string_bytes m.0) (members_view whole) ≡ Some (view m.1)
AreFound-first whole rest others m e h = (subst (AreFound whole) e h) 0 m (omega arith)
