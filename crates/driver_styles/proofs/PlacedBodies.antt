-- The children of the first macro of a name, by its place.
use Rattle.std.proofs.Common.{◌≡◌, ℕ, suc, List, [], ◌∷◌, cond, Bool, true, false, Option, Some, None, option_map, refl, ◌∙◌}
use Rattle.std.specs.Prelude.{bytes_eq, slice_get}
use Rattle.value_styles.specs.Element.{Name, Elements, Macro}
use Rattle.value_styles.specs.Ring.{body_of, place_of_macro}

abbrev pub body_at : List Macro → Option ℕ → Option Elements
body_at ms None = None
body_at ms (Some i) = option_map (λ m. m.children) (slice_get ms i)

body_at-next : (m : Macro) (ms : List Macro) (o : Option ℕ) → body_at ms o ≡ body_at (m ∷ ms) (option_map (λ i. suc i) o)
body_at-next m ms None = refl
body_at-next m ms (Some i) = refl

pub body_of-place : (name : Name) (ms : List Macro) → body_of name ms ≡ body_at ms (place_of_macro name ms)
body_of-place name [] = refl
body_of-place name (m ∷ ms) =
    let by : (b : Bool) → cond b (Some m.children) (body_of name ms) ≡ body_at (m ∷ ms) (cond b (Some 0) (option_map (λ i. suc i) (place_of_macro name ms))) = λ b.
    elim b as (λ b. cond b (Some m.children) (body_of name ms) ≡ body_at (m ∷ ms) (cond b (Some 0) (option_map (λ i. suc i) (place_of_macro name ms)))) [
      | true ↦ refl
      | false ↦ body_of-place name ms ∙ body_at-next m ms (place_of_macro name ms)
    ] in
    by (bytes_eq m.name name)
