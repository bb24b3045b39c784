-- The places of first macros by name, as macros are added at the end.
use Rattle.std.proofs.Common.{◌≡◌, ℕ, ◌+◌, ◌<◌, List, [], ◌∷◌, ◌++◌, length, take, get_or, Bool, cond, Option, Some, unwrap_or, ap, sym, ◌∙◌, arith}
use Rattle.std.specs.Prelude.{bytes_eq}
use Rattle.std.proofs.lemmas.List.{map-append, take_more, length-map, length-take-le}
use Rattle.std.specs.Cmp.Lexicographic.{same_text}
use Rattle.value_styles.specs.Element.{Name, Macro}
use Rattle.value_styles.specs.ElementView.{macro_view, macros_view}
use Rattle.value_styles.specs.declared.element.CslMacro.{CslMacro}
use Rattle.value_styles.specs.Ring.{place_of_macro}
use Rattle.value_styles.proofs.FirstPlaces.{next_place}

abbrev by_name : Name → Macro → Bool
by_name name m = bytes_eq m.name name

-- a macro put under its name, at the place that is there already or else at its own
pub next_name : (named more : Name → Option ℕ) (ms : List Macro) (m : Macro) → ((name : Name) → named name ≡ place_of_macro name ms) → ((name : Name) → more name ≡ cond (bytes_eq m.name name) (Some (unwrap_or (named m.name) (length ms))) (named name)) → (name : Name) → more name ≡ place_of_macro name (ms ++ m ∷ [])
next_name named more ms m = next_place by_name m m.name (λ name e. ap by_name (same_text m.name name e)) named more ms

-- the macros up to the next one
pub macros-next : (xs : List CslMacro) (i : ℕ) (x : CslMacro) → i < length xs → x ≡ get_or xs i x → macros_view (take (i + 1) xs) ≡ macros_view (take i xs) ++ macro_view x ∷ []
macros-next xs i x h e = ap macros_view (take_more xs i x h ∙ ap (λ y. take i xs ++ y ∷ []) (sym e)) ∙ map-append macro_view (take i xs) (x ∷ [])

pub length-macros : (xs : List CslMacro) (i : ℕ) → i < length xs → length (macros_view (take i xs)) ≡ i
length-macros xs i h = length-map (take i xs) macro_view ∙ length-take-le i xs (omega arith)
