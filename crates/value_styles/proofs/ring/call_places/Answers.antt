-- All macros, by the places that the map keeps.
use Rattle.std.proofs.Common.{◌≡◌, ℕ, ◌++◌, ◌∙◌, List, Option, map, sym, ap, arith}
use Rattle.std.proofs.lemmas.List.{append-nil, drop_all}
use Rattle.std.specs.List.{filter_map}
use Rattle.value_styles.specs.Calls.{calls_of_all}
use Rattle.value_styles.specs.Element.{Name, Macro}
use Rattle.value_styles.specs.ElementView.{macros_view}
use Rattle.value_styles.specs.Places.{Places}
use Rattle.value_styles.specs.NamedPlaces.{place_named}
use Rattle.value_styles.specs.Ring.{place_of_macro, call_places}
use Rattle.value_styles.proofs.ring.call_places.Goals as goal

same_rows : (named : Name → Option ℕ) (ms : List Macro) → ((name : Name) → named name ≡ place_of_macro name ms) → map (λ (m : Macro). filter_map named (calls_of_all m.children)) ms ≡ call_places ms
same_rows named ms e = λ i. map (λ (m : Macro). filter_map (λ name. e name i) (calls_of_all m.children)) ms

pub returns : goal.returns
returns c =
    let l = c.loop-each in
    let xs = c.args.macros.now in
    let row : Macro → Places = λ m. filter_map (place_named c.in_ok-places.places) (calls_of_all m.children) in
    let none = ap (λ ys. map row (macros_view ys)) (drop_all l.each-index xs (omega (arith, c.loop-each-test.false))) in
    let rows : List Places = map (λ row. row.items) l.rows.items in
    sym (append-nil rows) ∙ ap (λ ys. rows ++ ys) (sym none) ∙ l.invariant
    ∙ same_rows (place_named c.in_ok-places.places) (macros_view c.args.macros.now) c.in_ok-places.ensures
