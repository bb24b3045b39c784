-- A name that the table has, and one that it doesn't have.
use Rattle.std.proofs.Common.{◌<◌, ◌∙◌, length, Some, option_map, sym, ap, refl, arith}
use Rattle.std.proofs.lemmas.List.{length-map}
use Rattle.std.proofs.lemmas.Option.{slice_get-map, slice_get_read}
use Rattle.std.specs.Prelude.{bytes_eq}
use Rattle.value_styles.specs.Element.{Macro}
use Rattle.value_styles.specs.ElementView.{elements_view, macro_view, macros_view}
use Rattle.driver_styles.proofs.FoundPlaces.{place_within}
use Rattle.driver_styles.proofs.PlacedBodies.{body_at, body_of-place}
use Rattle.driver_styles.proofs.macros.MacroTable.body_of.Goals as goal

pub index-requires : goal.index-requires
index-requires c =
    let s = c.args.self.now in
    let macros = s.style.now.macros in
    let there = sym (s.table c.args.name.now) ∙ sym c.in_ok-place.ensures.value in
    omega (arith, place_within (λ (m : Macro). bytes_eq m.name c.args.name.now) (macros_view macros.items) c.in_ok-place.place.now there, length-map macros.items macro_view, macros.ok.0)

pub returns : goal.returns
returns c =
    let s = c.args.self.now in
    let name = c.args.name.now in
    let xs = s.style.now.macros.items in
    let i = c.in_ok-place.place.now in
    let there = sym (s.table name) ∙ sym c.in_ok-place.ensures.value in
    let lt : i < length xs = omega (arith, place_within (λ (m : Macro). bytes_eq m.name name) (macros_view xs) i there, length-map xs macro_view) in
    let read = slice_get-map macro_view xs i ∙ ap (option_map macro_view) (slice_get_read xs (length xs) i c.index.result.now refl lt c.index.ensures) in
    ap (λ es. Some (elements_view es)) c.deref.ensures.value
    ∙ sym (body_of-place name (macros_view xs) ∙ ap (body_at (macros_view xs)) there ∙ ap (option_map (λ (m : Macro). m.children)) read)

pub returns-in_err-place : goal.returns-in_err-place
returns-in_err-place c =
    let s = c.args.self.now in
    let name = c.args.name.now in
    let ms = macros_view s.style.now.macros.items in
    ap (option_map _) c.from_residual.ensures ∙ sym (body_of-place name ms ∙ ap (body_at ms) (sym (s.table name) ∙ sym c.in_err-place.ensures.value))
