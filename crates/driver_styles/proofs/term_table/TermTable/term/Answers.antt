-- A name and form that the table has, and one that it doesn't have.
use Rattle.std.proofs.Common.{◌<◌, ◌∙◌, length, map, option_map, option_and_then, sym, ap, refl, arith}
use Rattle.std.specs.Prelude.{slice_get}
use Rattle.std.proofs.lemmas.List.{length-map}
use Rattle.std.proofs.lemmas.Option.{slice_get-map, slice_get_read}
use Rattle.value_styles.specs.StyleView.{term_view}
use Rattle.driver_styles.specs.Terms.{is_term}
use Rattle.driver_styles.proofs.FoundPlaces.{find-place, place_within}
use Rattle.driver_styles.proofs.term_table.TermTable.term.Goals as goal

pub index-requires : goal.index-requires
index-requires c =
    let s = c.args.self.now in
    let terms = s.locale.now.terms in
    let there = sym (s.table (c.args.name, c.args.form)) ∙ sym c.in_ok-place.ensures.value in
    omega (arith, place_within (is_term c.args.name c.args.form) (map term_view terms.items) c.in_ok-place.place.now there, length-map terms.items term_view, terms.ok.0)

pub returns : goal.returns
returns c =
    let s = c.args.self.now in
    let xs = s.locale.now.terms.items in
    let test = is_term c.args.name c.args.form in
    let i = c.in_ok-place.place.now in
    let there = sym (s.table (c.args.name, c.args.form)) ∙ sym c.in_ok-place.ensures.value in
    let lt : i < length xs = omega (arith, place_within test (map term_view xs) i there, length-map xs term_view) in
    let read = slice_get-map term_view xs i ∙ ap (option_map term_view) (slice_get_read xs (length xs) i c.index.result.now refl lt c.index.ensures) in
    sym (find-place test (map term_view xs) ∙ ap (option_and_then (slice_get (map term_view xs))) there ∙ read)

pub returns-in_err-place : goal.returns-in_err-place
returns-in_err-place c =
    let s = c.args.self.now in
    let ts = map term_view s.locale.now.terms.items in
    let none = sym (s.table (c.args.name, c.args.form)) ∙ sym c.in_err-place.ensures.value in
    ap (option_map _) c.from_residual.ensures ∙ sym (find-place (is_term c.args.name c.args.form) ts ∙ ap (option_and_then (slice_get ts)) none)
