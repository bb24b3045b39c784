-- One more macro.
use Rattle.std.proofs.Common.{◌≡◌, ◌<◌, ◌∙◌, List, Some, length, take, cond, unwrap_or, sym, ap, subst}
use Rattle.std.proofs.lemmas.Map.Text.{btree_map_updates_text}
use Rattle.std.specs.Prelude.{bytes_eq, string_bytes}
use Rattle.value_styles.specs.Element.{Name, Macro}
use Rattle.value_styles.specs.ElementView.{macro_view, macros_view}
use Rattle.value_styles.specs.NamedPlaces.{place_named}
use Rattle.value_styles.specs.Ring.{place_of_macro}
use Rattle.value_styles.proofs.NamedPlaces.{next_name, macros-next, length-macros}
use Rattle.value_styles.proofs.ring.first_indices.Goals as goal

pub loop-i-preserved : goal.loop-i-preserved
loop-i-preserved c =
    let l = c.loop-i in
    let xs = c.args.macros.now in
    let m = macro_view c.index-macros-i.result in
    let before = macros_view (take l.i xs) in
    let lt : l.i < length xs = c.loop-i-test.true in
    let named : c.as_str-name.result.now ≡ m.name = c.as_str-name.ensures.value ∙ ap (λ x. (macro_view x).name) (sym c.index-macros-i.is) in
    let key = c.in_ok-from_str.field-0 in
    let copied : string_bytes key ≡ c.as_str-name.result.now = c.in_ok-from_str.ensures.ok in
    let at = length-macros xs l.i lt in
    let first : c.unwrap_or-first.result ≡ unwrap_or (place_named l.places c.as_str-name.result.now) l.i = c.unwrap_or-first.ensures ∙ ap (λ o. unwrap_or o l.i) (c.copied.ensures ∙ c.get.ensures.value) in
    let adds : (name : Name) → place_named c.insert.new.self name ≡ cond (bytes_eq m.name name) (Some (unwrap_or (place_named l.places m.name) (length before))) (place_named l.places name) = λ name.
    btree_map_updates_text (string_bytes key) l.places c.insert.new.self (Some c.unwrap_or-first.result) c.in_ok-insert.ensures.updates name
    ∙ (λ j. cond (bytes_eq (copied j) name) (Some c.unwrap_or-first.result) (place_named l.places name))
    ∙ (λ j. cond (bytes_eq (named j) name) (Some (first j)) (place_named l.places name))
    ∙ (λ j. cond (bytes_eq m.name name) (Some (unwrap_or (place_named l.places (named j)) (sym at j))) (place_named l.places name)) in
    let Holds : List Macro → Type 0 = λ ms. (name : Name) → place_named c.insert.new.self name ≡ place_of_macro name ms in
    subst Holds (sym (macros-next xs l.i c.index-macros-i.result lt c.index-macros-i.is)) (next_name (place_named l.places) (place_named c.insert.new.self) before m l.invariant adds)
