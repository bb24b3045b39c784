-- What `remove_any_meta` gives and leaves, where a child has a meta and where none has.
use Rattle.std.proofs.Common.{arith, sym, ap, ◌∙◌, option_map}
use Rattle.std.specs.List.{find, position, position_or_len, remove}
use Rattle.value_trees.specs.ChildView.{child_view}
use Rattle.value_trees.specs.Metas.{child_has_any_meta}
use Rattle.value_trees.proofs.FirstPlace.{seen, seen-length, seen-remove, remove_past, place_none, place_some, found_none, found_at}
use Rattle.value_trees.proofs.elem.ElemChildren.remove_any_meta.Goals as goal

pub returns-in_err-place-clause-value : goal.returns-in_err-place-clause-value
returns-in_err-place-clause-value c =
    let xs = c.self.inside.0.items in
    let none = place_none child_has_any_meta xs (ap (position (λ x. child_has_any_meta (child_view x))) (sym c.as_slice.ensures.value) ∙ sym c.first_with_meta.ensures ∙ c.in_err-place.was) in
    ap (option_map child_view) c.from_residual.ensures ∙ sym (found_none child_has_any_meta xs none) ∙ ap (find child_has_any_meta) c.self.view_is

pub returns-in_err-place-clause-rest : goal.returns-in_err-place-clause-rest
returns-in_err-place-clause-rest c =
    let xs = c.self.inside.0.items in
    let none = place_none child_has_any_meta xs (ap (position (λ x. child_has_any_meta (child_view x))) (sym c.as_slice.ensures.value) ∙ sym c.first_with_meta.ensures ∙ c.in_err-place.was) in
    sym (ap (λ cs. remove cs (position_or_len child_has_any_meta cs)) (sym c.self.view_is)
    ∙ remove_past (seen xs) (position_or_len child_has_any_meta (seen xs)) (omega (arith, none, seen-length xs))
    ∙ c.self.view_is)

pub returns-clause-value : goal.returns-clause-value
returns-clause-value c =
    let xs = c.self.inside.0.items in
    let place = place_some child_has_any_meta xs c.in_ok-place.place (ap (position (λ x. child_has_any_meta (child_view x))) (sym c.as_slice.ensures.value) ∙ sym c.first_with_meta.ensures ∙ c.in_ok-place.was) in
    sym (found_at child_has_any_meta xs c.in_ok-place.place c.remove.result place.0 place.1 c.remove.ensures.value) ∙ ap (find child_has_any_meta) c.self.view_is

pub returns-clause-rest : goal.returns-clause-rest
returns-clause-rest c =
    let xs = c.self.inside.0.items in
    let place = place_some child_has_any_meta xs c.in_ok-place.place (ap (position (λ x. child_has_any_meta (child_view x))) (sym c.as_slice.ensures.value) ∙ sym c.first_with_meta.ensures ∙ c.in_ok-place.was) in
    ap seen c.remove.ensures.items
    ∙ seen-remove xs c.in_ok-place.place
    ∙ ap (remove (seen xs)) place.0
    ∙ ap (λ cs. remove cs (position_or_len child_has_any_meta cs)) c.self.view_is
