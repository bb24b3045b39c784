use Rattle.std.proofs.Common.{Some, ap, length, map, sym, ◌∙◌}
use Rattle.std.specs.Vec.Iter.{into_iter_items}
use Rattle.std.proofs.lemmas.List.{with_items_is}
use Rattle.rounds_rendering.proofs.Raising.{length-raised, one-more, raised}
use Rattle.rounds_rendering.proofs.states.greatest_marks.Goals as goal

pub loop-at-preserved-in-Some-entry_place : goal.loop-at-preserved-in-Some-entry_place
loop-at-preserved-in-Some-entry_place c =
    let states = c.loop-at.states in
    let mark = c.in-Some.mark in
    let place = Some c.in-Some-entry_place.place in
    let made = c.raise_at.ensures ∙ ap (raised place mark) c.deref_mut.ensures.value in
    let long = ap length made ∙ length-raised place mark states.items ∙ sym states.ok.0 in
    one-more (map (λ ps. ps.items) c.args.places.now) c.args.count c.args.marks.items states.items _ (c.in-Some.at, mark) (into_iter_items c.next.new.self)
    (into_iter_items c.loop-at.at-iterator) c.in-Some.ensures.steps.0
    (with_items_is states c.raise_at.new.states long ∙ made ∙ ap (λ o. raised o mark states.items) (sym c.in-Some-entry_place.is ∙ c.entry_place.ensures)) c.loop-at.invariant

pub loop-at-preserved : goal.loop-at-preserved
loop-at-preserved c =
    let place = c.in_default.is in
    one-more (map (λ ps. ps.items) c.args.places.now) c.args.count c.args.marks.items c.loop-at.states.items c.loop-at.states.items (c.in-Some.at, c.in-Some.mark) (into_iter_items c.next.new.self)
    (into_iter_items c.loop-at.at-iterator) c.in-Some.ensures.steps.0 (ap (λ o. raised o c.in-Some.mark c.loop-at.states.items) (sym place ∙ c.entry_place.ensures)) c.loop-at.invariant

pub loop-at-preserved-in_default : goal.loop-at-preserved-in_default
loop-at-preserved-in_default c =
    let place = c.in_default.is in
    one-more (map (λ ps. ps.items) c.args.places.now) c.args.count c.args.marks.items c.loop-at.states.items c.loop-at.states.items (c.in-Some.at, c.in-Some.mark) (into_iter_items c.next.new.self)
    (into_iter_items c.loop-at.at-iterator) c.in-Some.ensures.steps.0 (ap (λ o. raised o c.in-Some.mark c.loop-at.states.items) (sym place ∙ c.entry_place.ensures)) c.loop-at.invariant
