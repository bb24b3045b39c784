use Rattle.std.proofs.Common.{ap, not, ◌&&◌, sym, ◌∙◌}
use Rattle.driver_lookup.specs.declared.state.DisambiguateState.TheVariants.{Choose}
use Rattle.driver_passes.specs.RendersView.{item_view, renders_view}
use Rattle.rounds_ambiguity.specs.ChooseMarks.{asks}
use Rattle.rounds_ambiguity.specs.Members.{entry_of}
use Rattle.rounds_ambiguity.proofs.Walks.{marks-skip, marks-more, marks-end}
use Rattle.rounds_ambiguity.proofs.choose.marks_of_others.Goals as goal
use Rattle.rounds_ambiguity.proofs.choose.marks_of_others.Goals.{then-asks_for_another+in_ok-push, else-asks_for_another}

pub loop-place-preserved : goal.loop-place-preserved
loop-place-preserved g c = elim c.if-asks_for_another.branch [
  | then-asks_for_another+in_ok-push w ↦
      marks-more (renders_view c.args.cites.now) (λ m. m.item) c.args.group.now c.loop-place.place-index (0, 0) (item_view c.member_at.result.now) c.loop-place-test.true c.member_at.ensures
      (λ i. i.checked_disambiguate && not (g.T.PartialEq.eq c.args.spared.now i.entry)) Choose c.loop-place.marks.items c.if-asks_for_another.marks.items _ c.loop-place.invariant
      (sym c.asks_for_another.ensures ∙ w.if-asks_for_another.true) (ap (λ v. v.items) w.marks-is ∙ w.in_ok-push.ensures.items)
  | else-asks_for_another w ↦
      marks-skip (renders_view c.args.cites.now) (λ m. m.item) c.args.group.now c.loop-place.place-index (0, 0) (item_view c.member_at.result.now) c.loop-place-test.true c.member_at.ensures
      (λ i. i.checked_disambiguate && not (g.T.PartialEq.eq c.args.spared.now i.entry)) Choose c.loop-place.marks.items c.if-asks_for_another.marks.items _ c.loop-place.invariant
      (sym c.asks_for_another.ensures ∙ w.if-asks_for_another.false) (ap (λ v. v.items) w.marks-is)
]

pub returns : goal.returns
returns g c =
    marks-end (renders_view c.args.cites.now) (λ m. asks m && not (g.T.PartialEq.eq c.args.spared.now (entry_of m))) Choose c.args.group.now c.loop-place.place-index c.loop-place.marks.items _
    c.loop-place-test.false c.loop-place.invariant
