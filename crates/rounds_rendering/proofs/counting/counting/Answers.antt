use Rattle.std.proofs.Common.{◌++◌, ap, filter, sym, ◌∙◌}
use Rattle.std.specs.Vec.Iter.{into_iter_items}
use Rattle.driver_passes.specs.RendersView.{renders_view}
use Rattle.rounds_runs.specs.RoundMarks.{counts}
use Rattle.rounds_rendering.proofs.Counted.{kept-more, kept-skip}
use Rattle.rounds_rendering.proofs.counting.counting.Goals as goal

pub loop-place-init : goal.loop-place-init
loop-place-init g c =
    let rs = renders_view c.args.cites.now in
    ap (λ l. l ++ filter (counts rs) (into_iter_items c.into_iter-place-iterator.result)) c.new-kept.ensures.items
    ∙ ap (filter (counts rs)) c.into_iter-place-iterator.ensures.into_iter_gives.0

pub loop-place-preserved-in-Continue-1 : goal.loop-place-preserved-in-Continue-1
loop-place-preserved-in-Continue-1 g c =
    kept-more (counts (renders_view c.args.cites.now)) c.loop-place.kept.items _ (into_iter_items c.next.new.self) (into_iter_items c.loop-place.place-iterator) (c.in-Some.place, c.in-Some.mark)
    c.in-Some.ensures.steps.0 c.loop-place.invariant c.push.new.self.items (sym c.counts.ensures ∙ c.if-counts.true) c.in_ok-push.ensures.items

pub loop-place-preserved-else-counts : goal.loop-place-preserved-else-counts
loop-place-preserved-else-counts g c =
    kept-skip (counts (renders_view c.args.cites.now)) c.loop-place.kept.items _ (into_iter_items c.next.new.self) (into_iter_items c.loop-place.place-iterator) (c.in-Some.place, c.in-Some.mark)
    c.in-Some.ensures.steps.0 c.loop-place.invariant (sym c.counts.ensures ∙ c.if-counts.false)

pub loop-place-preserved : goal.loop-place-preserved
loop-place-preserved g c =
    kept-skip (counts (renders_view c.args.cites.now)) c.loop-place.kept.items _ (into_iter_items c.next.new.self) (into_iter_items c.loop-place.place-iterator) (c.in-Some.place, c.in-Some.mark)
    c.in-Some.ensures.steps.0 c.loop-place.invariant (sym c.counts.ensures ∙ c.if-counts.false)
