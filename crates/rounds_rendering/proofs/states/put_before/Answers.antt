use Rattle.std.proofs.Common.{◌<◌, None, ap, get_or, length, subst, sym, ◌∙◌}
use Rattle.std.specs.Option.{option_or}
use Rattle.std.proofs.lemmas.List.{get_or_default}
use Rattle.driver_passes.proofs.Halves.{put}
use Rattle.rounds_rendering.proofs.states.put_before.Goals as goal

pub loop-place-preserved : goal.loop-place-preserved
loop-place-preserved c =
    let states = c.args.states.now in
    let p = c.loop-place.place in
    let kept = c.index-kept-place.result in
    let found = c.index-states-place.result in
    let within : p < length states = subst (λ n. p < n) (sym c.requires.same) c.loop-place-test.true in
    put (λ p. option_or (get_or states p None)) p c.args.kept.now c.loop-place.kept kept c.put_state_before.new.kept c.loop-place.invariant c.loop-place-test.true
    (c.in_ok-put_state_before.ensures
    ∙ ap (λ s. option_or s (get_or c.loop-place.kept p kept)) (c.index-states-place.is ∙ get_or_default states p found None within))
