use Rattle.std.proofs.Common.{arith, refl, sym, ◌∙◌}
use Rattle.std.specs.List.{zip}
use Rattle.mentions_tables.specs.Steps.{chosen_by}
use Rattle.mentions_tables.proofs.Changing.{changed-all, changed-none, chosen-more, zip-length}
use Rattle.mentions_tables.proofs.chosen.choose_in.Goals as goal

pub loop-k-init : goal.loop-k-init
loop-k-init c = changed-none chosen_by (zip c.args.tested.now c.args.asked.now) c.args.states.now

pub loop-k-preserved : goal.loop-k-preserved
loop-k-preserved c =
    chosen-more c.loop-k.k c.args.tested.now c.args.asked.now c.args.states.now c.loop-k.states _ _ _ _ _ _ c.is_chosen.result c.loop-k.invariant c.loop-k-test.true c.requires.tested c.requires.asked
    refl refl c.is_chosen.ensures refl

pub returns : goal.returns
returns c =
    let test = c.loop-k-test.false in
    let tested = c.requires.tested in
    let long = zip-length c.args.tested.now c.args.asked.now (sym c.requires.tested ∙ c.requires.asked) in
    changed-all chosen_by c.loop-k.k (zip c.args.tested.now c.args.asked.now) c.args.states.now c.loop-k.states c.loop-k.invariant (omega arith)
