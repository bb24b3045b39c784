use Rattle.std.proofs.Common.{subst, ◌∙◌}
use Rattle.std.specs.List.{flat_map}
use Rattle.std.proofs.lemmas.List.{take_all}
use Rattle.mentions_names.specs.Gathered.{shown_at}
use Rattle.mentions_names.specs.Rivals.{TellsMore}
use Rattle.mentions_names.proofs.Beside.{tells-nothing}
use Rattle.mentions_names.proofs.Stepping.{tells-next}
use Rattle.mentions_names.proofs.gathered.add_way.Goals as goal

pub loop-stop-init : goal.loop-stop-init
loop-stop-init c = tells-nothing c.args.beside.now

pub loop-stop-preserved : goal.loop-stop-preserved
loop-stop-preserved c =
    tells-next c.as_slice-stop-items.result.now c.loop-stop.stop-index c.stop-item.result c.loop-stop-test.true c.stop-item.is (shown_at c.args.way.now.by_cite) c.args.beside.now
    c.loop-stop.beside c.add_stop.new.beside c.loop-stop.invariant c.in_ok-add_stop.ensures

pub returns : goal.returns
returns c =
    subst (λ l. TellsMore c.args.beside.now c.loop-stop.beside (flat_map (shown_at c.args.way.now.by_cite) l))
    (take_all c.loop-stop.stop-index c.as_slice-stop-items.result.now c.loop-stop-test.false ∙ c.as_slice-stop-items.ensures) c.loop-stop.invariant
