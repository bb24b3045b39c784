use Rattle.mentions_names.specs.Known.{person_keys}
use Rattle.mentions_names.proofs.Beside.{tells-nothing}
use Rattle.mentions_names.proofs.Stepping.{tells-next}
use Rattle.mentions_names.proofs.document.add_names.Goals as goal

pub loop-name-init : goal.loop-name-init
loop-name-init c = tells-nothing c.args.rivals.now

pub loop-name-preserved : goal.loop-name-preserved
loop-name-preserved c =
    tells-next c.args.names.now c.loop-name.name-index c.name-item.result c.loop-name-test.true c.name-item.is person_keys c.args.rivals.now c.loop-name.rivals c.add_person.new.rivals
    c.loop-name.invariant c.in_ok-add_person.ensures
