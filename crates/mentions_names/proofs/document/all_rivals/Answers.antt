use Rattle.std.proofs.Common.{subst}
use Rattle.std.specs.List.{flat_map}
use Rattle.mentions_names.specs.Known.{person_keys}
use Rattle.mentions_names.specs.Persons.{names_asking}
use Rattle.mentions_names.specs.Rivals.{TellsMore}
use Rattle.mentions_names.proofs.Beside.{none-yet}
use Rattle.mentions_names.proofs.Stepping.{rivals-next}
use Rattle.mentions_names.proofs.document.all_rivals.Goals as goal

pub loop-mention-init : goal.loop-mention-init
loop-mention-init c = none-yet c.new-rivals.result c.new-rivals.ensures.empty

pub loop-mention-preserved : goal.loop-mention-preserved
loop-mention-preserved c =
    rivals-next c.args.mentions.now c.loop-mention.mention-index c.mention-item.result c.loop-mention-test.true c.mention-item.is (λ m. flat_map person_keys (names_asking m))
    c.loop-mention.rivals c.add_names.new.rivals c.loop-mention.invariant
    (subst (λ ns. TellsMore c.loop-mention.rivals c.add_names.new.rivals (flat_map person_keys ns)) c.names_asking.ensures c.in_ok-add_names.ensures)
