use Rattle.std.proofs.Common.{subst}
use Rattle.mentions_names.specs.Known.{everywhere}
use Rattle.mentions_names.specs.Rivals.{TellsMore, named_keys}
use Rattle.mentions_names.proofs.document.add_person.Goals as goal

pub returns : goal.returns
returns c =
    subst (λ r. TellsMore c.args.rivals.now c.add_named.new.rivals (named_keys everywhere r)) c.in_ok-look.ensures c.in_ok-add_named.ensures
