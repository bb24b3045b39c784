use Rattle.std.proofs.Common.{◌/◌, ◌<◌, arith, length, sym}
use Rattle.std.proofs.lemmas.Option.{slice_get_past}
use Rattle.mentions_cites.specs.Mentions.{mention_index}
use Rattle.mentions_cites.proofs.Naming.{mention-past}
use Rattle.mentions_cites.proofs.mentions.by_mention.Goals as goal

pub returns-then-entry-half : goal.returns-then-entry-half
returns-then-entry-half g c =
    let all = c.args.all.now in
    let behind : length all / 2 < c.args.entry = omega arith in
    sym (slice_get_past all (mention_index c.args.entry c.args.is_first) (mention-past (length all) c.args.entry c.args.is_first behind))
