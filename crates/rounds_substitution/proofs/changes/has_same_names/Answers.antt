-- Lists of names of one length.
use Rattle.std.proofs.Common.{arith}
use Rattle.rounds_substitution.proofs.Leading.{all_in_common}
use Rattle.rounds_substitution.proofs.changes.has_same_names.Goals as goal

pub returns-then-len : goal.returns-then-len
returns-then-len c =
    all_in_common c.args.kept.now.names.items c.args.own.now.names.items _ _ c.names_in_common.result c.len-then-len.result
    c.args.kept.now.listed c.args.own.now.listed (omega arith) c.names_in_common.ensures (omega arith)
