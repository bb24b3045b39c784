-- All items at the end of the loop.
use Rattle.std.proofs.Common.{arith}
use Rattle.rounds_substitution.proofs.Planning.{each_changed, each_key}
use Rattle.rounds_substitution.proofs.substitution.carry_out.Goals as goal

pub returns-clause-trees : goal.returns-clause-trees
returns-clause-trees c =
    let l = c.loop-i.invariant in
    each_changed c.args.text.now c.args.changes.now c.loop-i.items c.args.items.now l.same_length c.requires (λ k d h. l.visited k d (omega (arith, h)))

pub returns-clause-keys : goal.returns-clause-keys
returns-clause-keys c =
    let l = c.loop-i.invariant in each_key c.loop-i.items c.args.items.now l.same_length l.keys
