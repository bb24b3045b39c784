-- All items at the end of the loop.
use Rattle.std.proofs.Common.{arith}
use Rattle.mentions_authors.proofs.Repeating.{each-changed}
use Rattle.mentions_authors.proofs.substitution.rewrite_each.Goals as goal

pub returns : goal.returns
returns c =
    let l = c.loop-i.invariant in
    each-changed c.args.substitute.now c.args.told.now c.loop-i.items c.args.items.now l.same_length c.requires (λ k d h. l.visited k d (omega (arith, h))) l.keys
