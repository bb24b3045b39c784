use Rattle.std.proofs.Common.{◌<◌, ◌≤◌, ap, arith, length, min, ◌∙◌}
use Rattle.mentions_cites.specs.Mentions.{first_with_names, kept_last}
use Rattle.mentions_cites.specs.NotedNames.{first_noted}
use Rattle.mentions_cites.proofs.Naming.{known-next, last-there, lasts-all, lasts-next, none-noted}
use Rattle.mentions_cites.proofs.mentions.noted_names.Goals as goal

pub loop-k-init : goal.loop-k-init
loop-k-init c = none-noted c.new-noted.result (kept_last c.args.firsts.now c.args.again.now) c.new-noted.ensures.empty

pub loop-k-preserved : goal.loop-k-preserved
loop-k-preserved c =
    let firsts = c.args.firsts.now in
    let again = c.args.again.now in
    let k = c.loop-k.k in
    let first = c.index-firsts-k.result in
    let more = c.index-again-k.result in
    let last = c.last_of-last.result.now in
    let v : k < length firsts = omega arith in
    let w : k < length again = omega arith in
    known-next (kept_last firsts again) k last (last-there firsts again k first more v w c.index-firsts-k.is c.index-again-k.is)
    (lasts-next firsts again k first more v w c.index-firsts-k.is c.index-again-k.is last c.last_of-last.ensures) (first_noted c.loop-k.noted) (first_noted c.note_names.new.noted) c.loop-k.invariant
    c.in_ok-note_names.ensures

pub returns : goal.returns
returns c =
    let firsts = c.args.firsts.now in
    let again = c.args.again.now in
    let k = c.loop-k.k in
    let past : min (length firsts) (length again) ≤ k = omega arith in
    λ n. c.loop-k.invariant n ∙ ap (λ l. first_with_names l n) (lasts-all firsts again k past)
