use Rattle.std.proofs.Common.{◌<◌, ◌≤◌, None, ap, arith, get_or, length, map, min, refl, ◌∙◌}
use Rattle.mentions_cites.specs.Mentions.{first_with_names, kept_last, told_mention}
use Rattle.mentions_cites.proofs.Naming.{told-all, told-next}
use Rattle.mentions_cites.proofs.mentions.mentions_by.Goals as goal

pub loop-k-preserved : goal.loop-k-preserved
loop-k-preserved c =
    let firsts = c.args.firsts.now in
    let again = c.args.again.now in
    let texts = c.args.texts.now in
    let k = c.loop-k.k in
    let number = first_with_names (kept_last firsts again) in
    let v : k < length firsts = omega arith in
    let w : k < length again = omega arith in
    let u : k < length texts = omega arith in
    told-next firsts again k c.index-firsts-k.result c.index-again-k.result v w c.index-firsts-k.is c.index-again-k.is texts (get_or texts k None) None u refl number c.loop-k.mentions.items c.push.new.self.items
    c.told_mention.result c.loop-k.invariant c.in_ok-push.ensures.items
    (c.told_mention.ensures ∙ (λ i. told_mention (λ n. c.requires n i) c.index-firsts-k.result c.index-again-k.result (get_or texts k None)))

pub returns : goal.returns
returns c =
    let firsts = c.args.firsts.now in
    let again = c.args.again.now in
    let texts = c.args.texts.now in
    let k = c.loop-k.k in
    let past : min (min (length firsts) (length again)) (length texts) ≤ k = omega arith in
    c.loop-k.invariant ∙ ap (map (λ p. told_mention (first_with_names (kept_last firsts again)) p.0.0 p.0.1 p.1)) (told-all firsts again k texts past)
