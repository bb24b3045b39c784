use Rattle.std.proofs.Common.{ap, map, [], ◌∷◌, ◌++◌, ◌∙◌, sym}
use Rattle.mentions_authors.specs.Repeated.{against, before_at}
use Rattle.list_lemmas.proofs.Stepping.{enumerate-all, made-next}
use Rattle.mentions_authors.proofs.repeated.repeated_authors.Goals as goal

pub loop-k-preserved : goal.loop-k-preserved
loop-k-preserved g c =
    let items = c.args.items.now in
    let k = c.loop-k.k in
    let m = c.index-items-k.result in
    let told = against g.N.PartialEq.eq g.P.PartialEq.eq c.args.rule in
    c.in_ok-push.ensures.items
    ∙ (λ i. c.loop-k.invariant i ++ (c.against.ensures ∙ ap (λ o. told o m) c.item_before.ensures) i ∷ [])
    ∙ sym (made-next items k m c.loop-k-test.true c.index-items-k.is (λ p. told (before_at items p.0) p.1))

pub returns : goal.returns
returns g c =
    let told = against g.N.PartialEq.eq g.P.PartialEq.eq c.args.rule in
    c.loop-k.invariant ∙ ap (map (λ p. told (before_at c.args.items.now p.0) p.1)) (enumerate-all c.args.items.now c.loop-k.k c.loop-k-test.false)
