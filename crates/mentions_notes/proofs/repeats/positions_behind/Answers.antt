use Rattle.std.proofs.Common.{ap, map, option_copied, sym, ◌++◌, ◌∷◌, [], ◌∙◌}
use Rattle.std.specs.Option.{option_or}
use Rattle.mentions_notes.specs.Repeats.{before_at, position_behind}
use Rattle.mentions_notes.proofs.Noting.{before-next}
use Rattle.list_lemmas.proofs.Stepping.{enumerate-all, made-next}
use Rattle.mentions_notes.proofs.repeats.positions_behind.Goals as goal

pub loop-cite-preserved : goal.loop-cite-preserved
loop-cite-preserved g c =
    let cites = c.args.cites.now in
    let k = c.loop-cite.cite-index in
    let m = c.cite-item.result in
    let outside = option_copied c.args.outside in
    record {
      last = ap (λ o. option_or o outside) (sym (before-next cites k m c.loop-cite-test.true c.cite-item.is));
      positions = c.in_ok-push.ensures.items
          ∙ (λ i. c.loop-cite.invariant.positions i ++ (c.position_behind.ensures ∙ ap (λ o. position_behind g.L.PartialEq.eq o m) c.loop-cite.invariant.last) i ∷ [])
          ∙ sym (made-next cites k m c.loop-cite-test.true c.cite-item.is (λ p. position_behind g.L.PartialEq.eq (option_or (before_at cites p.0) outside) p.1));
    }

pub returns : goal.returns
returns g c =
    c.loop-cite.invariant.positions
    ∙ ap (map (λ p. position_behind g.L.PartialEq.eq (option_or (before_at c.args.cites.now p.0) (option_copied c.args.outside)) p.1)) (enumerate-all c.args.cites.now c.loop-cite.cite-index c.loop-cite-test.false)
