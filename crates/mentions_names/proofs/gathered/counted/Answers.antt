use Rattle.std.proofs.Common.{ap, map, max, sym, take, ◌∙◌}
use Rattle.std.specs.List.{enumerate_from}
use Rattle.list_lemmas.proofs.Stepping.{enumerate-all, made-next}
use Rattle.mentions_names.specs.Gathered.{count_at}
use Rattle.mentions_names.specs.Telling.{greatest}
use Rattle.mentions_names.proofs.Counting.{greatest-push}
use Rattle.mentions_names.proofs.gathered.counted.Goals as goal

pub loop-i-preserved : goal.loop-i-preserved
loop-i-preserved c =
    let stops = c.as_slice-stop-items.result.now in
    let k = c.loop-i.i in
    c.max-count.ensures ∙ (λ t. max (c.count_at.ensures t) (c.loop-i.invariant t))
    ∙ sym (ap greatest (made-next stops k c.stop-item.result c.loop-i-test.true c.stop-item.is (count_at c.args.gathered.now))
    ∙ greatest-push (map (count_at c.args.gathered.now) (take k (enumerate_from 0 stops))) (count_at c.args.gathered.now (k, c.stop-item.result)))

pub returns : goal.returns
returns c =
    c.loop-i.invariant
    ∙ ap (λ l. greatest (map (count_at c.args.gathered.now) l))
    (enumerate-all c.as_slice-stop-items.result.now c.loop-i.i c.loop-i-test.false ∙ ap (enumerate_from 0) c.as_slice-stop-items.ensures)
