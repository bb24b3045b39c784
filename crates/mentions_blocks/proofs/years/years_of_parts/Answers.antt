use Rattle.std.proofs.Common.{ap, map, refl, ◌∙◌}
use Rattle.list_lemmas.proofs.Stepping.{enumerate-all}
use Rattle.mentions_blocks.specs.Years.{year_of}
use Rattle.mentions_blocks.proofs.Dating.{collapses-next, follows-is, years-next}
use Rattle.mentions_blocks.proofs.Placing.{before-next}
use Rattle.mentions_blocks.proofs.years.years_of_parts.Goals as goal

pub loop-cite-preserved : goal.loop-cite-preserved
loop-cite-preserved c =
    let cites = c.args.cites.now in
    let k = c.loop-cite.cite-index in
    let within = c.loop-cite-test.true in
    let so_far = c.loop-cite.invariant in
    let follows = follows-is cites k _ _ within refl c.loop-cite.before c.in_one_part-follows.result so_far.before c.in_one_part-follows.ensures in
    record {
      before = before-next cites k _ _ within refl;
      collapses = collapses-next cites c.args.how k c.in_one_part-follows.result c.collapses_behind-collapses.result follows c.collapses_behind-collapses.ensures;
      found = years-next cites k _ _ within refl c.args.how c.loop-cite.found.items c.push.new.self.items c.year_by.result c.in_one_part-follows.result c.loop-cite.collapses
          c.contains-is_located.result so_far.found follows so_far.collapses (c.contains-is_located.ensures ∙ c.in_ok-located.ensures _) c.year_by.ensures
          c.in_ok-push.ensures.items;
    }

pub returns : goal.returns
returns c =
    c.loop-cite.invariant.found ∙ ap (map (year_of c.args.cites.now c.args.how)) (enumerate-all c.args.cites.now c.loop-cite.cite-index c.loop-cite-test.false)
