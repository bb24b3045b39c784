use Rattle.mentions_names.proofs.Stepping.{asked-next, ends-next}
use Rattle.mentions_names.proofs.gathered.gather.Goals as goal

pub loop-way-preserved : goal.loop-way-preserved
loop-way-preserved c =
    let ways = c.args.ways.now in
    let k = c.loop-way.way-index in
    let w = c.way-item.result in
    record {
      beside = asked-next ways k w c.loop-way-test.true c.way-item.is c.loop-way.beside c.add_if_it_occurs.new.beside c.loop-way.invariant.beside c.in_ok-add_if_it_occurs.ensures.beside;
      ends = ends-next ways k w c.loop-way-test.true c.way-item.is c.loop-way.ends.keys c.add_if_it_occurs.new.ends.keys c.loop-way.invariant.ends c.in_ok-add_if_it_occurs.ensures.ends;
    }
