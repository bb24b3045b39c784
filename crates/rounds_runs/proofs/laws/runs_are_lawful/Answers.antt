use Rattle.std.proofs.Common.{sym, subst}
use Rattle.rounds_runs.proofs.Begun.{first-begun}
use Rattle.rounds_runs.specs.FirstRenders.{first_renders}
use Rattle.rounds_runs.specs.RunLaws.{RanksRise}
use Rattle.rounds_runs.specs.Tables.{tables}
use Rattle.rounds_runs.proofs.laws.runs_are_lawful.Goals as goal

pub returns : goal.returns
returns g c = λ writing mode requests properties.
    let firsts = first_renders writing requests properties in
    let begun = first-begun writing requests properties in
    record {
      go_on = c.states_go_on.ensures writing mode firsts begun;
      marks = c.rounds_mark.ensures writing mode firsts;
      stay = c.suffixes_stay.ensures writing mode firsts begun;
      left = c.nothing_is_left.ensures writing mode firsts begun;
      ranks = λ full. subst (λ m. RanksRise m g.T.PartialEq.eq writing firsts (tables m g.T.PartialEq.eq writing firsts)) (sym full)
          (c.ranks_rise.ensures writing firsts begun);
    }
