use Rattle.rounds_runs.proofs.GoneOn.{states-go-on}
use Rattle.rounds_runs.proofs.laws.states_go_on.Goals as goal

pub returns : goal.returns
returns g c = λ writing mode firsts begun. states-go-on mode g.T.PartialEq.eq writing firsts
    (record {
      equal = g.met.T.Eq.laws;
      goes = c.states_go_on.ensures.on_and_on;
      order = c.states_have_a_greatest.ensures.in_order;
      never_below = c.states_have_a_greatest.ensures.never_below;
      names = c.name_marks_go_on.ensures;
      without_suffix = c.ambiguous_stand_together.ensures.without_suffix;
      choose = c.choose_and_suffix_go_on.ensures.choose;
      suffix = c.choose_and_suffix_go_on.ensures.suffix;
    })
    begun
