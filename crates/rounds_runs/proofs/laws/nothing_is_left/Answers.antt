use Rattle.rounds_runs.proofs.Ranked.{nothing-is-left}
use Rattle.rounds_runs.proofs.laws.nothing_is_left.Goals as goal

pub returns : goal.returns
returns g c = λ writing mode firsts begun. nothing-is-left mode g.T.PartialEq.eq writing firsts
    (record {
      equal = g.met.T.Eq.laws;
      goes = c.states_go_on.ensures.on_and_on;
      order = c.states_have_a_greatest.ensures.in_order;
      never_below = c.states_have_a_greatest.ensures.never_below;
      names = c.name_marks_go_on.ensures;
      without_suffix = c.ambiguous_stand_together.ensures.without_suffix;
      choose = c.choose_and_suffix_go_on.ensures.choose;
      suffix = c.choose_and_suffix_go_on.ensures.suffix;
    })
    c.ambiguous_stand_together.ensures.together begun
