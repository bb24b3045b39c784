use Rattle.driver_lookup.proofs.Greater.{max-once, max-comm, max-assoc, max-first, max-second}
use Rattle.driver_lookup.proofs.StateOrder.{states_in_order}
use Rattle.driver_lookup.proofs.laws.states_have_a_greatest.Goals as goal

pub returns : goal.returns
returns c =
    let order = states_in_order c.forms_are_in_order.ensures.properties in
    record {
      in_order = order;
      any_order = max-comm order;
      any_grouping = max-assoc order;
      once = max-once order;
      never_below = λ a b. (max-first order a b, max-second order a b);
    }
