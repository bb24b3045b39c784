use Rattle.std.proofs.Common.{◌∙◌, sym}
use Rattle.driver_lookup.specs.Between.{between}
use Rattle.test_callers.proofs.clients.hidden_between.Goals as goal

pub returns : goal.returns
returns g c = λ cites drawn collapse p q k law shown low high hid first_is last_is.
    (law.hidden_can_be_read_back p q k shown low high hid).numbers_between ∙ (λ i. between (first_is i) (last_is i)) ∙ sym c.in_ok-numbers.ensures
