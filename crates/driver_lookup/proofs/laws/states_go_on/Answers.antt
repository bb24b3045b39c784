use Rattle.driver_lookup.proofs.GoingOn.{farther, go-on, greater-is-one}
use Rattle.driver_lookup.proofs.laws.states_go_on.Goals as goal

pub returns : goal.returns
returns c = record { on_and_on = go-on; greater_is_one = greater-is-one; farther = farther }
