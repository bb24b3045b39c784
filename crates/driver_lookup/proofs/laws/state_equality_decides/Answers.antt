use Rattle.value_sources.specs.Finds.{decides}
use Rattle.driver_lookup.proofs.Equal.{certain_find, means_find, states_find}
use Rattle.driver_lookup.proofs.laws.state_equality_decides.Goals as goal

pub returns-clause-state : goal.returns-clause-state
returns-clause-state c = decides states_find

pub returns-clause-means : goal.returns-clause-means
returns-clause-means c = decides means_find

pub returns-clause-certain : goal.returns-clause-certain
returns-clause-certain c = decides certain_find
