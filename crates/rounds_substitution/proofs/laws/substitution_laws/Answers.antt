-- The laws of substitution.
use Rattle.rounds_substitution.proofs.Latest.{base_is_latest}
use Rattle.rounds_substitution.proofs.Staying.{first_stays, only_names_change}
use Rattle.rounds_substitution.proofs.laws.substitution_laws.Goals as goal

pub returns-clause-first_stays : goal.returns-clause-first_stays
returns-clause-first_stays c = first_stays

pub returns-clause-only_names_change : goal.returns-clause-only_names_change
returns-clause-only_names_change c = only_names_change

pub returns-clause-base_is_latest : goal.returns-clause-base_is_latest
returns-clause-base_is_latest c = base_is_latest
