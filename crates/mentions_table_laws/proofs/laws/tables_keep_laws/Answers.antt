use Rattle.mentions_table_laws.proofs.Kept.{keeps-laws}
use Rattle.mentions_table_laws.proofs.laws.tables_keep_laws.Goals as goal

pub returns : goal.returns
returns g c = λ write entries subjects pairs. keeps-laws write entries subjects pairs
