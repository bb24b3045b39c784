use Rattle.mentions_laws.proofs.Adding.{as-styles-say}
use Rattle.mentions_laws.proofs.laws.names_are_as_styles_say.Goals as goal

pub returns : goal.returns
returns g c = λ write subjects. as-styles-say write subjects
