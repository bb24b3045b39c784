use Rattle.value_sources.proofs.EqualFormattings.{formatted_find, formattings_find, style_formattings_find}
use Rattle.value_sources.specs.Finds.{decides}
use Rattle.value_sources.proofs.laws.formatting_equality_decides.Goals as goal

pub returns-clause-asked : goal.returns-clause-asked
returns-clause-asked c = decides style_formattings_find

pub returns-clause-formatting : goal.returns-clause-formatting
returns-clause-formatting c = decides formattings_find

pub returns-clause-formatted : goal.returns-clause-formatted
returns-clause-formatted c = decides formatted_find
