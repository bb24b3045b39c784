use Rattle.rounds_laws.proofs.Blocks.{form-blocks}
use Rattle.rounds_laws.proofs.laws.grouped_cites_form_blocks.Goals as goal

pub returns : goal.returns
returns g c = form-blocks
