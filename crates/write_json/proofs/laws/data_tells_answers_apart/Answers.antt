use Rattle.write_json.proofs.Injective.{answers_tell}
use Rattle.write_json.proofs.laws.data_tells_answers_apart.Goals as goal

pub returns : goal.returns
returns c = answers_tell
