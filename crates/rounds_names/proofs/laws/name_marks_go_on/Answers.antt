use Rattle.rounds_names.proofs.Rising.{marks-go-on}
use Rattle.rounds_names.proofs.laws.name_marks_go_on.Goals as goal

pub returns : goal.returns
returns g c = marks-go-on c.states_go_on.ensures.on_and_on
