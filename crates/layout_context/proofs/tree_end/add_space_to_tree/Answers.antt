-- A write of the last text keeps the number of children.
use Rattle.layout_context.proofs.OpenSteps.{length-put_last_text}
use Rattle.layout_context.proofs.tree_end.add_space_to_tree.Goals as goal

pub returns-in-Some-clause-len : goal.returns-in-Some-clause-len
returns-in-Some-clause-len c = length-put_last_text c.args.tree.now _
