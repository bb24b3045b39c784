-- A last child that the next one stays apart from.
use Rattle.std.proofs.Common.{sym, ◌∙◌}
use Rattle.std.proofs.lemmas.Bool.{not-true}
use Rattle.value_trees.proofs.Simplifying.{last_apart}
use Rattle.value_trees.proofs.simplify.stays_apart.Goals as goal

pub returns-in-Some-clause-apart : goal.returns-in-Some-clause-apart
returns-in-Some-clause-apart c p = last_apart c.args.children.now c.in-Some.last.now _ (sym c.in-Some.ensures.value) (sym c.joins.ensures ∙ not-true c.joins.result p)
