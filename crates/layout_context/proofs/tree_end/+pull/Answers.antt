-- A tree that has not one child alone.
use Rattle.std.proofs.Common.{ap, length, arith}
use Rattle.std.proofs.lemmas.List.{length-map}
use Rattle.value_trees.specs.ChildView.{child_view}
use Rattle.layout_context.specs.Steps.{ends_quoted, pulled}
use Rattle.layout_context.specs.Quotes.{quotes_view}
use Rattle.layout_context.proofs.FrameSteps.{no_sole_text, no_sole_change}
use Rattle.layout_context.proofs.tree_end.«+pull».Goals as goal

pub pull_in_only-returns-then-len-ne1-clause-moved : goal.pull_in_only-returns-then-len-ne1-clause-moved
pull_in_only-returns-then-len-ne1-clause-moved t c = no_sole_text (ends_quoted (quotes_view c.args.quotes)) c.args.tree.now (λ one. c.if-len-ne1.true (omega (arith, c.tree.inside.0.ok.0, length-map c.tree.inside.0.items child_view, ap length c.tree.view_is)))

pub pull_in_only-returns-then-len-ne1-clause-tree : goal.pull_in_only-returns-then-len-ne1-clause-tree
pull_in_only-returns-then-len-ne1-clause-tree t c = no_sole_change (pulled (quotes_view c.args.quotes) c.args.mark.now) c.args.tree.now (λ one. c.if-len-ne1.true (omega (arith, c.tree.inside.0.ok.0, length-map c.tree.inside.0.items child_view, ap length c.tree.view_is)))
