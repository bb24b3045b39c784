-- The children become an element, which then goes to the frame below.
use Rattle.std.proofs.Common.{None, ap, sym, ◌∙◌}
use Rattle.layout_context.specs.OpenFrames.{committed}
use Rattle.layout_context.proofs.OpenSteps.{closed_in_two, closed_as_children}
use Rattle.layout_context.proofs.flat.FlatFrames.close.Goals as goal

pub returns-clause-done : goal.returns-clause-done
returns-clause-done c =
    c.join_top-2.ensures ∙ ap (committed None None) c.in_ok-wrap_top.ensures.done ∙ closed_in_two c.args.display c.args.meta c.args.self.now (sym c.gives_children.ensures ∙ c.if-gives_children.false)

pub returns-then-gives_children-clause-done : goal.returns-then-gives_children-clause-done
returns-then-gives_children-clause-done c =
    c.join_top.ensures ∙ closed_as_children c.args.display c.args.meta c.args.self.now (sym c.gives_children.ensures ∙ c.if-gives_children.true)
