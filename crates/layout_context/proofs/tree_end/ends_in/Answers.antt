-- The last child.
use Rattle.std.proofs.Common.{ap, ◌∙◌, sym, false}
use Rattle.std.specs.Option.{option_map_or}
use Rattle.layout_context.specs.OpenFrames.{takes}
use Rattle.layout_context.proofs.FrameSteps.{last_child_got}
use Rattle.layout_context.proofs.tree_end.ends_in.Goals as goal

pub returns-in-Some : goal.returns-in-Some
returns-in-Some c =
    c.takes.ensures ∙ ap (λ o. option_map_or (takes c.args.formatting) o false) (sym (last_child_got c.args.children.now c.in-Some.child.now c.in-Some.ensures.value))
