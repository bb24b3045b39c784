-- The last text of all children, where the top frame has some.
use Rattle.std.proofs.Common.{ap, ◌∙◌, sym, arith}
use Rattle.std.specs.Option.{option_and_then}
use Rattle.value_trees.specs.Tree.{last_text}
use Rattle.layout_context.specs.OpenFrames.{top}
use Rattle.layout_context.proofs.OpenSteps.{seen_top, none_seen_top, last_text-seen}
use Rattle.layout_context.proofs.flat.FlatFrames.last_text.Goals as goal

pub returns-then-self-count : goal.returns-then-self-count
returns-then-self-count c =
    sym (none_seen_top last_text last_text-seen c.self.inside.counts.items c.self.inside.children (omega (arith, c.self.invariant.0, c.count.ensures, c.if-self-count.true))) ∙ ap (λ F. option_and_then last_text (top F)) c.self.view_is

pub returns : goal.returns
returns c =
    c.last_text.ensures ∙ sym (seen_top last_text last_text-seen c.self.inside.counts.items c.self.inside.children (omega (arith, c.self.invariant.0, c.self.invariant.1, c.count.ensures, c.if-self-count.false))) ∙ ap (λ F. option_and_then last_text (top F)) c.self.view_is
