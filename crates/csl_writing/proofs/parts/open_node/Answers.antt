-- One more node is open.
use Rattle.std.proofs.Common.{length, ◌∙◌, arith}
use Rattle.csl_writing.proofs.NestedNodes.{opened_nested}
use Rattle.csl_writing.proofs.parts.open_node.Goals as goal

pub returns-clause-nested : goal.returns-clause-nested
returns-clause-nested c =
    opened_nested c.args.nodes.now.items c.push.new.self.items _ (length c.args.writing.now.frames) (length c.begin_node.new.writing.frames) c.in_ok-push.ensures.items c.requires (c.in_ok-prefix.ensures.frame ∙ c.in_ok-separate.ensures.height) (omega (arith, c.in_ok-prefix.ensures.height, c.in_ok-separate.ensures.height))
