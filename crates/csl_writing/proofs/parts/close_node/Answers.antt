-- The innermost node is closed.
use Rattle.std.proofs.Common.{length}
use Rattle.driver_lookup.specs.SourceView.{lookup_view}
use Rattle.csl_writing.proofs.NestedNodes.{closed_done, closed_nested}
use Rattle.csl_writing.proofs.parts.close_node.Goals as goal

pub returns-in-Some-clause-done : goal.returns-in-Some-clause-done
returns-in-Some-clause-done c =
    closed_done c.end_node.result (lookup_view c.args.style.now) c.args.nodes.now.items c.pop.new.self.items c.in-Some.ended c.args.after_part c.args.writing.now c.end_node.new.writing c.in-Some.ensures.items c.end_node.ensures.done

pub returns-in-Some-clause-nested : goal.returns-in-Some-clause-nested
returns-in-Some-clause-nested c =
    closed_nested c.end_node.result c.args.nodes.now.items c.pop.new.self.items c.in-Some.ended (length c.args.writing.now.frames) (length c.end_node.new.writing.frames) c.in-Some.ensures.items c.requires c.end_node.ensures.height
