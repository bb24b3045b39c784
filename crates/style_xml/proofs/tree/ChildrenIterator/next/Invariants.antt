use Rattle.std.proofs.Common.{length, ◌≤◌}
use Rattle.style_xml.proofs.tree.ChildrenIterator.next.Given as goal

abbrev pub invariant-parts : goal.invariant-parts
invariant-parts l = length l.self.rest.now ≤ length l.initial.self.rest.now

abbrev pub decreases-parts : goal.decreases-parts
decreases-parts l = length l.self.rest.now
