use Rattle.std.proofs.Common.{◌≡◌, ◌++◌, take}
use Rattle.std.specs.List.{flat_map}
use Rattle.mentions_names.specs.Gathered.{ends_at, is_end}
use Rattle.mentions_names.specs.declared.rivals.Node.{Node}
use Rattle.mentions_names.proofs.gathered.add_ends.Given as goal

abbrev pub invariant-loop-stop : goal.invariant-loop-stop
invariant-loop-stop l = (n : Node) → is_end n l.ends.keys ≡ is_end n (l.fn.ends.keys ++ flat_map ends_at (take l.stop-index l.stop-items))
