use Rattle.std.proofs.Common.{◌≡◌, take}
use Rattle.std.specs.List.{flat_map}
use Rattle.mentions_names.specs.Gathered.{asking, ends_of, is_end, shown_by}
use Rattle.mentions_names.specs.Rivals.{AreRivals}
use Rattle.mentions_names.specs.declared.rivals.Node.{Node}
use Rattle.mentions_names.proofs.gathered.gather.Given as goal

abbrev pub invariant-loop-way : goal.invariant-loop-way
invariant-loop-way l = record {
  beside : AreRivals l.beside (flat_map shown_by (asking (take l.way-index l.ways)));
  ends : (n : Node) → is_end n l.ends.keys ≡ is_end n (flat_map ends_of (asking (take l.way-index l.ways)));
}
