use Rattle.std.proofs.Common.{◌++◌, List, take}
use Rattle.std.specs.List.{flat_map}
use Rattle.rounds_names.specs.ByName.{AreByName, names_of}
use Rattle.rounds_names.specs.declared.by_name.Holder.{Holder}
use Rattle.rounds_names.specs.declared.by_name.SharedName.{SharedName}
use Rattle.rounds_names.proofs.by_name.add_member.Given as goal

abbrev pub invariant-loop-person : goal.invariant-loop-person
invariant-loop-person l =
    (so_far : List (SharedName × Holder)) → AreByName l.fn.by_name so_far → AreByName l.by_name (so_far ++ flat_map (names_of l.member.place) (take l.person-index l.person-items))
