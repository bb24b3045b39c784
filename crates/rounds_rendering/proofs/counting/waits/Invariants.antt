use Rattle.std.proofs.Common.{◌≡◌, Bool, drop, map}
use Rattle.std.specs.List.{list_any}
use Rattle.driver_passes.specs.Renders.{Place}
use Rattle.rounds_rendering.specs.Gathered.{entry_place, is_marked}
use Rattle.rounds_rendering.proofs.counting.waits.Given as goal

abbrev pub invariant-loop-at : goal.invariant-loop-at
invariant-loop-at l =
    let q : Place → Bool = λ at. is_marked l.marked (entry_place (map (λ ps. ps.items) l.places) at) in
    list_any q l.group.items ≡ list_any q (drop l.at-index l.at-items)
