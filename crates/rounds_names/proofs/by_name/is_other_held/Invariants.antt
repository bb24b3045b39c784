use Rattle.std.proofs.Common.{◌≡◌, drop}
use Rattle.rounds_names.specs.ByName.{is_other_held}
use Rattle.rounds_names.proofs.by_name.is_other_held.Given as goal

abbrev pub invariant-loop-holder : goal.invariant-loop-holder
invariant-loop-holder l =
    is_other_held l.person l.place (drop l.holder-index l.holders) ≡ is_other_held l.person l.place l.holders
