use Rattle.std.proofs.Common.{◌≡◌, None, get_or}
use Rattle.std.specs.Option.{option_or}
use Rattle.driver_passes.proofs.Halves.{half}
use Rattle.rounds_rendering.proofs.states.put_before.Given as goal

abbrev pub invariant-loop-place : goal.invariant-loop-place
invariant-loop-place l = l.kept ≡ half (λ p. option_or (get_or l.states p None)) l.place l.initial.kept
