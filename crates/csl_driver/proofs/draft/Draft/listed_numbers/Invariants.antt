use Rattle.std.proofs.Common.{◌≡◌, map, take}
use Rattle.std.specs.Prelude.{slice_index_or}
use Rattle.csl_driver.proofs.draft.Draft.listed_numbers.Given as goal

abbrev pub invariant-loop-place : goal.invariant-loop-place
invariant-loop-place g l = l.listed.items ≡ map (λ p. slice_index_or l.numbers.items p 0) (take l.place-index l.order)
