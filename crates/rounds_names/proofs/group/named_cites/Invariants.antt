use Rattle.std.proofs.Common.{◌≡◌, take}
use Rattle.driver_passes.specs.RendersView.{renders_view}
use Rattle.rounds_names.specs.NamedCites.{named_cites}
use Rattle.rounds_names.proofs.group.named_cites.Given as goal

abbrev pub invariant-loop-place : goal.invariant-loop-place
invariant-loop-place g l = l.found.items ≡ named_cites (renders_view l.cites) (take l.place-index l.group)
