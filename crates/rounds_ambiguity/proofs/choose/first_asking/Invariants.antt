use Rattle.std.proofs.Common.{◌≡◌, drop}
use Rattle.std.specs.Prelude.{find, option_map}
use Rattle.driver_passes.specs.RendersView.{renders_view}
use Rattle.rounds_ambiguity.specs.ChooseMarks.{asks}
use Rattle.rounds_ambiguity.specs.Members.{entry_of, members}
use Rattle.rounds_ambiguity.proofs.choose.first_asking.Given as goal

abbrev pub invariant-loop-place : goal.invariant-loop-place
invariant-loop-place g l =
    option_map entry_of (find asks (members (renders_view l.cites) l.group))
    ≡ option_map entry_of (find asks (members (renders_view l.cites) (drop l.place-index l.group)))
