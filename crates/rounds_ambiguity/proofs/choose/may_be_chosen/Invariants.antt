use Rattle.std.proofs.Common.{◌≡◌, drop}
use Rattle.driver_passes.specs.RendersView.{renders_view}
use Rattle.rounds_ambiguity.specs.ChooseMarks.{may_be_chosen}
use Rattle.rounds_ambiguity.specs.Members.{members}
use Rattle.rounds_ambiguity.proofs.choose.may_be_chosen.Given as goal

abbrev pub invariant-loop-place : goal.invariant-loop-place
invariant-loop-place g l =
    may_be_chosen (members (renders_view l.cites) l.group) ≡ may_be_chosen (members (renders_view l.cites) (drop l.place-index l.group))
