use Rattle.std.proofs.Common.{◌≡◌, drop}
use Rattle.driver_passes.specs.RendersView.{renders_view}
use Rattle.rounds_ambiguity.specs.Members.{members}
use Rattle.rounds_ambiguity.specs.SuffixMarks.{adds_suffix}
use Rattle.rounds_ambiguity.proofs.suffixes.adds_suffix.Given as goal

abbrev pub invariant-loop-place : goal.invariant-loop-place
invariant-loop-place g l =
    adds_suffix (members (renders_view l.cites) l.group) ≡ adds_suffix (members (renders_view l.cites) (drop l.place-index l.group))
