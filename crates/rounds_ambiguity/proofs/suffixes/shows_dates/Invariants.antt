use Rattle.std.proofs.Common.{◌≡◌, drop}
use Rattle.driver_passes.specs.RendersView.{renders_view}
use Rattle.rounds_ambiguity.specs.SuffixMarks.{shows_dates}
use Rattle.rounds_ambiguity.proofs.suffixes.shows_dates.Given as goal

abbrev pub invariant-loop-render : goal.invariant-loop-render
invariant-loop-render g l =
    shows_dates g.T.EntryLike.answers (renders_view l.cites) ≡ shows_dates g.T.EntryLike.answers (renders_view (drop l.render-index l.cites))
