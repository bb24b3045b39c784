use Rattle.std.proofs.Common.{◌≡◌, drop}
use Rattle.std.specs.List.{list_any}
use Rattle.driver_passes.specs.RendersView.{items_view}
use Rattle.rounds_ambiguity.specs.SuffixMarks.{shows_date}
use Rattle.rounds_ambiguity.proofs.suffixes.some_shows_date.Given as goal

abbrev pub invariant-loop-item : goal.invariant-loop-item
invariant-loop-item g l =
    list_any (shows_date g.T.EntryLike.answers) (items_view l.items) ≡ list_any (shows_date g.T.EntryLike.answers) (items_view (drop l.item-index l.items))
