use Rattle.std.proofs.Common.{◌≡◌, [], drop, map}
use Rattle.driver_entries.specs.Entries.{with_all_new}
use Rattle.driver_passes.specs.RendersView.{renders_view}
use Rattle.rounds_ambiguity.specs.FirstCites.{first_cite_of, firsts_view, same_entry}
use Rattle.rounds_ambiguity.specs.Members.{members}
use Rattle.rounds_ambiguity.proofs.first_cites.first_cites.Given as goal

abbrev pub invariant-loop-place : goal.invariant-loop-place
invariant-loop-place g l =
    with_all_new (same_entry g.T.PartialEq.eq) (firsts_view l.firsts.keys) (map first_cite_of (members (renders_view l.cites) (drop l.place-index l.group)))
    ≡ with_all_new (same_entry g.T.PartialEq.eq) [] (map first_cite_of (members (renders_view l.cites) l.group))
