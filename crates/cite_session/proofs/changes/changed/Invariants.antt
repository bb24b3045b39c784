use Rattle.std.proofs.Common.{◌≡◌, ◌++◌, drop, filter, map, not}
use Rattle.cite_session.specs.Changes.{has_text}
use Rattle.cite_session.proofs.changes.changed.Given as goal

abbrev pub invariant-loop-entry : goal.invariant-loop-entry
invariant-loop-entry l =
    map (λ e. e.now) l.changed.items ++ filter (λ e. not (has_text l.old.entries e)) (drop l.entry-index l.entries)
    ≡ filter (λ e. not (has_text l.old.entries e)) l.entries
