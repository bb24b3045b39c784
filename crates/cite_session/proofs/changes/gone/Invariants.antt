use Rattle.std.proofs.Common.{◌≡◌, ◌++◌, drop, filter, map, not}
use Rattle.std.specs.Prelude.{bytes_eq, is_some}
use Rattle.std.specs.Map.{keys_of}
use Rattle.ordered_map.specs.Entries.{value_at}
use Rattle.cite_session.proofs.changes.gone.Given as goal

abbrev pub invariant-loop-key : goal.invariant-loop-key
invariant-loop-key l =
    map (λ k. k.now) l.gone.items ++ filter (λ k. not (is_some (value_at bytes_eq l.new.entries k))) (keys_of (drop l.key-index l.entries))
    ≡ filter (λ k. not (is_some (value_at bytes_eq l.new.entries k))) (keys_of l.entries)
