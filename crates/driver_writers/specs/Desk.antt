-- A writer, and the counter of what it was asked for.
use Rattle.std.specs.Prelude.{ℕ, List, length}
use Rattle.driver_writers.specs.Counted.{counted_times}
use Rattle.driver_writers.specs.Tasks.{TaskValue}
use Rattle.driver_writers.specs.Writing.{WriterState, asked_for}

pub record Desk (E P N : Type 0) : Type 0 where
  pub writer : WriterState E P N
  pub renders : ℕ

module _ {E P N : Type 0} where
  abbrev pub desk : WriterState E P N → ℕ → Desk E P N
  desk w n = record { writer = w; renders = n }

  -- once all this was asked for: each is counted
  abbrev pub after : List (TaskValue E P) → Desk E P N → Desk E P N
  after tasks d = desk (asked_for tasks d.writer) (counted_times (length tasks) d.renders)
