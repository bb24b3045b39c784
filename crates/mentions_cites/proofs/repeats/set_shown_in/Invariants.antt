use Rattle.std.proofs.Common.{◌≡◌, take}
use Rattle.mentions_tables.specs.Steps.{all_changed}
use Rattle.mentions_cites.specs.Repeats.{with_shown}
use Rattle.mentions_cites.proofs.repeats.set_shown_in.Given as goal

abbrev pub invariant-loop-k : goal.invariant-loop-k
invariant-loop-k g l = l.cites ≡ all_changed with_shown (take l.k l.shown) l.initial.cites
