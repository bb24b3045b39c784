use Rattle.std.proofs.Common.{◌≡◌, take}
use Rattle.std.specs.List.{zip}
use Rattle.mentions_tables.specs.Steps.{all_changed, chosen_by}
use Rattle.mentions_tables.proofs.chosen.choose_in.Given as goal

abbrev pub invariant-loop-k : goal.invariant-loop-k
invariant-loop-k l = l.states ≡ all_changed chosen_by (take l.k (zip l.tested l.asked)) l.initial.states
