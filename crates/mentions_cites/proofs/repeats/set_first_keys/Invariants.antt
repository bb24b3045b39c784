use Rattle.std.proofs.Common.{◌≡◌, take}
use Rattle.mentions_arranging.specs.Requests.{requests_view}
use Rattle.mentions_tables.specs.Steps.{all_changed}
use Rattle.mentions_cites.specs.Repeats.{with_first_key}
use Rattle.mentions_cites.proofs.repeats.set_first_keys.Given as goal

abbrev pub invariant-loop-k : goal.invariant-loop-k
invariant-loop-k g l = requests_view l.requests ≡ all_changed with_first_key (take l.k l.shown) (requests_view l.initial.requests)
