use Rattle.std.proofs.Common.{◌≡◌, ◌<◌, ℕ, map, get_or, true}
use Rattle.value_styles.specs.Places.{has_place, steps_from}
use Rattle.value_styles.proofs.order.leads_up.Given as goal

abbrev pub invariant-loop-i : goal.invariant-loop-i
invariant-loop-i l =
    (i : ℕ) (j : ℕ) → i < l.i → has_place j (steps_from (map (λ row. row.items) l.rows) i) ≡ true → get_or l.ranks i 0 < get_or l.ranks j 0
