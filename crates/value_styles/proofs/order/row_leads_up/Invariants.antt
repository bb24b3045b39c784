use Rattle.std.proofs.Common.{◌≡◌, ◌<◌, ℕ, take, get_or, true}
use Rattle.value_styles.specs.Places.{has_place}
use Rattle.value_styles.proofs.order.row_leads_up.Given as goal

abbrev pub invariant-loop-place : goal.invariant-loop-place
invariant-loop-place l = (j : ℕ) → has_place j (take l.place-index l.row) ≡ true → l.rank < get_or l.ranks j 0
