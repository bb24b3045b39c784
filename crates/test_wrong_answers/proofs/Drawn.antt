-- What was hidden between two shown cites can't be read back.
use Rattle.std.proofs.Common.{◌≡◌, ℕ, zero, suc, ◌<◌, Some, true, refl, ap, true≢false, arith}
use Rattle.std.specs.Prelude.{length}
use Rattle.value_styles.specs.declared.style.Collapse.{Collapse}
use Rattle.rounds_grouping.specs.NumberLaws.{AreNextShown, CanBeReadBack, is_hidden}
use Rattle.test_wrong_answers.proofs.Differ.{below}
use Rattle.test_wrong_answers.specs.Runs.{over_the_gap, over_the_hidden_cite, with_a_gap, with_a_hidden_cite}

gap-between : (k : ℕ) → 0 < k → k < 2 → is_hidden over_the_gap k ≡ true
gap-between zero low high = absurd (omega (arith, low))
gap-between (suc zero) low high = refl
gap-between (suc (suc k)) low high = absurd (omega (arith, high))

gap-shown : AreNextShown with_a_gap over_the_gap 0 2
gap-shown = record { in_order = omega arith; in_request = omega arith; first_shown = refl; last_shown = refl; between_hidden = gap-between }

pub over-a-gap : ¬ CanBeReadBack with_a_gap over_the_gap (Some Collapse.CitationNumber)
over-a-gap h =
    let drawn = h.hidden_can_be_read_back 0 2 1 gap-shown (omega arith) (omega arith) (refl, refl) in
    below 1 2 (omega arith) (ap length drawn.numbers_between)

hidden-between : (k : ℕ) → 0 < k → k < 4 → is_hidden over_the_hidden_cite k ≡ true
hidden-between zero low high = absurd (omega (arith, low))
hidden-between (suc zero) low high = refl
hidden-between (suc (suc zero)) low high = refl
hidden-between (suc (suc (suc zero))) low high = refl
hidden-between (suc (suc (suc (suc k)))) low high = absurd (omega (arith, high))

hidden-shown : AreNextShown with_a_hidden_cite over_the_hidden_cite 0 4
hidden-shown = record { in_order = omega arith; in_request = omega arith; first_shown = refl; last_shown = refl; between_hidden = hidden-between }

pub over-a-hidden-cite : ¬ CanBeReadBack with_a_hidden_cite over_the_hidden_cite (Some Collapse.CitationNumber)
over-a-hidden-cite h =
    let drawn = h.hidden_can_be_read_back 0 4 1 hidden-shown (omega arith) (omega arith) (refl, refl) in
    let hid = drawn.all_were_hid 2 (omega arith) (omega arith) in
    absurd (true≢false hid.0)
