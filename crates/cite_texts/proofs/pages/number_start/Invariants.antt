-- What was passed from the end are digits, and what is left ends in those before them.
use Rattle.std.proofs.Common.{◌≡◌, ◌+◌, ◌≤◌, length, take}
use Rattle.std.specs.List.{suffix_len}
use Rattle.std.specs.Char.{is_ascii_digit}
use Rattle.cite_texts.proofs.pages.number_start.Given as goal

abbrev pub invariant-loop-start : goal.invariant-loop-start
invariant-loop-start l = (l.start ≤ length l.word)
    × (l.start + suffix_len is_ascii_digit l.word ≡ length l.word + suffix_len is_ascii_digit (take l.start l.word))

abbrev pub decreases-loop-start : goal.decreases-loop-start
decreases-loop-start l = l.start
