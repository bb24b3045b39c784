-- What two numbers have in common is what was passed, and what is left has in common.
use Rattle.std.proofs.Common.{◌≡◌, ◌+◌, ◌-◌, length, drop}
use Rattle.cite_texts.specs.Pages.{common_digits}
use Rattle.cite_texts.proofs.pages.common_digits.Given as goal

abbrev pub invariant-loop-count : goal.invariant-loop-count
invariant-loop-count l =
    l.count + common_digits (drop l.count l.first) (drop l.count l.last) ≡ common_digits l.first l.last

abbrev pub decreases-loop-count : goal.decreases-loop-count
decreases-loop-count l = length l.first - l.count
