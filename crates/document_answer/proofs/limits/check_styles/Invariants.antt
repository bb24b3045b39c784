use Rattle.std.proofs.Common.{map, drop}
use Rattle.std.specs.Prelude.{Result, ⊤}
use Rattle.value_styles.specs.StyleView.{style_view}
use Rattle.document_answer.specs.Limited.{ChecksEach}
use Rattle.document_answer.specs.declared.limits.LimitError.{LimitError}
use Rattle.document_answer.proofs.limits.check_styles.Given as goal

-- what comes of the rest comes of all
abbrev pub invariant-loop-named : goal.invariant-loop-named
invariant-loop-named l =
    (r : Result ⊤ LimitError) → ChecksEach l.limits (map (λ s. style_view s.style) (drop l.named-index l.styles)) r
    → ChecksEach l.limits (map (λ s. style_view s.style) l.styles) r
