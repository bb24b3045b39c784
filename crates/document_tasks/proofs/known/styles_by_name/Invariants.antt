-- The styles are put in one after another, where their names aren't there yet.
use Rattle.std.proofs.Common.{◌≡◌, ℕ, List, take, string_bytes}
use Rattle.value_styles.specs.StyleView.{style_view}
use Rattle.document_requests.proofs.FirstKeyed.{found}
use Rattle.document_tasks.specs.Known.{known_style_in}
use Rattle.document_tasks.proofs.known.styles_by_name.Given as goal

abbrev pub invariant-loop-named : goal.invariant-loop-named
invariant-loop-named l =
    (name : List ℕ) → known_style_in l.by_name name ≡ found (λ s. string_bytes s.name) (λ s. style_view s.style) (take l.named-index l.styles) name
