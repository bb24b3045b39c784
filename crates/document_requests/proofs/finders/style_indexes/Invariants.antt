-- The styles are put in one after another, where their names aren't there yet.
use Rattle.std.proofs.Common.{◌≡◌, ℕ, List, Some, take, string_bytes}
use Rattle.value_styles.specs.StyleView.{style_view}
use Rattle.document_requests.specs.Finders.{found_by}
use Rattle.document_requests.specs.FoundView.{unnamed}
use Rattle.document_requests.proofs.FirstKeyed.{found}
use Rattle.document_requests.proofs.finders.style_indexes.Given as goal

abbrev pub invariant-loop-index : goal.invariant-loop-index
invariant-loop-index l =
    (name : List ℕ) → found_by l.by_name (unnamed l.styles) name ≡ found (λ s. string_bytes s.name) (λ s. Some (style_view s.style)) (take l.index l.styles) name
