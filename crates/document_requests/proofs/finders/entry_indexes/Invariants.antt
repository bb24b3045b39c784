-- The entries are put in one after another, where their keys aren't there yet.
use Rattle.std.proofs.Common.{◌≡◌, ℕ, List, Some, take}
use Rattle.document_requests.specs.Finders.{found_by}
use Rattle.document_requests.proofs.FirstKeyed.{found}
use Rattle.document_requests.proofs.finders.entry_indexes.Given as goal

abbrev pub invariant-loop-index : goal.invariant-loop-index
invariant-loop-index l = (key : List ℕ) → found_by l.by_key l.entries key ≡ found (λ e. e.key) (λ e. Some e) (take l.index l.entries) key
