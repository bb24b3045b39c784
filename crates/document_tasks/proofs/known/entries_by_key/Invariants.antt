-- The entries are put in one after another, where their keys aren't there yet.
use Rattle.std.proofs.Common.{◌≡◌, ℕ, List, take}
use Rattle.document_tasks.specs.Known.{known_entry_in}
use Rattle.document_requests.proofs.FirstKeyed.{found}
use Rattle.document_tasks.proofs.known.entries_by_key.Given as goal

abbrev pub invariant-loop-entry : goal.invariant-loop-entry
invariant-loop-entry l = (key : List ℕ) → known_entry_in l.by_key key ≡ found (λ e. e.key) (λ e. e) (take l.entry-index l.entries) key
