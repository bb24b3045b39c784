use Rattle.std.proofs.Common.{◌≡◌, ℕ, map, take}
use Rattle.std.specs.List.{enumerate_from}
use Rattle.mentions_notes.specs.Known.{known_at, known_by}
use Rattle.mentions_notes.specs.Notes.{notes_behind}
use Rattle.mentions_notes.proofs.notes.notes_of.Given as goal

abbrev pub invariant-loop-cite : goal.invariant-loop-cite
invariant-loop-cite l = record {
  known : (e : ℕ) → known_at l.known e ≡ known_by (take l.cite-index l.cites) e;
  notes : l.notes.items ≡ map (λ p. notes_behind (take p.0 l.cites) p.1) (take l.cite-index (enumerate_from 0 l.cites));
}
