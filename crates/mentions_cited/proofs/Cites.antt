-- Mentions, and the plain cites as which they are written.
use Rattle.std.proofs.Common.{◌≡◌, ℕ, refl}
use Rattle.mentions_tables.specs.Asked.{keeping, reading}
use Rattle.driver_writers.specs.Writing.{WriterState}
use Rattle.mentions_cited.specs.Cited.{cited, first_task, keeping_of, reading_of}

module _ {E P N : Type 0} (w : WriterState E P N) (count : ℕ) where
  -- what is read of a mention is what is read of its cite
  pub reads-as-cite : reading (cited w count) ≡ (λ mention state. reading_of w.cite (first_task mention) state)
  reads-as-cite = refl

  -- and so is what is kept
  pub keeps-as-cite : keeping (cited w count) ≡ (λ mention state. keeping_of w.cite (first_task mention) state)
  keeps-as-cite = refl
