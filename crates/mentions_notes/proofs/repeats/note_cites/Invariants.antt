use Rattle.std.proofs.Common.{◌≡◌, ◌&&◌, ◌||◌, ℕ, not, take}
use Rattle.std.specs.Prelude.{nat_eq}
use Rattle.std.specs.HashMap.{get}
use Rattle.std.specs.List.{list_any}
use Rattle.mentions_notes.specs.Noted.{is_other}
use Rattle.mentions_notes.proofs.repeats.note_cites.Given as goal

abbrev pub invariant-loop-cite : goal.invariant-loop-cite
invariant-loop-cite g l =
    (n e : ℕ) → is_other e (get nat_eq l.noted n) ≡ (is_other e (get nat_eq l.fn.noted n) || (nat_eq n l.number && list_any (λ c. not (nat_eq e c.entry)) (take l.cite-index l.cites)))
