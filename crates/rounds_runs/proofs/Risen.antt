-- In mode full the ranks of entries rise from table to table, and the rounds that mark have a bound.
use Rattle.std.proofs.Common.{◌≡◌, ℕ, ◌+◌, ◌<◌, ◌≤◌, Bool, true, false, List, length, subst, arith}
use Rattle.std.specs.Prelude.{Any, cond, is_some}
use Rattle.std.specs.Cmp.{IsEquivalence}
use Rattle.std.specs.List.{AllAdjacentBelow}
use Rattle.std.proofs.lemmas.List.Folds.{Any-from_list_any}
use Rattle.driver_writers.specs.Writing.{Writing}
use Rattle.driver_passes.specs.Renders.{CiteRender}
use Rattle.rounds_runs.specs.FirstRenders.{AreBegun}
use Rattle.rounds_runs.specs.Rounds.{StateTable, entries_cited, no_states}
use Rattle.rounds_runs.specs.RunLaws.{RanksRise, rank_at}
use Rattle.rounds_runs.specs.Tables.{marked_at, most_rounds, tables}
use Rattle.rounds_runs.specs.declared.mode.RoundMode.{RoundMode}
use Rattle.rounds_runs.proofs.GoneOn.{are-steps, goes_on, next}
use Rattle.rounds_runs.proofs.RankSums.{IsSound, one-marked, sound-after, sound-begun, up}
use Rattle.rounds_runs.proofs.Runs.{run-neighbours, run-within}

higher : (b : Bool) (low high : ℕ) → b ≡ true → low + cond b 1 0 ≤ high → low < high
higher true low high e h = omega (arith, h)
higher false low high e h = cc

module _ {E P : Type 0} (eq : E → E → Bool) (laws : IsEquivalence eq) (writing : Writing E P) (firsts : List (CiteRender E P)) (begun : AreBegun firsts) where
  abbrev Sound : StateTable E → Type 0
  Sound = IsSound writing firsts begun eq laws

  abbrev goes : StateTable E → Bool
  goes = goes_on RoundMode.Full eq writing firsts

  abbrev after : StateTable E → StateTable E
  after = next RoundMode.Full eq writing firsts

  abbrev at : StateTable E → E → ℕ
  at = rank_at RoundMode.Full eq writing firsts

  -- an entry that is marked comes farther, and the others stay
  rises : (t : StateTable E) → Sound t → (e : E) → at t e + cond (is_some (marked_at RoundMode.Full eq writing firsts t e)) 1 0 ≤ at (after t) e
  rises t sound e = up writing firsts begun eq laws t sound e

  abbrev NoneFalls : StateTable E → StateTable E → Type 0
  NoneFalls t later = (e : E) → at t e ≤ at later e

  none-falls : (t : StateTable E) → Sound t → NoneFalls t (after t)
  none-falls t sound e = let h = rises t sound e in omega (arith, h)

  abbrev OneRises : StateTable E → StateTable E → Type 0
  OneRises t later = Any (λ e. at t e < at later e) (entries_cited firsts)

  one-rises : (t : StateTable E) → Sound t → goes t ≡ true → OneRises t (after t)
  one-rises t sound any =
      let marked = λ (e : E). is_some (marked_at RoundMode.Full eq writing firsts t e) in
      let one = Any-from_list_any marked (entries_cited firsts) (one-marked writing firsts begun eq laws t sound (entries_cited firsts) (λ e h. h) any) in
      (one.0, one.1, one.2, one.3, higher (marked one.1) (at t one.1) (at (after t) one.1) one.4 (rises t sound one.1))

  neighbours : (R : StateTable E → StateTable E → Type 0) → ((t : StateTable E) → Sound t → goes t ≡ true → R t (after t))
      → let ts = tables RoundMode.Full eq writing firsts in AllAdjacentBelow R ts (length ts)
  neighbours R step =
      subst (λ ts. AllAdjacentBelow R ts (length ts)) (are-steps RoundMode.Full eq writing firsts)
      (run-neighbours goes after Sound (λ t sound go. sound-after writing firsts begun eq laws t sound) R step (most_rounds RoundMode.Full eq firsts) no_states
      (sound-begun writing firsts begun eq laws))

  pub ranks-rise : RanksRise RoundMode.Full eq writing firsts (tables RoundMode.Full eq writing firsts)
  ranks-rise =
      let within = subst (λ ts. length ts ≤ most_rounds RoundMode.Full eq firsts + 1) (are-steps RoundMode.Full eq writing firsts)
      (run-within goes after (most_rounds RoundMode.Full eq firsts) no_states) in
      record {
        none_falls = neighbours NoneFalls (λ t sound go. none-falls t sound);
        one_rises = neighbours OneRises one-rises;
        bound = omega (arith, within);
      }
