-- How far an entry is disambiguated, as a number that rises with each mark that counts.
use Rattle.std.proofs.Common.{◌≡◌, ◌⊎◌, inl, inr, ℕ, ◌+◌, ◌*◌, ◌<◌, ◌≤◌, true, false, length, ap, sym, ◌∙◌, arith}
use Rattle.std.specs.Ordering.{is_lt}
use Rattle.std.proofs.lemmas.Bool.{false≢true}
use Rattle.value_sources.proofs.Orders.{properties_in_order}
use Rattle.driver_lookup.specs.GoingOn.{GoesOnTo, rank}
use Rattle.driver_lookup.specs.States.{forms_of}
use Rattle.driver_lookup.specs.declared.state.DisambiguateState.{DisambiguateState}
use Rattle.driver_lookup.proofs.GoingOn.{farther}
use Rattle.driver_lookup.proofs.StateOrder.{states_in_order}
use Rattle.rounds_runs.specs.RoundMarks.{raises}

-- a state of names has so many forms at most
abbrev pub IsShort : ℕ → DisambiguateState → Type 0
IsShort f s = length (forms_of s).forms ≤ f

never-itself : (s : DisambiguateState) → raises s s ≡ false
never-itself s = ap is_lt ((states_in_order properties_in_order).self s)

-- a mark that counts has a higher rank than the state that goes on to it
pub counts-higher : (f : ℕ) (s m : DisambiguateState) → IsShort f s → GoesOnTo s m → raises s m ≡ true → rank f s < rank f m
counts-higher f s m short on counts = by (farther f s m short on)
  where
    by : (s ≡ m) ⊎ (rank f s < rank f m) → rank f s < rank f m
    by (inl e) = absurd (false≢true (sym (never-itself s) ∙ ap (raises s) e ∙ counts))
    by (inr h) = h

-- no rank is higher than that of suffixes
pub rank-most : (f : ℕ) (s : DisambiguateState) → IsShort f s → rank f s ≤ 3 * f + 3
rank-most f DisambiguateState.None short = omega arith
rank-most f (DisambiguateState.NameDisambiguation names) short = by (farther f (DisambiguateState.NameDisambiguation names) DisambiguateState.Choose short (omega arith))
  where
    by : (DisambiguateState.NameDisambiguation names ≡ DisambiguateState.Choose) ⊎ (rank f (DisambiguateState.NameDisambiguation names) < 3 * f + 2)
        → rank f (DisambiguateState.NameDisambiguation names) ≤ 3 * f + 3
    by (inl e) = cc
    by (inr h) = omega (arith, h)
rank-most f DisambiguateState.Choose short = omega arith
rank-most f (DisambiguateState.YearSuffix suffix) short = omega arith
