-- The greatest of some states is one of them; and no mark of an entry is greater than the state that a round leaves it.
use Rattle.std.proofs.Common.{◌≡◌, Bool, true, false, cond, Option, Some, List, [], ◌∷◌, map, refl, ap, subst, ◌∙◌}
use Rattle.std.specs.Prelude.{All, Any, Contains, fold}
use Rattle.std.specs.Cmp.{IsTotalOrder}
use Rattle.std.specs.Option.{option_or}
use Rattle.std.specs.Ordering.{is_gt, is_lt, ordering_reverse}
use Rattle.std.specs.declared.cmp.Ordering.{Ordering}
use Rattle.std.specs.declared.cmp.Ordering.TheVariants.{Less, Equal, Greater}
use Rattle.std.proofs.lemmas.Cmp.{tied_itself, upto}
use Rattle.std.proofs.lemmas.List.Elements.{All-cons, All-contains_itself, All-head, All-map, All-nil, All-tail, All-weaker}
use Rattle.std.proofs.lemmas.Option.{same_Some}
use Rattle.driver_lookup.specs.States.{greater, state_cmp}
use Rattle.driver_lookup.specs.ValueLaws.{IsNeverBelow}
use Rattle.driver_lookup.specs.declared.state.DisambiguateState.{DisambiguateState}
use Rattle.rounds_runs.specs.RoundMarks.{Mark, greatest_state, raises}
use Rattle.rounds_runs.specs.Rounds.{told_by}

-- the greatest is one of them
greater-kept : (Q : DisambiguateState → Type 0) (a b : DisambiguateState) → Q a → Q b → Q (greater a b)
greater-kept Q a b h g = by (is_lt (state_cmp b a))
  where
    by : (c : Bool) → Q (cond c a b)
    by true = h
    by false = g

folded-kept : (Q : DisambiguateState → Type 0) (s : DisambiguateState) (ss : List DisambiguateState) → Q s → All Q ss → Q (fold greater s ss)
folded-kept Q s [] h all = h
folded-kept Q s (t ∷ ss) h all = folded-kept Q (greater s t) ss (greater-kept Q s t h (All-head Q t ss all)) (All-tail Q t ss all)

pub greatest-kept : (Q : DisambiguateState → Type 0) (ss : List DisambiguateState) → All Q ss → (s : DisambiguateState) → greatest_state ss ≡ Some s → Q s
greatest-kept Q [] all s e = cc
greatest-kept Q (t ∷ ss) all s e = subst Q (same_Some (fold greater t ss) s e) (folded-kept Q t ss (All-head Q t ss all) (All-tail Q t ss all))

-- it is the state of one of the marks
pub one-of-marks : (marks : List Mark) (s : DisambiguateState) → greatest_state (map (λ m. m.1) marks) ≡ Some s → Any (λ m. s ≡ m.1) marks
one-of-marks marks s e =
    greatest-kept (λ s. Any (λ m. s ≡ m.1) marks) (map (λ m. m.1) marks)
    (All-map (λ s. Any (λ m. s ≡ m.1) marks) (λ m. m.1) marks
    (All-weaker (Contains marks) (λ n. Any (λ m. n.1 ≡ m.1) marks) (λ n c. (c.0, n, c.1, c.2, refl)) marks (All-contains_itself marks))) s e

module _ (order : IsTotalOrder state_cmp) (never_below : IsNeverBelow state_cmp greater) where
  abbrev AtMost : DisambiguateState → DisambiguateState → Type 0
  AtMost a b = is_gt (state_cmp a b) ≡ false

  -- the first is at most the greatest, and so is each other
  first-at-most : (m s : DisambiguateState) (ms : List Mark) → AtMost m s → AtMost m (fold greater s (map (λ m. m.1) ms))
  first-at-most m s [] h = h
  first-at-most m s (n ∷ ns) h = first-at-most m (greater s n.1) ns (upto order m s (greater s n.1) h (never_below s n.1).0)

  others-at-most : (s : DisambiguateState) (ms : List Mark) → All (λ m. AtMost m.1 (fold greater s (map (λ m. m.1) ms))) ms
  others-at-most s [] = All-nil (λ m. AtMost m.1 s)
  others-at-most s (n ∷ ns) =
      All-cons (λ m. AtMost m.1 (fold greater (greater s n.1) (map (λ m. m.1) ns))) n ns
      (first-at-most n.1 (greater s n.1) ns (never_below s n.1).1) (others-at-most (greater s n.1) ns)

  not-raised : (s m : DisambiguateState) → AtMost m s → raises s m ≡ false
  not-raised s m h = ap is_lt (order.antisymm s m) ∙ by (state_cmp m s) h
    where
      by : (r : Ordering) → is_gt r ≡ false → is_lt (ordering_reverse r) ≡ false
      by Less h = h
      by Equal h = h
      by Greater h = h

  of-all : (m : Mark) (ms : List Mark) → All (λ n. raises (fold greater m.1 (map (λ m. m.1) ms)) n.1 ≡ false) (m ∷ ms)
  of-all m ms =
      let top = fold greater m.1 (map (λ m. m.1) ms) in
      All-weaker (λ n. AtMost n.1 top) (λ n. raises top n.1 ≡ false) (λ n h. not-raised top n.1 h) (m ∷ ms)
      (All-cons (λ n. AtMost n.1 top) m ms (first-at-most m.1 m.1 ms (ap is_gt (tied_itself order m.1))) (others-at-most m.1 ms))

  -- of an entry with this state before
  pub none-greater : (before : Option DisambiguateState) (marks : List Mark)
      → All (λ m. raises (told_by (option_or (greatest_state (map (λ m. m.1) marks)) before)) m.1 ≡ false) marks
  none-greater before [] = All-nil (λ m. raises (told_by before) m.1 ≡ false)
  none-greater before (m ∷ ms) = of-all m ms
