-- Marks put in one after another.
use Rattle.std.proofs.Common.{◌≡◌, ℕ, ◌<◌, Bool, true, false, cond, Option, Some, None, List, [], ◌∷◌, ◌++◌, length, map, filter, get_or, refl, ap, sym, subst, ◌∙◌, append-nil, append_assoc}
use Rattle.std.specs.Prelude.{nat_eq, replicate}
use Rattle.std.specs.Option.{option_map_or}
use Rattle.std.proofs.Math.ListN.{set}
use Rattle.std.proofs.lemmas.Bool.{eqb-true, eq-eqb, false≢true}
use Rattle.std.proofs.lemmas.List.{get_or-replicate, get_or-set_other, get_or-set_same, length-replicate, length-set, map-append}
use Rattle.std.proofs.lemmas.List.Elements.{filter-append}
use Rattle.std.proofs.lemmas.List.Sums.{fold_push}
use Rattle.driver_lookup.specs.States.{greater}
use Rattle.driver_lookup.specs.declared.state.DisambiguateState.{DisambiguateState}
use Rattle.rounds_rendering.specs.Gathered.{AreGreatest, entry_place, greatest_at, is_of, with_greater}
use Rattle.rounds_runs.specs.RoundMarks.{Mark, greatest_state}

greatest-more : (ss : List DisambiguateState) (s : DisambiguateState) → greatest_state (ss ++ s ∷ []) ≡ with_greater (greatest_state ss) s
greatest-more [] s = refl
greatest-more (t ∷ ss) s = ap Some (fold_push greater t ss s)

-- one mark more, which may be one of those that are looked at
module _ (q : Mark → Bool) where
  abbrev seen : List Mark → List DisambiguateState
  seen ms = map (λ m. m.1) (filter q ms)

  seen-yes : (ms : List Mark) (m : Mark) → q m ≡ true → seen (ms ++ m ∷ []) ≡ seen ms ++ m.1 ∷ []
  seen-yes ms m h =
      ap (map (λ m. m.1)) (filter-append q ms (m ∷ []) ∙ ap (λ b. filter q ms ++ cond b (m ∷ []) []) h) ∙ map-append (λ m. m.1) (filter q ms) (m ∷ [])

  seen-no : (ms : List Mark) (m : Mark) → q m ≡ false → seen (ms ++ m ∷ []) ≡ seen ms
  seen-no ms m h = ap (map (λ m. m.1)) (filter-append q ms (m ∷ []) ∙ ap (λ b. filter q ms ++ cond b (m ∷ []) []) h ∙ append-nil (filter q ms))

-- the state of the entry at a place, if there is one, raised to a mark
abbrev pub raised : Option ℕ → DisambiguateState → List (Option DisambiguateState) → List (Option DisambiguateState)
raised None s states = states
raised (Some p) s states = set states p (with_greater (get_or states p None) s)

pub length-raised : (o : Option ℕ) (s : DisambiguateState) (states : List (Option DisambiguateState)) → length (raised o s states) ≡ length states
length-raised None s states = refl
length-raised (Some p) s states = length-set states p (with_greater (get_or states p None) s)

module _ (places : List (List ℕ)) (count : ℕ) where
  module _ (done : List Mark) (states : List (Option DisambiguateState)) (m : Mark) (so : AreGreatest places done count states) (k : ℕ) (inside : k < count) where
    abbrev looked_at : Mark → Bool
    looked_at n = is_of places k n.0

    raised-at : (o : Option ℕ) → entry_place places m.0 ≡ o → get_or (raised o m.1 states) k None ≡ greatest_at places (done ++ m ∷ []) k
    raised-at None e = so.at k inside ∙ ap greatest_state (sym (seen-no looked_at done m (ap (λ o. option_map_or (λ n. nat_eq n k) o false) e)))
    raised-at (Some p) e = by (nat_eq p k) refl
      where
        here : looked_at m ≡ nat_eq p k
        here = ap (λ o. option_map_or (λ n. nat_eq n k) o false) e

        by : (b : Bool) → nat_eq p k ≡ b → get_or (set states p (with_greater (get_or states p None) m.1)) k None ≡ greatest_at places (done ++ m ∷ []) k
        by true same =
            ap (λ j. get_or (set states j (with_greater (get_or states j None) m.1)) k None) (eqb-true p k same)
            ∙ get_or-set_same states k (with_greater (get_or states k None) m.1) None (subst (λ n. k < n) (sym so.long) inside)
            ∙ ap (λ s. with_greater s m.1) (so.at k inside)
            ∙ sym (ap greatest_state (seen-yes looked_at done m (here ∙ same)) ∙ greatest-more (seen looked_at done) m.1)
        by false differs =
            get_or-set_other states p k (with_greater (get_or states p None) m.1) None (λ q. false≢true (sym differs ∙ eq-eqb p k (sym q)))
            ∙ so.at k inside ∙ ap greatest_state (sym (seen-no looked_at done m (here ∙ differs)))

  raised-more : (done : List Mark) (states now : List (Option DisambiguateState)) (m : Mark) → AreGreatest places done count states → now ≡ raised (entry_place places m.0) m.1 states
      → AreGreatest places (done ++ m ∷ []) count now
  raised-more done states now m so changed = record {
    long = ap length changed ∙ length-raised (entry_place places m.0) m.1 states ∙ so.long;
    at = λ k h. ap (λ l. get_or l k None) changed ∙ raised-at done states m so k h (entry_place places m.0) refl;
  }

module _ (places : List (List ℕ)) (count : ℕ) (all : List Mark) where
  -- marks were put in, and these are left
  pub record SoFar (states : List (Option DisambiguateState)) (rest : List Mark) : Type 0 where
    pub done : List Mark
    pub split : done ++ rest ≡ all
    pub greatest : AreGreatest places done count states

  pub none_yet : (states : List (Option DisambiguateState)) (rest : List Mark) → states ≡ replicate count None → rest ≡ all → SoFar states rest
  none_yet states rest e f = record {
    done = [];
    split = f;
    greatest = record {
      long = ap length e ∙ length-replicate count None;
      at = λ p h. ap (λ l. get_or l p None) e ∙ get_or-replicate count p None None h;
    };
  }

  -- a mark is put in
  pub one-more : (states now : List (Option DisambiguateState)) (m : Mark) (rest left : List Mark) → left ≡ m ∷ rest → now ≡ raised (entry_place places m.0) m.1 states → SoFar states left → SoFar now rest
  one-more states now m rest left e changed so = record {
    done = so.done ++ m ∷ [];
    split = append_assoc so.done (m ∷ []) rest ∙ ap (λ l. so.done ++ l) (sym e) ∙ so.split;
    greatest = raised-more places count so.done states now m so.greatest changed;
  }
