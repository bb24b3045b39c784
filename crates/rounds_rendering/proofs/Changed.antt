-- Members changed one after another, each by its place and by what a writer writes of it.
use Rattle.std.proofs.Common.{◌≡◌, ℕ, ◌+◌, ◌<◌, ◌≤◌, List, length, map, take, get_or, ap, sym, subst, ◌∙◌, arith}
use Rattle.std.specs.List.{enumerate_from, flat_map}
use Rattle.std.proofs.Math.ListN.{get_or-map, length-map, set}
use Rattle.std.proofs.lemmas.List.{get_or_default, take_all}
use Rattle.std.proofs.lemmas.List.FromFn.{get_or-enumerate_from, length-enumerate_from}
use Rattle.value_sources.specs.Answers.{Answers}
use Rattle.driver_passes.specs.ByPlaces.{by_places}
use Rattle.driver_passes.proofs.Halves.{as_before, half, step, whole}
use Rattle.driver_writers.specs.Desk.{Desk, after}
use Rattle.driver_writers.specs.Tasks.{TaskValue}
use Rattle.driver_writers.specs.Writing.{Writing, writing_of}
use Rattle.driver_writers.proofs.TasksDone.{after-more, writes-same}

module _ {X Y E P N : Type 0} (view : X → Y) (answers : E → Answers) (f : Writing E P → ℕ → Y → Y) (tasks : ℕ → Y → List (TaskValue E P)) (xs : List X) (old : Desk E P N) where
  -- the first k are changed
  pub record Changed (k : ℕ) (now : List X) (behind : Desk E P N) : Type 0 where
    pub again : map view now ≡ half (f (writing_of answers old.writer)) k (map view xs)
    pub asked : behind ≡ after (flat_map (λ p. tasks p.0 p.1) (take k (enumerate_from 0 (map view xs)))) old

  -- one more
  pub one-changed : (k : ℕ) (now : List X) (before behind : Desk E P N) (d x : X) → Changed k now before → k < length xs → view x ≡ f (writing_of answers before.writer) k (view (get_or now k d))
      → behind ≡ after (tasks k (view (get_or now k d))) before → Changed (k + 1) (set now k x) behind
  one-changed k now before behind d x so within is asking =
      let g : ℕ → Y → Y = f (writing_of answers old.writer) in
      let all : List (ℕ × Y) = enumerate_from 0 (map view xs) in
      let same = writes-same answers (flat_map (λ p. tasks p.0 p.1) (take k all)) old before so.asked in
      let inside : k < length (map view xs) = subst (λ n. k < n) (sym (length-map xs view)) within in
      let was = as_before view g xs now k so.again d in
      let here : (k, view (get_or xs k d)) ≡ get_or all k (k, view (get_or xs k d)) =
      sym (get_or-enumerate_from 0 (map view xs) k (k, view (get_or xs k d)) inside ∙ (λ i. (none k i, (get_or_default (map view xs) k (view (get_or xs k d)) (view d) inside ∙ get_or-map view xs k d) i))) in
      record {
        again = step view g xs now k so.again d x within (is ∙ ap (λ w. f w k (view (get_or now k d))) same);
        asked = after-more (λ p. tasks p.0 p.1) all k (k, view (get_or xs k d)) old before behind (subst (λ n. k < n) (sym (length-enumerate_from 0 (map view xs))) inside) here
            so.asked (asking ∙ ap (λ y. after (tasks k y) before) was);
      }
    where
      none : (n : ℕ) → 0 + n ≡ n
      none n = omega arith

  -- all of them
  pub all-changed : (k : ℕ) (now : List X) (behind : Desk E P N) → Changed k now behind → length xs ≤ k
      → (map view now ≡ by_places (f (writing_of answers old.writer)) (map view xs)) × (behind ≡ after (flat_map (λ p. tasks p.0 p.1) (enumerate_from 0 (map view xs))) old)
  all-changed k now behind so past =
      let long : length (enumerate_from 0 (map view xs)) ≤ k = subst (λ n. n ≤ k) (sym (length-enumerate_from 0 (map view xs) ∙ length-map xs view)) past in (
        whole view (f (writing_of answers old.writer)) xs now k so.again past,
        so.asked ∙ ap (λ l. after (flat_map (λ p. tasks p.0 p.1) l) old) (take_all k (enumerate_from 0 (map view xs)) long),
      )
