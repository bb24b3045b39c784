-- A writer that is asked in a loop, for one thing after another.
use Rattle.std.proofs.Common.{◌≡◌, ℕ, ◌+◌, ◌<◌, List, [], ◌∷◌, ◌++◌, Option, Some, None, length, map, take, drop, get_or, suc, ap, sym, ◌∙◌, append-nil, append_assoc, add-one, drop-cons}
use Rattle.std.specs.List.{cons_option, filter_map}
use Rattle.std.proofs.lemmas.List.{map-append, take_more}
use Rattle.std.proofs.lemmas.List.Elements.{filter_map-append}
use Rattle.driver_writers.specs.Desk.{Desk, after}
use Rattle.driver_writers.specs.Tasks.{TaskValue}
use Rattle.driver_writers.proofs.TasksDone.{after-then}

one_more : {X : Type 0} (xs : List X) (k : ℕ) (d x : X) → k < length xs → x ≡ get_or xs k d → take (k + 1) xs ≡ take k xs ++ x ∷ []
one_more xs k d x within here = take_more xs k d within ∙ ap (λ y. take k xs ++ y ∷ []) (sym here)

filter_map-push : {X Y : Type 0} (f : X → Option Y) (xs : List X) (x : X) (y : Y) → f x ≡ Some y → filter_map f (xs ++ x ∷ []) ≡ filter_map f xs ++ y ∷ []
filter_map-push f xs x y found =
    filter_map-append f xs (x ∷ []) ∙ ap (λ o. filter_map f xs ++ cons_option o []) found

-- what was written by a writer that writes as another is what the other writes
pub written_by_same : {W V : Type 0} (write : W → V) (a b : W) (written : V) → a ≡ b → written ≡ write a → written ≡ write b
written_by_same write a b written same by_one = by_one ∙ ap write same

module _ {E P N : Type 0} where
  asked-more : (first grown : List (TaskValue E P)) (task : TaskValue E P) (old before new : Desk E P N)
      → grown ≡ first ++ task ∷ [] → before ≡ after first old → new ≡ after (task ∷ []) before → new ≡ after grown old
  asked-more first grown task old before new more begun one =
      after-then first (task ∷ []) old before new begun one ∙ ap (λ l. after l old) (sym more)

  module _ {X Y : Type 0} (xs : List X) (k : ℕ) (d x : X) (within : k < length xs) (here : x ≡ get_or xs k d) (task : Y → TaskValue E P) (old before new : Desk E P N) where
    -- one thing for each member
    pub asked-each : (view : X → Y) → before ≡ after (map task (map view (take k xs))) old → new ≡ after (task (view x) ∷ []) before
        → new ≡ after (map task (map view (take (k + 1) xs))) old
    asked-each view =
        let tasks : List X → List (TaskValue E P) = λ l. map task (map view l) in
        asked-more (tasks (take k xs)) (tasks (take (k + 1) xs)) (task (view x)) old before new
        (ap tasks (one_more xs k d x within here) ∙ ap (map task) (map-append view (take k xs) (x ∷ []))
        ∙ map-append task (map view (take k xs)) (view x ∷ []))

    -- one thing for what is found at each place
    pub asked-found : (f : X → Option Y) (y : Y) → f x ≡ Some y → before ≡ after (map task (filter_map f (take k xs))) old
        → new ≡ after (task y ∷ []) before → new ≡ after (map task (filter_map f (take (k + 1) xs))) old
    asked-found f y found =
        let tasks : List X → List (TaskValue E P) = λ l. map task (filter_map f l) in
        asked-more (tasks (take k xs)) (tasks (take (k + 1) xs)) (task y) old before new
        (ap tasks (one_more xs k d x within here) ∙ ap (map task) (filter_map-push f (take k xs) x y found)
        ∙ map-append task (filter_map f (take k xs)) (y ∷ []))

    -- nothing where none is found
    pub asked-none : (f : X → Option Y) → f x ≡ None → before ≡ after (map task (filter_map f (take k xs))) old → before ≡ after (map task (filter_map f (take (k + 1) xs))) old
    asked-none f none begun =
        begun ∙ ap (λ l. after (map task l) old)
        (sym (ap (filter_map f) (one_more xs k d x within here) ∙ filter_map-append f (take k xs) (x ∷ []) ∙ ap (λ o. filter_map f (take k xs) ++ cons_option o []) none ∙ append-nil (filter_map f (take k xs))))

-- what is made of what is found at each place, one after another
module _ {X Y Z : Type 0} (f : X → Option Y) (g : Y → Z) (xs : List X) (k : ℕ) (d x : X) (within : k < length xs) (here : x ≡ get_or xs k d)
    (made whole : List Z) (so_far : made ++ map g (filter_map f (drop k xs)) ≡ whole) where
  opened : drop k xs ≡ x ∷ drop (k + 1) xs
  opened = rw add-one (drop-cons xs k d within ∙ ap (λ y. y ∷ drop (suc k) xs) (sym here))

  pub made-none : f x ≡ None → made ++ map g (filter_map f (drop (k + 1) xs)) ≡ whole
  made-none none =
      ap (λ o. made ++ map g (cons_option o (filter_map f (drop (k + 1) xs)))) (sym none) ∙ ap (λ l. made ++ map g (filter_map f l)) (sym opened) ∙ so_far

  pub made-more : (y : Y) (now : List Z) → f x ≡ Some y → now ≡ made ++ g y ∷ [] → now ++ map g (filter_map f (drop (k + 1) xs)) ≡ whole
  made-more y now found push =
      ap (λ l. l ++ map g (filter_map f (drop (k + 1) xs))) push ∙ append_assoc made (g y ∷ []) (map g (filter_map f (drop (k + 1) xs)))
      ∙ ap (λ o. made ++ map g (cons_option o (filter_map f (drop (k + 1) xs)))) (sym found) ∙ ap (λ l. made ++ map g (filter_map f l)) (sym opened) ∙ so_far
