-- What is made of two lists side by side, member by member, by a writer that is asked.
use Rattle.std.proofs.Common.{◌≡◌, ℕ, ◌+◌, ◌<◌, ◌≤◌, List, [], ◌∷◌, ◌++◌, length, map, take, get_or, ap, sym, ◌∙◌, arith}
use Rattle.std.specs.Prelude.{zip}
use Rattle.std.specs.List.{flat_map}
use Rattle.std.proofs.lemmas.List.{map-append, take_all, take_more}
use Rattle.std.proofs.lemmas.Slice.Zip.{length-zip, get_or-zip}
use Rattle.value_sources.specs.Answers.{Answers}
use Rattle.driver_writers.specs.Desk.{Desk, after}
use Rattle.driver_writers.specs.Tasks.{TaskValue}
use Rattle.driver_writers.specs.Writing.{Writing, writing_of}
use Rattle.driver_writers.proofs.TasksDone.{after-more, writes-same}

module _ {A B C E P N : Type 0} (answers : E → Answers) (f : Writing E P → A → B → C) (tasks : A → B → List (TaskValue E P)) (xs : List A) (ys : List B) (old : Desk E P N) where
  -- what is made of the first k
  pub record Made (k : ℕ) (made : List C) (now : Desk E P N) : Type 0 where
    pub made_is : made ≡ map (λ z. f (writing_of answers old.writer) z.0 z.1) (take k (zip xs ys))
    pub asked : now ≡ after (flat_map (λ z. tasks z.0 z.1) (take k (zip xs ys))) old

  -- one more is made, by a writer that writes as before
  pub one-made : (k : ℕ) (x : A) (y : B) (made more : List C) (c : C) (before now : Desk E P N) → k < length xs → k < length ys → x ≡ get_or xs k x → y ≡ get_or ys k y
      → Made k made before → more ≡ made ++ c ∷ [] → c ≡ f (writing_of answers before.writer) x y → now ≡ after (tasks x y) before → Made (k + 1) more now
  one-made k x y made more c before now x_within y_within x_here y_here so_far push one asking =
      let zs : List (A × B) = zip xs ys in
      let g : A × B → C = λ z. f (writing_of answers old.writer) z.0 z.1 in
      let within : k < length zs = omega (arith, length-zip xs ys, x_within, y_within) in
      let here : get_or zs k (x, y) ≡ (x, y) = get_or-zip xs ys k (x, y) x_within y_within ∙ (λ i. (sym x_here i, sym y_here i)) in
      let same = writes-same answers (flat_map (λ z. tasks z.0 z.1) (take k zs)) old before so_far.asked in
      record {
        made_is = push ∙ (λ i. so_far.made_is i ++ (one ∙ ap (λ w. f w x y) same) i ∷ [])
            ∙ sym (ap (map g) (take_more zs k (x, y) within ∙ ap (λ z. take k zs ++ z ∷ []) here) ∙ map-append g (take k zs) ((x, y) ∷ []));
        asked = after-more (λ z. tasks z.0 z.1) zs k (x, y) old before now within (sym here) so_far.asked asking;
      }

  -- all are made
  pub all-made : (k : ℕ) (made : List C) (now : Desk E P N) → length xs ≤ k → Made k made now
      → (made ≡ map (λ z. f (writing_of answers old.writer) z.0 z.1) (zip xs ys)) × (now ≡ after (flat_map (λ z. tasks z.0 z.1) (zip xs ys)) old)
  all-made k made now past so_far =
      let whole : length (zip xs ys) ≤ k = omega (arith, length-zip xs ys, past) in
      let all = take_all k (zip xs ys) whole in
      (so_far.made_is ∙ ap (map (λ z. f (writing_of answers old.writer) z.0 z.1)) all, so_far.asked ∙ ap (λ l. after (flat_map (λ z. tasks z.0 z.1) l) old) all)
