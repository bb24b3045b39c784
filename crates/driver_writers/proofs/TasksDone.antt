-- A writer that is asked for one thing after another.
use Rattle.std.proofs.Common.{◌≡◌, ℕ, ◌+◌, ◌<◌, List, [], ◌∷◌, ◌++◌, length, take, get_or, refl, ap, sym, arith, ◌∙◌, length-append, append-nil}
use Rattle.std.specs.List.{flat_map}
use Rattle.std.proofs.lemmas.List.{take_more}
use Rattle.std.proofs.lemmas.Grind.{flat_map-append}
use Rattle.value_sources.specs.Answers.{Answers}
use Rattle.driver_writers.specs.Counted.{counted_times}
use Rattle.driver_writers.specs.Desk.{Desk, after, desk}
use Rattle.driver_writers.specs.Tasks.{TaskValue}
use Rattle.driver_writers.specs.Writing.{noted_all, writing_of}
use Rattle.driver_writers.proofs.Counting.{counted_times-add}

noted-append : {A N : Type 0} (noting : A → List N → List N) (first second : List A) (notes : List N)
    → noted_all noting (first ++ second) notes ≡ noted_all noting second (noted_all noting first notes)
noted-append noting [] second notes = refl
noted-append noting (a ∷ first) second notes = noted-append noting first second (noting a notes)

counted-append : {A : Type 0} (first second : List A) (old : ℕ)
    → counted_times (length (first ++ second)) old ≡ counted_times (length second) (counted_times (length first) old)
counted-append first second old =
    let long = length-append first second in
    let sum : length (first ++ second) ≡ length second + length first = omega (arith, long) in
    ap (λ n. counted_times n old) sum ∙ counted_times-add (length second) (length first) old

module _ {E P N : Type 0} where
  -- what is asked for first, and then
  pub after-append : (first second : List (TaskValue E P)) (d : Desk E P N) → after (first ++ second) d ≡ after second (after first d)
  after-append first second d =
      let whole : List N → ℕ → Desk E P N = λ notes n. desk (record d.writer { notes = notes }) n in
      λ i. whole (noted-append d.writer.noting first second d.writer.notes i) (counted-append first second d.renders i)

  pub after-then : (first second : List (TaskValue E P)) (old middle new : Desk E P N)
      → middle ≡ after first old → new ≡ after second middle → new ≡ after (first ++ second) old
  after-then first second old middle new begun more =
      more ∙ ap (after second) begun ∙ sym (after-append first second old)

  -- one more member of a list, for which this is asked
  pub after-more : {X : Type 0} (tasks : X → List (TaskValue E P)) (xs : List X) (k : ℕ) (x : X) (old before new : Desk E P N)
      → k < length xs → x ≡ get_or xs k x → before ≡ after (flat_map tasks (take k xs)) old → new ≡ after (tasks x) before
      → new ≡ after (flat_map tasks (take (k + 1) xs)) old
  after-more tasks xs k x old before new within here begun more =
      let first : List (TaskValue E P) = flat_map tasks (take k xs) in
      let grown : flat_map tasks (take (k + 1) xs) ≡ first ++ tasks x =
      ap (flat_map tasks) (take_more xs k x within ∙ ap (λ y. take k xs ++ y ∷ []) (sym here))
      ∙ flat_map-append tasks (take k xs) (x ∷ []) ∙ ap (λ l. first ++ l) (append-nil (tasks x)) in
      after-then first (tasks x) old before new begun more ∙ ap (λ l. after l old) (sym grown)

  -- it writes as before
  pub writes-same : (answers : E → Answers) (tasks : List (TaskValue E P)) (old now : Desk E P N) → now ≡ after tasks old
      → writing_of answers now.writer ≡ writing_of answers old.writer
  writes-same answers tasks old now e = ap (λ (d : Desk E P N). writing_of answers d.writer) e
