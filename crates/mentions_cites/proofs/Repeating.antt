-- Mentions that cites repeat, and what is asked for them.
use Rattle.std.proofs.Common.{◌≡◌, ℕ, zero, suc, ◌+◌, ◌<◌, min, Bool, false, Option, Some, None, List, [], ◌∷◌, ◌++◌, length, map, take, get_or, refl, ap, sym, ◌∙◌, arith, append-nil, unwrap_or}
use Rattle.std.specs.Prelude.{bytes_eq, filter_map, flat_map, option_map, slice_get}
use Rattle.std.specs.List.{cons_option, enumerate_from, zip}
use Rattle.std.specs.Option.{option_and_then, option_map_or}
use Rattle.std.proofs.lemmas.List.{length-map, length-take-le, map-append}
use Rattle.std.proofs.lemmas.List.Elements.{filter_map-append}
use Rattle.std.proofs.lemmas.Grind.{flat_map-append}
use Rattle.std.proofs.lemmas.Option.{slice_get-map}
use Rattle.std.proofs.lemmas.Slice.Zip.{length-zip}
use Rattle.mentions_arranging.specs.declared.repeating.Repeated.{Repeated}
use Rattle.mentions_arranging.specs.declared.request.Shown.{Shown}
use Rattle.mentions_cited.specs.Kept.{written_mention}
use Rattle.mentions_cited.specs.declared.kept.KeptOfMention.{KeptOfMention}
use Rattle.mentions_groups.specs.declared.state.MentionState.{MentionState}
use Rattle.mentions_tables.specs.Tables.{with_mention}
use Rattle.mentions_tables.specs.declared.subject.Subject.{Subject}
use Rattle.mentions_tables.proofs.Changing.{take-next}
use Rattle.mentions_cites.specs.Mentions.{kept_last, mention_index}
use Rattle.mentions_cites.specs.Repeats.{reads_alike, repeat_task, repeat_tasks, shown_by, shown_repeat, task_told}
use Rattle.mentions_cites.specs.declared.mentions.ToldMention.{ToldMention}
use Rattle.list_lemmas.proofs.Members.{enumerate-push}
use Rattle.driver_writers.specs.Desk.{Desk, after}
use Rattle.driver_writers.specs.Tasks.{CiteTaskValue, cite_task}
use Rattle.driver_writers.specs.declared.cite.Cite.{Cite}
use Rattle.driver_writers.proofs.TasksDone.{after-then}

abbrev no-option : {A B : Type 0} → A → Option B
no-option a = None

none-of-none : {A B : Type 0} (o : Option A) → None ≡ option_and_then (no-option {A = A} {B = B}) o
none-of-none None = refl
none-of-none (Some x) = refl

-- what was kept of a mention at last, by its index
last-at : (k : ℕ) (firsts : List KeptOfMention) (again : List (Option KeptOfMention))
    → slice_get (kept_last firsts again) k ≡ option_and_then (λ (f : KeptOfMention). option_map (λ a. unwrap_or a f) (slice_get again k)) (slice_get firsts k)
last-at k [] again = refl
last-at k (f ∷ firsts) [] = none-of-none (slice_get (f ∷ firsts) k)
last-at zero (f ∷ firsts) (a ∷ again) = refl
last-at (suc k) (f ∷ firsts) (a ∷ again) = last-at k firsts again

-- whether a mention reads as it did, where what was kept of it is or isn't there
module _ (firsts : List KeptOfMention) (again : List (Option KeptOfMention)) (r : Repeated) (kept : KeptOfMention) where
  abbrev at : ℕ
  at = mention_index r.entry r.is_first

  abbrev by : Option KeptOfMention → Bool
  by o = option_map_or (λ (last : KeptOfMention). bytes_eq kept.text last.text) o false

  pub alike-without-first : None ≡ slice_get firsts at → false ≡ reads_alike (kept_last firsts again) r kept
  alike-without-first none =
      ap (λ o. by (option_and_then (λ (f : KeptOfMention). option_map (λ a. unwrap_or a f) (slice_get again at)) o)) none ∙ sym (ap by (last-at at firsts again))

  pub alike-without-again : (f : KeptOfMention) → Some f ≡ slice_get firsts at → None ≡ slice_get again at → false ≡ reads_alike (kept_last firsts again) r kept
  alike-without-again f first none =
      (λ i. by (option_and_then (λ (f : KeptOfMention). option_map (λ a. unwrap_or a f) (none i)) (first i))) ∙ sym (ap by (last-at at firsts again))

  pub alike-with : (f : KeptOfMention) (a : Option KeptOfMention) → Some f ≡ slice_get firsts at → Some a ≡ slice_get again at → bytes_eq kept.text (unwrap_or a f).text ≡ reads_alike (kept_last firsts again) r kept
  alike-with f a first more =
      (λ i. by (option_and_then (λ (f : KeptOfMention). option_map (λ a. unwrap_or a f) (more i)) (first i))) ∙ sym (ap by (last-at at firsts again))

-- how many mentions there are of which something was kept at last
pub lasts-length : (firsts : List KeptOfMention) (again : List (Option KeptOfMention)) → length (kept_last firsts again) ≡ min (length firsts) (length again)
lasts-length firsts again = length-map (zip firsts again) (λ p. unwrap_or p.1 p.0) ∙ length-zip firsts again

module _ {X : Type 0} (xs : List X) (k : ℕ) (x : X) (within : k < length xs) (here : x ≡ get_or xs k x) where
  -- one more member with its place
  pub numbered-next : {Y : Type 0} (f : ℕ × X → Y) (found all : List Y) (y : Y) → found ≡ map f (enumerate_from 0 (take k xs)) → all ≡ found ++ y ∷ [] → y ≡ f (k, x)
      → all ≡ map f (enumerate_from 0 (take (k + 1) xs))
  numbered-next f found all y so_far pushed is =
      let long : length (take k xs) ≡ k = length-take-le k xs (omega arith) in
      let last : 0 + length (take k xs) ≡ k = omega (arith, long) in
      pushed ∙ (λ i. so_far i ++ (is ∙ ap (λ n. f (n, x)) (sym last)) i ∷ [])
      ∙ sym (ap (λ l. map f (enumerate_from 0 l)) (take-next k xs x within here) ∙ ap (map f) (enumerate-push 0 (take k xs) x)
      ∙ map-append f (enumerate_from 0 (take k xs)) ((0 + length (take k xs), x) ∷ []))

  module _ {E P N : Type 0} (old before new : Desk E P N) where
    -- for some members a cite is asked for
    pub cites-asked-next : (f : X → Option (CiteTaskValue E P)) → before ≡ after (map cite_task (filter_map f (take k xs))) old → new ≡ after (map cite_task (filter_map f (x ∷ []))) before
        → new ≡ after (map cite_task (filter_map f (take (k + 1) xs))) old
    cites-asked-next f begun more =
        let first = map cite_task (filter_map f (take k xs)) in
        let second = map cite_task (filter_map f (x ∷ [])) in
        after-then first second old before new begun more
        ∙ ap (λ l. after l old)
        (sym (ap (λ l. map cite_task (filter_map f l)) (take-next k xs x within here) ∙ ap (map cite_task) (filter_map-append f (take k xs) (x ∷ []))
        ∙ map-append cite_task (filter_map f (take k xs)) (filter_map f (x ∷ []))))

    -- for each member some are
    pub lists-asked-next : (f : X → List (CiteTaskValue E P)) → before ≡ after (map cite_task (flat_map f (take k xs))) old → new ≡ after (map cite_task (f x)) before
        → new ≡ after (map cite_task (flat_map f (take (k + 1) xs))) old
    lists-asked-next f begun more =
        let first = map cite_task (flat_map f (take k xs)) in
        after-then first (map cite_task (f x)) old before new begun more
        ∙ ap (λ l. after l old)
        (sym (ap (λ l. map cite_task (flat_map f l)) (take-next k xs x within here)
        ∙ ap (map cite_task) (flat_map-append f (take k xs) (x ∷ []) ∙ ap (λ l. flat_map f (take k xs) ++ l) (append-nil (f x)))
        ∙ map-append cite_task (flat_map f (take k xs)) (f x)))

-- a mention that is there
module _ {M E P : Type 0} (task : M → CiteTaskValue E P) (mentions : List ToldMention) (subjects : List (Subject M)) (states : List MentionState) (r : Repeated) (s : Subject M)
    (here : Some s ≡ slice_get subjects (mention_index r.entry r.is_first)) where
  abbrev told : CiteTaskValue E P
  told = task_told mentions states r (task s.mention)

  task-there : Some told ≡ repeat_task mentions (map (with_mention task) subjects) states r
  task-there =
      let told_of = λ (s : Subject (CiteTaskValue E P)). task_told mentions states r s.mention in
      ap (λ o. option_map told_of (option_map (with_mention task) o)) here
      ∙ sym (ap (option_map told_of) (slice_get-map (with_mention task) subjects (mention_index r.entry r.is_first)))

  pub tasks-there : (repeated : Option Repeated) → repeated ≡ Some r → told ∷ [] ≡ repeat_tasks mentions (map (with_mention task) subjects) states (repeated ∷ [])
  tasks-there repeated is =
      ap (λ o. cons_option o []) task-there ∙ ap (λ o. repeat_tasks mentions (map (with_mention task) subjects) states (o ∷ [])) (sym is)

  pub shown-there : (lasts : List KeptOfMention) (cite : CiteTaskValue E P → Cite) (place : ℕ) (repeated : Option Repeated) (kept : KeptOfMention) (shown : Shown) → repeated ≡ Some r
      → kept ≡ (written_mention (cite told)).kept → shown ≡ shown_by mentions lasts (length lasts + place) r kept
      → Some shown ≡ shown_repeat mentions (map (with_mention task) subjects) states lasts cite (place, repeated)
  shown-there lasts cite place repeated kept shown is was made =
      let show = shown_by mentions lasts (length lasts + place) r in
      ap Some (made ∙ ap show was) ∙ ap (option_map (λ t. show (written_mention (cite t)).kept)) task-there
      ∙ ap (λ o. shown_repeat mentions (map (with_mention task) subjects) states lasts cite (place, o)) (sym is)
