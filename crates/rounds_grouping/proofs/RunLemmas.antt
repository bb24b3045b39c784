-- Runs of numbers, by neighbouring cites.
use Rattle.std.proofs.Common.{◌≡◌, ℕ, zero, suc, ◌+◌, ◌<◌, ◌≤◌, ◌⊎◌, inl, inr, Bool, true, false, not, ◌&&◌, nat_le, List, [], ◌∷◌, ◌||◌, get_or, length, map, refl, ap, sym, ◌∙◌, subst, true≢false, arith, add-one}
use Rattle.std.specs.Prelude.{Option, None, Some, if◌then◌else◌, is_some, nat_eq, option_map, slice_index_or}
use Rattle.std.specs.List.{list_all, list_any}
use Rattle.std.specs.Option.{option_eq}
use Rattle.std.specs.Char.{encode_utf8}
use Rattle.std.proofs.lemmas.Bool.{and_parts, and_from}
use Rattle.list_lemmas.specs.Places.{places}
use Rattle.driver_passes.specs.Renders.{ItemRender}
use Rattle.rounds_grouping.specs.NumberRuns.{en_dash, shown_number, number_collapsed, number_at, rises, is_run, is_inner, ends_collapsed, follows_collapsed}
use Rattle.rounds_grouping.specs.CollapseSteps.{is_next, next_rises, number_step}
use Rattle.rounds_grouping.specs.declared.numbers.Rises.{Rises}
use Rattle.rounds_grouping.proofs.ByPlaces.{at-map}
use Rattle.list_lemmas.proofs.Tests.{behind-first, one-less, le-true, true-le, each, of-each}
use Rattle.list_lemmas.proofs.Wholes.{Chain, IsOfChains, before, passes, ends-three, begins}

-- the bytes of an en dash
pub en_dash_bytes : 226 ∷ 128 ∷ 147 ∷ [] ≡ en_dash
unfolding encode_utf8
en_dash_bytes = refl

pub some-within : (xs : List (Option ℕ)) (k : ℕ) → is_some (slice_index_or xs k None) ≡ true → k < length xs
some-within [] k h = absurd (true≢false (sym h))
some-within (x ∷ xs) zero h = omega arith
some-within (x ∷ xs) (suc k) h = let w = some-within xs k h in omega arith

next-of : (x y : Option ℕ) → is_some x ≡ true → option_eq nat_eq y (option_map (λ n. n + 1) x) ≡ true → is_next x y ≡ true
next-of None y h e = absurd (true≢false (sym h))
next-of (Some m) None h e = e
next-of (Some m) (Some n) h e = e

pub of-next : (x y : Option ℕ) → is_next x y ≡ true → (is_some x ≡ true) × (is_some y ≡ true) × (option_eq nat_eq y (option_map (λ n. n + 1) x) ≡ true)
of-next None y h = absurd (true≢false (sym h))
of-next (Some m) None h = absurd (true≢false (sym h))
of-next (Some m) (Some n) h = (refl, refl, h)

module _ (numbers : List (Option ℕ)) where
  abbrev pub shows : ℕ → Bool
  shows k = is_some (number_at numbers k)

  -- the number goes up by one from k to the next
  abbrev pub goes_up : ℕ → Bool
  goes_up k = is_next (number_at numbers k) (number_at numbers (suc k))

  pub up-from : (k : ℕ) → goes_up k ≡ true → shows k ≡ true
  up-from k h = (of-next (number_at numbers k) (number_at numbers (suc k)) h).0

  pub up-to : (k : ℕ) → goes_up k ≡ true → shows (suc k) ≡ true
  up-to k h = (of-next (number_at numbers k) (number_at numbers (suc k)) h).1

  all-show : (a b k : ℕ) → Chain shows goes_up a b → a ≤ k → k < b + 1 → shows k ≡ true
  all-show a b zero c u v = let e : zero ≡ a = omega arith in ap shows e ∙ c.start
  all-show a b (suc k) c u v = elim (at u) [ inl e ↦ ap shows e ∙ c.start | inr w ↦ up-to k (c.steps k w (omega arith)) ]
    where
      at : a ≤ suc k → (suc k ≡ a) ⊎ (a ≤ k)
      at h = grind arith

  pub runs : IsOfChains (rises numbers) shows goes_up (length numbers)
  runs = record { opens = opens; closes = closes; here = up-from; there = up-to; within = some-within numbers }
    where
      opens : (a b : ℕ) → rises numbers a b ≡ true → Chain shows goes_up a b
      opens a b h =
          let p = and_parts (nat_le a b && list_all shows (places a (b + 1))) (list_all (λ k. option_eq nat_eq (number_at numbers (k + 1)) (option_map (λ n. n + 1) (number_at numbers k))) (places a b)) h in
          let q = and_parts (nat_le a b) (list_all shows (places a (b + 1))) p.0 in
          let o = true-le a b q.0 in
          record {
            order = o;
            start = each shows a (b + 1) a q.1 (omega arith) (omega arith);
            steps = λ k u v. next-of (number_at numbers k) (number_at numbers (suc k)) (each shows a (b + 1) k q.1 u (omega arith))
                (subst (λ j. option_eq nat_eq (number_at numbers j) (option_map (λ n. n + 1) (number_at numbers k)) ≡ true) (add-one k)
                (each (λ k. option_eq nat_eq (number_at numbers (k + 1)) (option_map (λ n. n + 1) (number_at numbers k))) a b k p.1 u v));
          }

      closes : (a b : ℕ) → Chain shows goes_up a b → rises numbers a b ≡ true
      closes a b c =
          and_from _ _
          (and_from _ _ (le-true a b c.order) (of-each shows a (b + 1) (λ k u v. all-show a b k c u v)))
          (of-each (λ k. option_eq nat_eq (number_at numbers (k + 1)) (option_map (λ n. n + 1) (number_at numbers k))) a b
          (λ k u v. subst (λ j. option_eq nat_eq (number_at numbers j) (option_map (λ n. n + 1) (number_at numbers k)) ≡ true) (sym (add-one k)) (of-next (number_at numbers k) (number_at numbers (suc k)) (c.steps k u v)).2))

  -- whether the number went up from the cite before, from the one before that, and from the one before those
  abbrev pub rises_to : ℕ → Bool
  rises_to = before goes_up false

  abbrev pub rose_to : ℕ → Bool
  rose_to = before rises_to false

  abbrev pub rose_earlier_to : ℕ → Bool
  rose_earlier_to = before rose_to false

  pub inner : (k : ℕ) → is_inner numbers k ≡ rises_to k && goes_up k
  inner = passes runs

  pub ends : (k : ℕ) → ends_collapsed numbers k ≡ rose_to k && rises_to k && not (goes_up k)
  ends = ends-three runs

  and-twice : (a b c : Bool) → (a && not b) && (c && not b) ≡ (a && not b) && c
  and-twice true true c = refl
  and-twice true false true = refl
  and-twice true false false = refl
  and-twice false b c = refl

  pub follows : (k : ℕ) → follows_collapsed numbers k ≡ rose_earlier_to k && rose_to k && not (rises_to k) && shows k
  follows zero = refl
  follows (suc k) =
      (λ i. (behind-first k i && ends_collapsed numbers (one-less k i)) && list_any (λ b. is_run numbers (suc k) b) (places (suc k) (length numbers)))
      ∙ (λ i. ends k i && begins runs (suc k) i) ∙ and-twice (rose_to k && rises_to k) (goes_up k) (shows (suc k))

  -- what the code knows behind the cite before k, and at k
  pub record RisesUpTo (k : ℕ) (r : Rises) : Type 0 where
    pub before : r.before ≡ rose_earlier_to k
    pub here : r.here ≡ rose_to k
    pub behind : r.behind ≡ rises_to k

  pub record RisesAround (k : ℕ) (r : Rises) : Type 0 where
    pub earlier : r.earlier ≡ rose_earlier_to k
    pub before : r.before ≡ rose_to k
    pub here : r.here ≡ rises_to k
    pub behind : r.behind ≡ goes_up k

  pub around : (k : ℕ) (r q : Rises) → RisesUpTo k r → q ≡ next_rises numbers k r → RisesAround k q
  around k r q u e = record {
    earlier = ap (λ s. s.earlier) e ∙ u.before;
    before = ap (λ s. s.before) e ∙ u.here;
    here = ap (λ s. s.here) e ∙ u.behind;
    behind = ap (λ s. s.behind) e ∙ ap (λ j. is_next (number_at numbers k) (number_at numbers j)) (add-one k);
  }

  pub up-to-next : (k : ℕ) (q : Rises) → RisesAround k q → RisesUpTo (k + 1) q
  up-to-next k q u =
      subst (λ j. RisesUpTo j q) (sym (add-one k)) (record { before = u.before; here = u.here; behind = u.behind })

-- it depends on two numbers alone
pub next-alike : (numbers others : List (Option ℕ)) (k : ℕ) (r : Rises) → ((j : ℕ) → k ≤ j → number_at numbers j ≡ number_at others j) → next_rises numbers k r ≡ next_rises others k r
next-alike numbers others k r h =
    λ i. record { earlier = r.before; before = r.here; here = r.behind; behind = is_next (h k (omega arith) i) (h (k + 1) (omega arith) i) }

module _ {E P : Type 0} (after : Option (List ℕ)) (cites : List (ItemRender E P)) where
  -- a cite is changed as its run asks for
  pub step-is : (k : ℕ) (q : Rises) (c : ItemRender E P) → k < length cites → c ≡ get_or cites k c → RisesAround (map shown_number cites) k q
      → number_step q after c ≡ number_collapsed after cites k (get_or cites k c)
  step-is k q c w h u =
      let numbers = map shown_number cites in
      let number : number_at numbers k ≡ shown_number c = at-map shown_number cites k c None w ∙ ap shown_number (sym h) in
      let hides : q.here && q.behind ≡ is_inner numbers k = (λ i. u.here i && u.behind i) ∙ sym (inner numbers k) in
      let dashes : q.before && q.here && not q.behind ≡ ends_collapsed numbers k = (λ i. u.before i && u.here i && not (u.behind i)) ∙ sym (ends numbers k) in
      let parts : q.earlier && q.before && not q.here && is_some (shown_number c) ≡ follows_collapsed numbers k =
      (λ i. u.earlier i && u.before i && not (u.here i) && is_some (sym number i)) ∙ sym (follows numbers k) in
      (λ i. record c {
        hidden = c.hidden || hides i;
        delimiter_override = if dashes i then Some en_dash else if parts i then after else c.delimiter_override;
      })
      ∙ ap (λ d. number_collapsed after cites k d) h
