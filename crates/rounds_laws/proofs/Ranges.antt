-- Where numbers collapse: which cites are hidden, and what stands before the others.
use Rattle.std.proofs.Common.{◌≡◌, ℕ, zero, suc, ◌+◌, ◌<◌, ◌≤◌, ◌⊎◌, inl, inr, Bool, true, false, not, ◌&&◌, ◌||◌, List, map, refl, ap, sym, subst, ◌∙◌, true≢false, arith, add-one}
use Rattle.std.specs.Prelude.{Option, None, Some, if◌then◌else◌, is_some, option_and_then, option_map, slice_get}
use Rattle.std.specs.Cmp.{unsigned_Decides}
use Rattle.std.specs.Option.{option_map_or}
use Rattle.std.proofs.lemmas.Bool.{and_from, and_parts, not-true, not_from_false}
use Rattle.value_trees.specs.Metas.{has_meta}
use Rattle.value_trees.specs.Tree.{find_elem}
use Rattle.value_trees.specs.declared.elem.ElemMeta.TheVariants as meta
use Rattle.rounds_grouping.specs.NumberLaws.{AreNextShown, CanBeReadBack, WasHid, is_hidden, override_at}
use Rattle.rounds_grouping.specs.NumberRuns.{en_dash, ends_collapsed, follows_collapsed, is_inner, number_at, number_collapsed, shown_number}
use Rattle.rounds_grouping.specs.CollapseSteps.{is_next}
use Rattle.rounds_grouping.proofs.RunLemmas.{ends, follows, goes_up, inner, rises_to, rose_to, shows, up-from, up-to}
use Rattle.list_lemmas.proofs.Tests.{clash, fails, or-second}
use Rattle.driver_passes.specs.ByPlaces.{by_places}
use Rattle.driver_passes.specs.Renders.{ItemRender}
use Rattle.rounds_laws.specs.CollapseLaws.{AreInARow, EndsRange, FollowsRange, HasHiddenNumbers, IsMiddle, NumbersCollapse, number_shown_at}
use Rattle.value_styles.specs.declared.style.Collapse.{Collapse}
use Rattle.rounds_laws.proofs.Places.{at-place, read-at, within}

-- both are there, and the second is one more
record OneMore (x y : Option ℕ) : Type 0 where
  number : ℕ
  first : x ≡ Some number
  second : y ≡ Some (number + 1)

next-is : (x y : Option ℕ) → is_next x y ≡ true → OneMore x y
next-is None y h = absurd (true≢false (sym h))
next-is (Some m) None h = absurd (true≢false (sym h))
next-is (Some m) (Some n) h = record { number = m; first = refl; second = ap Some ((unsigned_Decides n (m + 1)).0 h) }

is-next : (x y : Option ℕ) (m : ℕ) → x ≡ Some m → y ≡ Some (m + 1) → is_next x y ≡ true
is-next x y m e f = (λ i. is_next (e i) (f i)) ∙ (unsigned_Decides (m + 1) (m + 1)).1 refl

same-number : (x : Option ℕ) (m n : ℕ) → x ≡ Some m → x ≡ Some n → m ≡ n
same-number x m n e f = cc

and-false : (a b : Bool) → b ≡ false → a && b ≡ false
and-false true b e = e
and-false false b e = refl

module _ {E P : Type 0} where
  -- a cite that shows its number isn't hidden
  not-hidden : (c : ItemRender E P) → is_some (shown_number c) ≡ true → c.hidden ≡ false
  not-hidden c = by c.hidden (is_some (find_elem (has_meta meta.CitationNumber) c.rendered))
    where
      by : (h s : Bool) → is_some (if not h && s then Some c.properties.speculative.citation_number else None) ≡ true → h ≡ false
      by true s k = absurd (true≢false (sym k))
      by false s k = refl

module _ {E P : Type 0} (after : Option (List ℕ)) (cites : List (ItemRender E P)) where
  abbrev ns : List (Option ℕ)
  ns = map shown_number cites

  abbrev done : List (ItemRender E P)
  done = by_places (number_collapsed after cites) cites

  number-is : (k : ℕ) → number_at ns k ≡ number_shown_at cites k
  number-is k = read-at shown_number cites k

  -- what stands at k: nothing, or a cite
  module _ (k : ℕ) where
    hidden-after : is_hidden done k ≡ option_map_or (λ c. c.hidden || is_inner ns k) (slice_get cites k) false
    hidden-after = ap (λ o. option_map_or (λ c. c.hidden) o false) (at-place (number_collapsed after cites) k cites) ∙ by (slice_get cites k)
      where
        by : (o : Option (ItemRender E P)) → option_map_or (λ c. c.hidden) (option_map (number_collapsed after cites k) o) false ≡ option_map_or (λ c. c.hidden || is_inner ns k) o false
        by None = refl
        by (Some c) = refl

    override-after : (o : Option (ItemRender E P)) → slice_get cites k ≡ o
        → override_at done k ≡ option_and_then (λ c. if ends_collapsed ns k then Some en_dash else if follows_collapsed ns k then after else c.delimiter_override) o
    override-after o e = ap (option_and_then (λ c. c.delimiter_override)) (at-place (number_collapsed after cites) k cites ∙ ap (option_map (number_collapsed after cites k)) e) ∙ by o
      where
        by : (o : Option (ItemRender E P)) → option_and_then (λ c. c.delimiter_override) (option_map (number_collapsed after cites k) o)
            ≡ option_and_then (λ c. if ends_collapsed ns k then Some en_dash else if follows_collapsed ns k then after else c.delimiter_override) o
        by None = refl
        by (Some c) = refl

    -- a cite that shows its number
    record ShowsAt : Type 0 where
      cite : ItemRender E P
      here : slice_get cites k ≡ Some cite
      not_hidden : cite.hidden ≡ false

    shows-at : shows ns k ≡ true → ShowsAt
    shows-at h = by (slice_get cites k) refl
      where
        by : (o : Option (ItemRender E P)) → slice_get cites k ≡ o → ShowsAt
        by None e = absurd (true≢false (sym h ∙ ap is_some (number-is k ∙ ap (option_and_then shown_number) e)))
        by (Some c) e = record { cite = c; here = e; not_hidden = not-hidden c (ap is_some (sym (number-is k ∙ ap (option_and_then shown_number) e)) ∙ h) }

    was-shown : shows ns k ≡ true → is_hidden cites k ≡ false
    was-shown h = let s = shows-at h in ap (λ o. option_map_or (λ c. c.hidden) o false) s.here ∙ s.not_hidden

    -- where it shows its number, it is hidden exactly where it is inner to a run
    hidden-inner : shows ns k ≡ true → is_hidden done k ≡ is_inner ns k
    hidden-inner h =
        let s = shows-at h in
        hidden-after ∙ ap (λ o. option_map_or (λ c. c.hidden || is_inner ns k) o false) s.here ∙ ap (λ b. b || is_inner ns k) s.not_hidden

    inner-of : WasHid cites done k → is_inner ns k ≡ true
    inner-of h = by (slice_get cites k) refl
      where
        by : (o : Option (ItemRender E P)) → slice_get cites k ≡ o → is_inner ns k ≡ true
        by None e = absurd (true≢false (sym (h.1) ∙ hidden-after ∙ ap (λ o. option_map_or (λ c. c.hidden || is_inner ns k) o false) e))
        by (Some c) e =
            or-second c.hidden (is_inner ns k) (ap (λ o. option_map_or (λ c. c.hidden) o false) (sym e) ∙ h.0)
            (ap (λ o. option_map_or (λ c. c.hidden || is_inner ns k) o false) (sym e) ∙ sym hidden-after ∙ h.1)

    both-ways : WasHid cites done k → (rises_to ns k ≡ true) × (goes_up ns k ≡ true)
    both-ways h = and_parts (rises_to ns k) (goes_up ns k) (sym (inner ns k) ∙ inner-of h)

  -- a cite between two others of a run was hidden
  was-hid : (i : ℕ) → goes_up ns i ≡ true → goes_up ns (suc i) ≡ true → WasHid cites done (suc i)
  was-hid i low high =
      let h = up-to ns i low in
      (was-shown (suc i) h, hidden-inner (suc i) h ∙ inner ns (suc i) ∙ and_from (goes_up ns i) (goes_up ns (suc i)) low high)

  module _ (k : ℕ) where
    -- the numbers around the middle one of three
    up-of : AreInARow cites k → (goes_up ns k ≡ true) × (goes_up ns (suc k) ≡ true)
    up-of r =
        let one : k + 1 ≡ suc k = omega arith in
        let two : k + 2 ≡ suc (suc k) = omega arith in
        let more : r.number + 1 + 1 ≡ r.number + 2 = omega arith in
        let first = number-is k ∙ r.first in
        let second = number-is (suc k) ∙ ap (number_shown_at cites) (sym one) ∙ r.second in
        let third = number-is (suc (suc k)) ∙ ap (number_shown_at cites) (sym two) ∙ r.third ∙ ap Some (sym more) in
        (is-next _ _ r.number first second, is-next _ _ (r.number + 1) second third)

    of-up : goes_up ns k ≡ true → goes_up ns (suc k) ≡ true → AreInARow cites k
    of-up low high =
        let one : k + 1 ≡ suc k = omega arith in
        let two : k + 2 ≡ suc (suc k) = omega arith in
        let a = next-is _ _ low in
        let b = next-is _ _ high in
        let same : b.number ≡ a.number + 1 = same-number (number_at ns (suc k)) b.number (a.number + 1) b.first a.second in
        let more : b.number + 1 ≡ a.number + 2 = omega (arith, same) in
        record {
          number = a.number;
          first = sym (number-is k) ∙ a.first;
          second = ap (number_shown_at cites) one ∙ sym (number-is (suc k)) ∙ a.second;
          third = ap (number_shown_at cites) two ∙ sym (number-is (suc (suc k))) ∙ b.second ∙ ap Some more;
        }

  middle-hides : (k : ℕ) → IsMiddle cites k → is_hidden done k ≡ true
  middle-hides k m =
      let up = up-of m.before m.in_a_row in
      let at : k ≡ suc m.before = m.directly ∙ add-one m.before in
      subst (λ j. is_hidden done j ≡ true) (sym at) (was-hid m.before up.0 up.1).1

  no-other : (k : ℕ) → WasHid cites done k → IsMiddle cites k
  no-other zero h = absurd (true≢false (sym (both-ways zero h).0))
  no-other (suc k) h = let up = both-ways (suc k) h in record { before = k; directly = sym (add-one k); in_a_row = of-up k up.0 up.1 }

  -- the end of a range: the numbers rose to it and to the cite before it, and don't rise from it
  record IsEnd (k : ℕ) : Type 0 where
    rose : rose_to ns k ≡ true
    rises : rises_to ns k ≡ true
    ended : goes_up ns k ≡ false

  end-of : (k : ℕ) → EndsRange cites done k → IsEnd k
  end-of k h = subst IsEnd (sym (h.directly ∙ add-one h.before)) (from h.before h.hid (subst (λ j. is_hidden done j ≡ false) (h.directly ∙ add-one h.before) h.shown))
    where
      from : (j : ℕ) → WasHid cites done j → is_hidden done (suc j) ≡ false → IsEnd (suc j)
      from j hid shown =
          let up = both-ways j hid in
          record {
            rose = up.0;
            rises = up.1;
            ended = fails (goes_up ns (suc j)) (λ more. clash (is_hidden done (suc j)) (was-hid j up.1 more).1 shown);
          }

  of-end : (k : ℕ) → IsEnd k → EndsRange cites done k
  of-end zero e = absurd (true≢false (sym e.rises))
  of-end (suc zero) e = absurd (true≢false (sym e.rose))
  of-end (suc (suc i)) e = record {
    before = suc i;
    directly = sym (add-one (suc i));
    hid = was-hid i e.rose e.rises;
    shown = hidden-inner (suc (suc i)) (up-to ns (suc i) e.rises) ∙ inner ns (suc (suc i)) ∙ and-false (goes_up ns (suc i)) (goes_up ns (suc (suc i))) e.ended;
  }

  end-test : (k : ℕ) → IsEnd k → ends_collapsed ns k ≡ true
  end-test k e = ends ns k ∙ and_from (rose_to ns k && rises_to ns k) (not (goes_up ns k)) (and_from (rose_to ns k) (rises_to ns k) e.rose e.rises) (not_from_false _ e.ended)

  test-end : (k : ℕ) → ends_collapsed ns k ≡ true → IsEnd k
  test-end k h =
      let p = and_parts (rose_to ns k && rises_to ns k) (not (goes_up ns k)) (sym (ends ns k) ∙ h) in
      let q = and_parts (rose_to ns k) (rises_to ns k) p.0 in
      record { rose = q.0; rises = q.1; ended = not-true _ p.1 }

  -- what shows a number right behind such an end
  record IsBehindEnd (k : ℕ) : Type 0 where
    place : ℕ
    directly : k ≡ suc place
    end : IsEnd place
    shown : shows ns k ≡ true

  behind-test : (k : ℕ) → IsBehindEnd k → (ends_collapsed ns k ≡ false) × (follows_collapsed ns k ≡ true)
  behind-test k b =
      subst (λ j. (ends_collapsed ns j ≡ false) × (follows_collapsed ns j ≡ true)) (sym b.directly)
      (from b.place b.end (subst (λ j. shows ns j ≡ true) b.directly b.shown))
    where
      from : (j : ℕ) → IsEnd j → shows ns (suc j) ≡ true → (ends_collapsed ns (suc j) ≡ false) × (follows_collapsed ns (suc j) ≡ true)
      from j e s = (
        fails (ends_collapsed ns (suc j)) (λ h. clash (goes_up ns j) (test-end (suc j) h).rises e.ended),
        follows ns (suc j)
            ∙ and_from (rose_to ns j && rises_to ns j && not (goes_up ns j)) (shows ns (suc j))
            (and_from (rose_to ns j && rises_to ns j) (not (goes_up ns j)) (and_from (rose_to ns j) (rises_to ns j) e.rose e.rises) (not_from_false _ e.ended)) s,
      )

  test-behind : (k : ℕ) → follows_collapsed ns k ≡ true → IsBehindEnd k
  test-behind zero h = absurd (true≢false (sym (sym (follows ns zero) ∙ h)))
  test-behind (suc j) h =
      let p = and_parts (rose_to ns j && rises_to ns j && not (goes_up ns j)) (shows ns (suc j)) (sym (follows ns (suc j)) ∙ h) in
      let q = and_parts (rose_to ns j && rises_to ns j) (not (goes_up ns j)) p.0 in
      let r = and_parts (rose_to ns j) (rises_to ns j) q.0 in
      record { place = j; directly = refl; end = record { rose = r.0; rises = r.1; ended = not-true _ q.1 }; shown = p.1 }

  dash-at : (k : ℕ) → EndsRange cites done k → override_at done k ≡ Some en_dash
  dash-at k h =
      let e = end-of k h in
      let c = shows-at k (rises-shown k e.rises) in
      override-after k (Some c.cite) c.here ∙ ap (λ b. if b then Some en_dash else if follows_collapsed ns k then after else c.cite.delimiter_override) (end-test k e)
    where
      rises-shown : (k : ℕ) → rises_to ns k ≡ true → shows ns k ≡ true
      rises-shown zero h = absurd (true≢false (sym h))
      rises-shown (suc k) h = up-to ns k h

  behind-at : (k : ℕ) → FollowsRange cites done k → override_at done k ≡ after
  behind-at k h =
      let s : shows ns k ≡ true = ap is_some (number-is k) ∙ h.shows in
      let b = behind-test k (record { place = h.before; directly = h.directly ∙ add-one h.before; end = end-of h.before h.after_range; shown = s }) in
      let c = shows-at k s in
      override-after k (Some c.cite) c.here
      ∙ (λ i. if b.0 i then Some en_dash else if b.1 i then after else c.cite.delimiter_override)

  else-at : (k : ℕ) → ¬ EndsRange cites done k → ¬ FollowsRange cites done k → override_at done k ≡ override_at cites k
  else-at k no-end no-behind = by (slice_get cites k) refl
    where
      no-dash : ends_collapsed ns k ≡ false
      no-dash = fails (ends_collapsed ns k) (λ h. no-end (of-end k (test-end k h)))

      no-after : follows_collapsed ns k ≡ false
      no-after = fails (follows_collapsed ns k) (λ h.
          let b = test-behind k h in
          no-behind (record {
            before = b.place;
            directly = b.directly ∙ sym (add-one b.place);
            after_range = of-end b.place b.end;
            shows = ap is_some (sym (number-is k)) ∙ b.shown;
          }))

      by : (o : Option (ItemRender E P)) → slice_get cites k ≡ o → override_at done k ≡ override_at cites k
      by None e = override-after k None e ∙ sym (ap (option_and_then (λ c. c.delimiter_override)) e)
      by (Some c) e =
          override-after k (Some c) e ∙ (λ i. if no-dash i then Some en_dash else if no-after i then after else c.delimiter_override)
          ∙ sym (ap (option_and_then (λ c. c.delimiter_override)) e)

  -- the shown cite before those that were hid
  record ShownBefore (j : ℕ) : Type 0 where
    first : ℕ
    below : first < j
    first_shown : is_hidden done first ≡ false
    hidden_behind : (i : ℕ) → first < i → i ≤ j → is_hidden done i ≡ true

  shown-before : (j : ℕ) → WasHid cites done j → ShownBefore j
  shown-before zero h = absurd (true≢false (sym (both-ways zero h).0))
  shown-before (suc j) h = by (is_hidden done j) refl (shown-before j)
    where
      up : goes_up ns j ≡ true
      up = (both-ways (suc j) h).0

      last : (i : ℕ) → i ≤ suc j → (i ≡ suc j) ⊎ (i ≤ j)
      last i u = grind arith

      by : (b : Bool) → is_hidden done j ≡ b → (WasHid cites done j → ShownBefore j) → ShownBefore (suc j)
      by false e before-that = record {
        first = j;
        below = omega arith;
        first_shown = e;
        hidden_behind = λ i u v. let s : suc j ≡ i = omega (arith, u, v) in subst (λ m. is_hidden done m ≡ true) s h.1;
      }
      by true e before-that =
          let more = before-that (was-shown j (up-from ns j up), e) in
          record {
            first = more.first;
            below = let u = more.below in omega (arith, u);
            first_shown = more.first_shown;
            hidden_behind = λ i u v. elim (last i v) [ inl s ↦ subst (λ m. is_hidden done m ≡ true) (sym s) h.1 | inr w ↦ more.hidden_behind i u w ];
          }

  pub numbers-collapse : (collapse : Option Collapse) → CanBeReadBack cites done collapse → NumbersCollapse cites done after
  numbers-collapse collapse read = record {
    middle_hides = middle-hides;
    no_other_hides = no-other;
    dash = dash-at;
    for_numbers = for-numbers;
    after_range = behind-at;
    else_stays = else-at;
  }
    where
      for-numbers : (k : ℕ) → EndsRange cites done k → HasHiddenNumbers cites done k
      for-numbers k h =
          let s = shown-before h.before h.hid in
          let at : k ≡ suc h.before = h.directly ∙ add-one h.before in
          let low = s.below in
          let c = shows-at k (subst (λ j. shows ns j ≡ true) (sym at) (up-to ns h.before (both-ways h.before h.hid).1)) in
          let next : AreNextShown cites done s.first k = record {
            in_order = omega (arith, at, low);
            in_request = within done k (number_collapsed after cites k c.cite) (at-place (number_collapsed after cites) k cites ∙ ap (option_map (number_collapsed after cites k)) c.here);
            first_shown = s.first_shown;
            last_shown = h.shown;
            between_hidden = λ i u v. s.hidden_behind i u (omega (arith, at, v));
          } in
          record {
            first = s.first;
            next_shown = next;
            numbers = read.hidden_can_be_read_back s.first k h.before next low (omega (arith, at)) h.hid;
          }
