-- Where years collapse: which cites are cut, and which one of their block is not.
use Rattle.std.proofs.Common.{◌≡◌, ℕ, zero, suc, ◌≤◌, ◌⊎◌, inl, inr, Bool, true, false, not, ◌&&◌, List, map, refl, ap, sym, subst, ◌∙◌, true≢false, arith, add-one}
use Rattle.std.specs.Prelude.{Option, None, Some, if◌then◌else◌, option_and_then, option_map, slice_get}
use Rattle.std.specs.Cmp.{unsigned_Decides}
use Rattle.std.proofs.lemmas.Bool.{and_from, and_parts, not-true, not_from_false}
use Rattle.rounds_grouping.specs.CollapseSteps.{is_same}
use Rattle.rounds_grouping.specs.Stretches.{after_collapse}
use Rattle.rounds_grouping.specs.YearStretches.{cut_to_date, cut_to_suffix, follows_stretch, group_at, has_later_suffix, is_later_in_stretch, year_collapsed}
use Rattle.rounds_grouping.proofs.StretchLemmas.{follows, later, later_at, was_later_at}
use Rattle.list_lemmas.proofs.Tests.{clash, fails}
use Rattle.driver_passes.specs.ByPlaces.{by_places}
use Rattle.driver_passes.specs.Renders.{ItemRender}
use Rattle.value_styles.specs.Style.{CitationValue}
use Rattle.rounds_laws.specs.BlockLaws.{block_at}
use Rattle.rounds_laws.specs.CollapseLaws.{FollowsBlock, FollowsOwn, FollowsWhole, YearsCollapse, verdict_at}
use Rattle.rounds_laws.proofs.Places.{at-place, read-at}

-- both are there and equal
record IsShared (x y : Option ℕ) : Type 0 where
  block : ℕ
  first : x ≡ Some block
  second : y ≡ Some block

shared : (x y : Option ℕ) → is_same x y ≡ true → IsShared x y
shared None y h = absurd (true≢false (sym h))
shared (Some m) None h = absurd (true≢false (sym h))
shared (Some m) (Some n) h = record { block = m; first = refl; second = ap Some ((unsigned_Decides n m).0 h) }

of-shared : (x y : Option ℕ) (m : ℕ) → x ≡ Some m → y ≡ Some m → is_same x y ≡ true
of-shared x y m e f = (λ i. is_same (e i) (f i)) ∙ (unsigned_Decides m m).1 refl

module _ {E P : Type 0} (citation : CitationValue) (to_suffixes : Bool) (cites : List (ItemRender E P)) where
  abbrev gs : List (Option ℕ)
  gs = map (λ d. d.group) cites

  abbrev done : List (ItemRender E P)
  done = by_places (year_collapsed citation to_suffixes cites) cites

  abbrev after : Option (List ℕ)
  after = after_collapse citation

  abbrev cut : ItemRender E P → ItemRender E P
  cut c = if to_suffixes && has_later_suffix c then cut_to_suffix citation c else cut_to_date citation c

  abbrev behind : ItemRender E P → ItemRender E P
  behind c = record c { delimiter_override = after }

  block-is : (k : ℕ) → group_at gs k ≡ block_at cites k
  block-is k = read-at (λ d. d.group) cites k

  own-test : (k : ℕ) → FollowsOwn cites k → later_at gs k ≡ true
  own-test k h = subst (λ j. later_at gs j ≡ true) (sym at) (of-shared _ _ h.block (block-is h.before ∙ h.same) (block-is (suc h.before) ∙ ap (block_at cites) (sym at) ∙ h.own))
    where
      at : k ≡ suc h.before
      at = h.directly ∙ add-one h.before

  test-own : (k : ℕ) → later_at gs k ≡ true → FollowsOwn cites k
  test-own zero h = absurd (true≢false (sym h))
  test-own (suc k) h =
      let s = shared (group_at gs k) (group_at gs (suc k)) h in
      record { before = k; directly = sym (add-one k); block = s.block; own = sym (block-is (suc k)) ∙ s.second; same = sym (block-is k) ∙ s.first }

  none-own : (k : ℕ) → ¬ FollowsOwn cites k → later_at gs k ≡ false
  none-own k isnt = fails (later_at gs k) (λ h. isnt (test-own k h))

  behind-test : (k : ℕ) → FollowsBlock cites k → follows_stretch gs k ≡ true
  behind-test k h = follows gs k ∙ and_from (was_later_at gs k) (not (later_at gs k)) was (not_from_false _ (none-own k h.other))
    where
      was : was_later_at gs k ≡ true
      was = subst (λ j. was_later_at gs j ≡ true) (sym (h.directly ∙ add-one h.before)) (own-test h.before h.after_own)

  test-behind : (k : ℕ) → follows_stretch gs k ≡ true → FollowsBlock cites k
  test-behind zero h = absurd (true≢false (sym (sym (follows gs zero) ∙ h)))
  test-behind (suc k) h =
      let p = and_parts (later_at gs k) (not (later_at gs (suc k))) (sym (follows gs (suc k)) ∙ h) in
      record { before = k; directly = sym (add-one k); after_own = test-own k p.0; other = λ own. clash (later_at gs (suc k)) (own-test (suc k) own) (not-true _ p.1) }

  -- what stands at k, by the two tests
  done-at : (k : ℕ) (o : Option (ItemRender E P)) → slice_get cites k ≡ o → (l f : Bool) → is_later_in_stretch gs k ≡ l → follows_stretch gs k ≡ f
      → slice_get done k ≡ option_map (λ c. if l then cut c else if f then behind c else c) o
  done-at k o e l f p q =
      at-place (year_collapsed citation to_suffixes cites) k cites ∙ ap (option_map (year_collapsed citation to_suffixes cites k)) e
      ∙ by o
    where
      by : (o : Option (ItemRender E P)) → option_map (year_collapsed citation to_suffixes cites k) o ≡ option_map (λ c. if l then cut c else if f then behind c else c) o
      by None = refl
      by (Some c) = λ i. Some (if p i then cut c else if q i then behind c else c)

  stays-at : (k : ℕ) → ¬ FollowsOwn cites k → ¬ FollowsBlock cites k → slice_get done k ≡ slice_get cites k
  stays-at k no-own no-behind =
      done-at k (slice_get cites k) refl false false (later gs k ∙ none-own k no-own) (fails (follows_stretch gs k) (λ h. no-behind (test-behind k h))) ∙ by (slice_get cites k)
    where
      by : (o : Option (ItemRender E P)) → option_map (λ c. c) o ≡ o
      by None = refl
      by (Some c) = refl

  -- where a cite doesn't follow its own block it isn't cut
  whole-at : (k : ℕ) → ¬ FollowsOwn cites k → verdict_at done k ≡ verdict_at cites k
  whole-at k no-own =
      ap (option_and_then (λ c. c.verdict)) (done-at k (slice_get cites k) refl false (follows_stretch gs k) (later gs k ∙ none-own k no-own) refl)
      ∙ by (follows_stretch gs k) (slice_get cites k)
    where
      by : (f : Bool) (o : Option (ItemRender E P)) → option_and_then (λ c. c.verdict) (option_map (λ c. if f then behind c else c) o) ≡ option_and_then (λ c. c.verdict) o
      by f None = refl
      by true (Some c) = refl
      by false (Some c) = refl

  -- the first of a block isn't cut
  whole-before : (k : ℕ) → FollowsOwn cites k → FollowsWhole cites done k
  whole-before zero h = let e = h.directly in absurd (omega (arith, e))
  whole-before (suc k) h = by (later_at gs k) refl (whole-before k)
    where
      here : block_at cites k ≡ block_at cites (suc k)
      here =
          let s = shared (group_at gs k) (group_at gs (suc k)) (own-test (suc k) h) in
          sym (block-is k) ∙ s.first ∙ sym (sym (block-is (suc k)) ∙ s.second)

      last : (j : ℕ) → j ≤ suc k → (j ≡ suc k) ⊎ (j ≤ k)
      last j u = grind arith

      by : (b : Bool) → later_at gs k ≡ b → (FollowsOwn cites k → FollowsWhole cites done k) → FollowsWhole cites done (suc k)
      by true e before-that =
          let more = before-that (test-own k e) in
          record {
            first = more.first;
            before = let u = more.before in omega (arith, u);
            one_block = λ j u v. elim (last j v) [ inl s ↦ ap (block_at cites) s | inr w ↦ more.one_block j u w ∙ here ];
            whole = more.whole;
          }
      by false e before-that = record {
        first = k;
        before = omega arith;
        one_block = λ j u v. elim (last j v) [ inl s ↦ ap (block_at cites) s | inr w ↦ (let s : j ≡ k = omega (arith, u, w) in ap (block_at cites) s) ∙ here ];
        whole = whole-at k (λ own. clash (later_at gs k) (own-test k own) e);
      }

  pub years-collapse : YearsCollapse cites done cut after
  years-collapse = record {
    cut_after_own = λ k c own e. done-at k (Some c) e true (follows_stretch gs k) (later gs k ∙ own-test k own) refl;
    names_before = whole-before;
    after_block = λ k c h e. done-at k (Some c) e false true (later gs k ∙ none-own k h.other) (behind-test k h);
    else_stays = stays-at;
  }
