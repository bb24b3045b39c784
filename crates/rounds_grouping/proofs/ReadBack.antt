-- Hidden numbers can be read back from those that are shown.
use Rattle.std.proofs.Common.{◌≡◌, ◌⊎◌, inl, inr, ℕ, zero, suc, ◌+◌, ◌-◌, ◌<◌, ◌≤◌, Bool, true, false, not, ◌&&◌, ◌||◌, Some, None, List, [], ◌∷◌, length, map, take, drop, get_or, slice_get, refl, ap, sym, subst, ◌∙◌, true≢false, arith}
use Rattle.std.specs.Prelude.{Option, if◌then◌else◌, is_some, nat_eq, option_map, slice_index, slice_range}
use Rattle.std.specs.Cmp.{unsigned_Decides}
use Rattle.std.specs.List.{enumerate_from, list_any, range_with_len}
use Rattle.std.specs.Option.{option_and_then, option_eq, option_map_or}
use Rattle.std.proofs.Math.Seq.{drop-cons}
use Rattle.std.proofs.Math.ListN.{length-map}
use Rattle.std.proofs.lemmas.Bool.{and_parts}
use Rattle.list_lemmas.proofs.Members.{found}
use Rattle.list_lemmas.specs.Places.{places}
use Rattle.value_styles.specs.Style.{CitationValue}
use Rattle.value_styles.specs.declared.style.Collapse.{Collapse}
use Rattle.value_styles.specs.declared.style.Collapse.TheVariants.{CitationNumber, Year, YearSuffix, YearSuffixRanged}
use Rattle.value_trees.specs.Metas.{has_meta}
use Rattle.value_trees.specs.Tree.{find_elem}
use Rattle.value_trees.specs.declared.elem.ElemMeta.TheVariants as meta
use Rattle.driver_passes.specs.Renders.{ItemRender}
use Rattle.rounds_grouping.specs.Collapsed.{collapsed_cites}
use Rattle.rounds_grouping.specs.NumberLaws.{AreCollapsed, AreNextShown, CanBeReadBack, IsInnerToOneRun, WasHid, is_hidden, numbers_of, override_at}
use Rattle.driver_lookup.specs.Between.{between}
use Rattle.rounds_grouping.specs.NumberRuns.{en_dash, ends_collapsed, follows_collapsed, is_inner, is_run, number_at, number_collapsed, shown_number}
use Rattle.rounds_grouping.specs.Stretches.{after_collapse}
use Rattle.rounds_grouping.specs.YearStretches.{cut_to_date, cut_to_suffix, has_later_suffix, is_later_in_stretch, follows_stretch, year_collapsed}
use Rattle.rounds_grouping.proofs.RunLemmas.{ends, goes_up, inner, of-next, rises_to, rose_to, runs, shows, up-from, up-to}
use Rattle.list_lemmas.proofs.Tests.{clash, or-second, some}
use Rattle.list_lemmas.proofs.Wholes.{Whole, linked-before, whole}
use Rattle.driver_passes.specs.ByPlaces.{by_places}

-- a member changed by its place
module _ {X : Type 0} (f : ℕ → X → X) where
  at-from : (b k : ℕ) (xs : List X) → slice_get (map (λ p. f p.0 p.1) (enumerate_from b xs)) k ≡ option_map (f (b + k)) (slice_get xs k)
  at-from b k [] = refl
  at-from b zero (x ∷ xs) = let e : b ≡ b + 0 = omega arith in ap (λ n. Some (f n x)) e
  at-from b (suc k) (x ∷ xs) = let e : b + 1 + k ≡ b + suc k = omega arith in at-from (b + 1) k xs ∙ ap (λ n. option_map (f n) (slice_get xs k)) e

  at-place : (k : ℕ) (xs : List X) → slice_get (by_places f xs) k ≡ option_map (f k) (slice_get xs k)
  at-place k xs = let e : 0 + k ≡ k = omega arith in at-from 0 k xs ∙ ap (λ n. option_map (f n) (slice_get xs k)) e

  kept-from : {Y : Type 0} (g : X → Y) → ((k : ℕ) (x : X) → g (f k x) ≡ g x) → (b : ℕ) (xs : List X) → map g (map (λ p. f p.0 p.1) (enumerate_from b xs)) ≡ map g xs
  kept-from g h b [] = refl
  kept-from g h b (x ∷ xs) = λ i. h b x i ∷ kept-from g h (b + 1) xs i

  -- what no change touches
  untouched : {Y : Type 0} (g : X → Y) → ((k : ℕ) (x : X) → g (f k x) ≡ g x) → (xs : List X) → map g (by_places f xs) ≡ map g xs
  untouched g h = kept-from g h 0

-- numbers that rise by one from each to the next are those behind one
rising : (m a v : ℕ) (xs : List ℕ) → a + m ≤ length xs → ((j : ℕ) → j < m → slice_index xs (a + j) ≡ v + j) → take m (drop a xs) ≡ range_with_len v m
rising zero a v xs h k = none (drop a xs)
  where
    none : (ys : List ℕ) → take zero ys ≡ []
    none [] = refl
    none (y ∷ ys) = refl
rising (suc m) a v xs h k =
    let within : a < length xs = omega arith in
    let at : a + 0 ≡ a = omega arith in
    let first : get_or xs a 0 ≡ v = ap (slice_index xs) (sym at) ∙ k 0 (omega arith) ∙ omega arith in
    ap (take (suc m)) (drop-cons xs a 0 within)
    ∙ (λ i. first i ∷ rising m (suc a) (v + 1) xs (omega arith) (λ j w. let e : suc a + j ≡ a + suc j = omega arith in ap (slice_index xs) e ∙ k (suc j) (omega arith) ∙ omega arith) i)

module _ {E P : Type 0} where
  number-at : (cites : List (ItemRender E P)) (k : ℕ) → number_at (map shown_number cites) k ≡ option_and_then shown_number (slice_get cites k)
  number-at [] k = refl
  number-at (c ∷ cites) zero = refl
  number-at (c ∷ cites) (suc k) = number-at cites k

  number-of : (cites : List (ItemRender E P)) (k : ℕ) (c : ItemRender E P) → slice_get cites k ≡ Some c → slice_index (numbers_of cites) k ≡ c.properties.speculative.citation_number
  number-of [] k c h = cc
  number-of (d ∷ cites) zero c h = let e : d ≡ c = cc in ap (λ x. x.properties.speculative.citation_number) e
  number-of (d ∷ cites) (suc k) c h = number-of cites k c h

  -- a cite that shows its number isn't hidden, and the number is its own
  record Shown (c : ItemRender E P) (o : Option ℕ) : Type 0 where
    not_hidden : c.hidden ≡ false
    own : o ≡ Some c.properties.speculative.citation_number

  shown : (c : ItemRender E P) → is_some (shown_number c) ≡ true → Shown c (shown_number c)
  shown c = by c.hidden (is_some (find_elem (has_meta meta.CitationNumber) c.rendered)) refl
    where
      by : (h s : Bool) → c.hidden ≡ h → is_some (if not h && s then Some c.properties.speculative.citation_number else None) ≡ true
          → Shown c (if not h && s then Some c.properties.speculative.citation_number else None)
      by true s e k = absurd (true≢false (sym k))
      by false false e k = absurd (true≢false (sym k))
      by false true e k = record { not_hidden = e; own = refl }

  record ShownAt (cites : List (ItemRender E P)) (k : ℕ) : Type 0 where
    not_hidden : is_hidden cites k ≡ false
    own : number_at (map shown_number cites) k ≡ Some (slice_index (numbers_of cites) k)

  shown-at : (cites : List (ItemRender E P)) (k : ℕ) → shows (map shown_number cites) k ≡ true → ShownAt cites k
  shown-at cites k h = by (slice_get cites k) refl
    where
      by : (o : Option (ItemRender E P)) → slice_get cites k ≡ o → ShownAt cites k
      by None e = absurd (true≢false (sym (ap is_some (sym (number-at cites k ∙ ap (option_and_then shown_number) e)) ∙ h)))
      by (Some c) e =
          let at : number_at (map shown_number cites) k ≡ shown_number c = number-at cites k ∙ ap (option_and_then shown_number) e in
          let s = shown c (ap is_some (sym at) ∙ h) in
          record { not_hidden = ap (λ o. option_map_or (λ c. c.hidden) o false) e ∙ s.not_hidden; own = at ∙ s.own ∙ ap Some (sym (number-of cites k c e)) }

or-neither : (a b : Bool) → a || b ≡ false → b ≡ false
or-neither true b h = absurd (true≢false h)
or-neither false b h = h

next-number : (x y : Option ℕ) (m n : ℕ) → x ≡ Some m → y ≡ Some n → option_eq nat_eq y (option_map (λ k. k + 1) x) ≡ true → n ≡ m + 1
next-number x y m n e f h = (unsigned_Decides n (m + 1)).0 ((λ i. option_eq nat_eq (sym f i) (option_map (λ k. k + 1) (sym e i))) ∙ h)

module _ {E P : Type 0} (after : Option (List ℕ)) (cites : List (ItemRender E P)) where
  abbrev ns : List (Option ℕ)
  ns = map shown_number cites

  abbrev done : List (ItemRender E P)
  done = by_places (number_collapsed after cites) cites

  hidden-after : (k : ℕ) → is_hidden done k ≡ option_map_or (λ c. c.hidden || is_inner ns k) (slice_get cites k) false
  hidden-after k = ap (λ o. option_map_or (λ c. c.hidden) o false) (at-place (number_collapsed after cites) k cites) ∙ by (slice_get cites k)
    where
      by : (o : Option (ItemRender E P)) → option_map_or (λ c. c.hidden) (option_map (number_collapsed after cites k) o) false ≡ option_map_or (λ c. c.hidden || is_inner ns k) o false
      by None = refl
      by (Some c) = refl

  -- what collapsing hid is inner to a run
  inner-of : (k : ℕ) → WasHid cites done k → is_inner ns k ≡ true
  inner-of k h = by (slice_get cites k) refl
    where
      by : (o : Option (ItemRender E P)) → slice_get cites k ≡ o → is_inner ns k ≡ true
      by None e = absurd (true≢false (sym (h.1) ∙ hidden-after k ∙ ap (λ o. option_map_or (λ c. c.hidden || is_inner ns k) o false) e))
      by (Some c) e =
          or-second c.hidden (is_inner ns k) (ap (λ o. option_map_or (λ c. c.hidden) o false) (sym e) ∙ h.0)
          (ap (λ o. option_map_or (λ c. c.hidden || is_inner ns k) o false) (sym e) ∙ sym (hidden-after k) ∙ h.1)

  -- what is shown isn't
  not-inner : (k : ℕ) → k < length cites → is_hidden done k ≡ false → is_inner ns k ≡ false
  not-inner k w h =
      let c = found cites k w in
      or-neither c.0.hidden (is_inner ns k) (ap (λ o. option_map_or (λ c. c.hidden || is_inner ns k) o false) (sym c.1) ∙ sym (hidden-after k) ∙ h)

  same-length : length done ≡ length cites
  same-length = sym (length-map done (λ c. c.entry)) ∙ ap length (untouched (number_collapsed after cites) (λ c. c.entry) (λ k c. refl) cites) ∙ length-map cites (λ c. c.entry)

  -- a hidden cite that shows its number before is inside a run
  inside : (k : ℕ) → shows ns k ≡ true → is_hidden done k ≡ true → rises_to ns k && goes_up ns k ≡ true
  inside k s h = sym (inner ns k) ∙ inner-of k ((shown-at cites k s).not_hidden, h)

  module _ (p q k : ℕ) (around : AreNextShown cites done p q) (past : p < k) (below : k < q) (hid : WasHid cites done k) where
    here : rises_to ns k && goes_up ns k ≡ true
    here = sym (inner ns k) ∙ inner-of k hid

    -- the numbers go up from p on to the last before q
    climb : (n i : ℕ) → i ≡ k + n → i < q → goes_up ns i ≡ true
    climb zero i e w = let s : k ≡ i = omega arith in subst (λ j. goes_up ns j ≡ true) s (and_parts (rises_to ns k) (goes_up ns k) here).1
    climb (suc n) zero e w = absurd (omega arith)
    climb (suc n) (suc i) e w =
        let up = climb n i (omega arith) (omega arith) in
        (and_parts (rises_to ns (suc i)) (goes_up ns (suc i)) (inside (suc i) (up-to ns i up) (around.between_hidden (suc i) (omega arith) w))).1

    descend : (n i : ℕ) → i + n ≡ k → p ≤ i → goes_up ns i ≡ true
    descend zero i e w = climb zero i (omega arith) (omega arith)
    descend (suc n) i e w =
        let up = descend n (suc i) (omega arith) (omega arith) in
        (and_parts (rises_to ns (suc i)) (goes_up ns (suc i)) (inside (suc i) (up-from ns (suc i) up) (around.between_hidden (suc i) (omega arith) (omega arith)))).0

    below-or : (i : ℕ) → (i ≤ k) ⊎ (k < i)
    below-or i = grind arith

    up-at : (i : ℕ) → p ≤ i → i < q → goes_up ns i ≡ true
    up-at i u v = elim (below-or i) [ inl w ↦ descend (k - i) i (omega arith) u | inr w ↦ climb (i - k) i (omega arith) v ]

    number-next : (i : ℕ) → p ≤ i → i < q → slice_index (numbers_of cites) (suc i) ≡ slice_index (numbers_of cites) i + 1
    number-next i u v =
        let up = up-at i u v in
        let n = of-next (number_at ns i) (number_at ns (suc i)) up in
        next-number (number_at ns i) (number_at ns (suc i)) (slice_index (numbers_of cites) i) (slice_index (numbers_of cites) (suc i)) (shown-at cites i n.0).own (shown-at cites (suc i) n.1).own n.2

    number-from : (j i : ℕ) → i ≡ p + j → i ≤ q → slice_index (numbers_of cites) i ≡ slice_index (numbers_of cites) p + j
    number-from zero i e w = let s : i ≡ p = omega arith in ap (slice_index (numbers_of cites)) s ∙ omega arith
    number-from (suc j) zero e w = absurd (omega arith)
    number-from (suc j) (suc i) e w = omega (arith, number-next i (omega arith) (omega arith), number-from j i (omega arith) (omega arith))

    within : q < length cites
    within = subst (λ n. q < n) same-length around.in_request

    between-are : slice_range (numbers_of cites) (p + 1) q ≡ between (slice_index (numbers_of cites) p) (slice_index (numbers_of cites) q)
    between-are =
        let count : length (numbers_of cites) ≡ length cites = length-map cites (λ c. c.properties.speculative.citation_number) in
        let l = within in
        let last : slice_index (numbers_of cites) q ≡ slice_index (numbers_of cites) p + (q - p) = let o = around.in_order in number-from (q - p) q (omega arith) (omega arith) in
        let many : q - (p + 1) ≡ slice_index (numbers_of cites) q - (slice_index (numbers_of cites) p + 1) = omega arith in
        rising (q - (p + 1)) (p + 1) (slice_index (numbers_of cites) p + 1) (numbers_of cites) (omega arith)
        (λ j w. number-from (1 + j) (p + 1 + j) (omega arith) (omega arith) ∙ omega arith)
        ∙ ap (range_with_len (slice_index (numbers_of cites) p + 1)) many

    -- q ends the run
    ends-at : ends_collapsed ns q ≡ true
    ends-at = ends ns q ∙ by q (omega arith) below (up-at) (not-inner q within around.last_shown) (inner ns q)
      where
        by : (q : ℕ) → p + 2 ≤ q → k < q → ((i : ℕ) → p ≤ i → i < q → goes_up ns i ≡ true) → is_inner ns q ≡ false → is_inner ns q ≡ rises_to ns q && goes_up ns q
            → rose_to ns q && rises_to ns q && not (goes_up ns q) ≡ true
        by zero h w up n e = absurd (omega arith)
        by (suc zero) h w up n e = absurd (omega arith)
        by (suc (suc q)) h w up n e =
            let a = up q (omega arith) (omega arith) in
            let b = up (suc q) (omega arith) (omega arith) in
            let stops : goes_up ns (suc (suc q)) ≡ false = ap (λ x. x && goes_up ns (suc (suc q))) (sym b) ∙ sym e ∙ n in
            λ i. a i && b i && not (stops i)

    dash-before : override_at done q ≡ Some en_dash
    dash-before =
        let c = found cites q within in
        ap (option_and_then (λ c. c.delimiter_override)) (at-place (number_collapsed after cites) q cites ∙ ap (option_map (number_collapsed after cites q)) c.1)
        ∙ ap (λ b. if b then Some en_dash else if follows_collapsed ns q then after else c.0.delimiter_override) ends-at

    together : AreCollapsed cites done p q
    together = record {
      all_were_hid = λ i u v. ((shown-at cites i (up-from ns i (up-at i (omega arith) v))).not_hidden, around.between_hidden i u v);
      numbers_between = subst (λ xs. slice_range xs (p + 1) q ≡ between (slice_index xs p) (slice_index xs q))
          (sym (untouched (number_collapsed after cites) (λ c. c.properties.speculative.citation_number) (λ k c. refl) cites)) between-are;
      dash = dash-before;
    }

  -- two runs that a cite is inside of are one
  module _ (k a b c d : ℕ) (one : Whole (shows ns) (goes_up ns) a b) (other : Whole (shows ns) (goes_up ns) c d) (ak : a < k) (kb : k < b) (ck : c < k) (kd : k < d) where
    three : (m n : ℕ) → (m ≡ n) ⊎ (m < n) ⊎ (n < m)
    three m n = grind arith

    same-first : c ≡ a
    same-first = elim (three c a) [
      | inl e ↦ e
      | inr (inl w) ↦ absurd (clash _ (linked-before (runs ns) a c d other.chain w (omega arith)) one.left)
      | inr (inr w) ↦ absurd (clash _ (linked-before (runs ns) c a b one.chain w (omega arith)) other.left)
    ]

    same-last : d ≡ b
    same-last = elim (three d b) [
      | inl e ↦ e
      | inr (inl w) ↦ absurd (clash _ (one.chain.steps d (omega arith) w) other.right)
      | inr (inr w) ↦ absurd (clash _ (other.chain.steps b (omega arith) w) one.right)
    ]

  in-one-run : (k : ℕ) → WasHid cites done k → IsInnerToOneRun cites done k
  in-one-run k h =
      let a = some (λ a. list_any (λ b. is_run ns a b) (places (k + 1) (length ns))) 0 k (inner-of k h) in
      let b = some (λ b. is_run ns a.0 b) (k + 1) (length ns) a.3 in
      let one = whole (runs ns) a.0 b.0 b.3 in
      record {
        first = a.0;
        last = b.0;
        is_inside = (b.3, a.2, omega arith);
        no_other = λ c d r u v.
            let other = whole (runs ns) c d r in (same-first k a.0 b.0 c d one other a.2 (omega arith) u v, same-last k a.0 b.0 c d one other a.2 (omega arith) u v);
      }

  pub read-back : (collapse : Option Collapse) → collapse ≡ Some CitationNumber → CanBeReadBack cites done collapse
  read-back collapse e = record {
    numbers_stay = untouched (number_collapsed after cites) (λ c. c.properties.speculative.citation_number) (λ k c. refl) cites;
    only_numbers_hide = λ k h. e;
    hidden_can_be_read_back = together;
    hidden_in_one_run = in-one-run;
  }

-- nothing is hidden but by numbers
module _ {E P : Type 0} (collapse : Option Collapse) (cites done : List (ItemRender E P)) where
  none-hid : ((k : ℕ) → is_hidden done k ≡ is_hidden cites k) → numbers_of done ≡ numbers_of cites → CanBeReadBack cites done collapse
  none-hid same numbers =
      let never = λ (k : ℕ) (h : WasHid cites done k). clash (is_hidden done k) h.1 (same k ∙ h.0) in
      record {
        numbers_stay = numbers;
        only_numbers_hide = λ k h. absurd (never k h);
        hidden_can_be_read_back = λ p q k around u v h. absurd (never k h);
        hidden_in_one_run = λ k h. absurd (never k h);
      }

module _ {E P : Type 0} (citation : CitationValue) (to_suffixes : Bool) (cites : List (ItemRender E P)) where
  -- years change neither
  record YearKeeps (c d : ItemRender E P) : Type 0 where
    hidden : d.hidden ≡ c.hidden
    number : d.properties.speculative.citation_number ≡ c.properties.speculative.citation_number

  year-keeps : (k : ℕ) (c : ItemRender E P) → YearKeeps c (year_collapsed citation to_suffixes cites k c)
  year-keeps k c = by (is_later_in_stretch (map (λ d. d.group) cites) k) (to_suffixes && has_later_suffix c) (follows_stretch (map (λ d. d.group) cites) k)
    where
      by : (l s f : Bool) → YearKeeps c (if l then (if s then cut_to_suffix citation c else cut_to_date citation c) else if f then record c { delimiter_override = after_collapse citation } else c)
      by true true f = record { hidden = refl; number = refl }
      by true false f = record { hidden = refl; number = refl }
      by false s true = record { hidden = refl; number = refl }
      by false s false = record { hidden = refl; number = refl }

  year-hidden : (k : ℕ) → is_hidden (by_places (year_collapsed citation to_suffixes cites) cites) k ≡ is_hidden cites k
  year-hidden k = ap (λ o. option_map_or (λ c. c.hidden) o false) (at-place (year_collapsed citation to_suffixes cites) k cites) ∙ by (slice_get cites k)
    where
      by : (o : Option (ItemRender E P)) → option_map_or (λ c. c.hidden) (option_map (year_collapsed citation to_suffixes cites k) o) false ≡ option_map_or (λ c. c.hidden) o false
      by None = refl
      by (Some c) = (year-keeps k c).hidden

  years : (collapse : Option Collapse) → CanBeReadBack cites (by_places (year_collapsed citation to_suffixes cites) cites) collapse
  years collapse =
      none-hid collapse cites (by_places (year_collapsed citation to_suffixes cites) cites) year-hidden
      (untouched (year_collapsed citation to_suffixes cites) (λ c. c.properties.speculative.citation_number) (λ k c. (year-keeps k c).number) cites)

-- by whatever collapse a style asks for
pub all-read-back : {E P : Type 0} (collapse : Option Collapse) (citation : CitationValue) (cites : List (ItemRender E P)) → CanBeReadBack cites (collapsed_cites collapse citation cites) collapse
all-read-back None citation cites = none-hid None cites cites (λ k. refl) refl
all-read-back (Some CitationNumber) citation cites = read-back (after_collapse citation) cites (Some CitationNumber) refl
all-read-back (Some Year) citation cites = years citation false cites (Some Year)
all-read-back (Some YearSuffix) citation cites = years citation true cites (Some YearSuffix)
all-read-back (Some YearSuffixRanged) citation cites = years citation false cites (Some YearSuffixRanged)

-- what a call leaves, from what it makes of the cites
pub by-collapse : {E P : Type 0} (citation : CitationValue) (cites new : List (ItemRender E P)) → new ≡ collapsed_cites citation.collapse citation cites → CanBeReadBack cites new citation.collapse
by-collapse citation cites new e = subst (λ ds. CanBeReadBack cites ds citation.collapse) (sym e) (all-read-back citation.collapse citation cites)
