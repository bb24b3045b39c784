-- The laws of how the cites of a request are arranged.
use Rattle.std.proofs.Common.{◌≡◌, ◌⊎◌, inl, inr, ℕ, zero, suc, Bool, true, false, not, ◌&&◌, Option, Some, None, List, length, map, refl, ap, sym, subst, ◌∙◌, true≢false}
use Rattle.std.specs.Prelude.{if◌then◌else◌, is_some, nat_eq, nat_lt, option_map, slice_get, zip}
use Rattle.std.specs.Option.{is_none, option_and_then, option_eq, option_map_or}
use Rattle.std.proofs.lemmas.Bool.{and_parts, eqb-true, not-true}
use Rattle.std.proofs.lemmas.Option.{none-some, same_Some}
use Rattle.value_styles.specs.declared.style.Collapse.{Collapse}
use Rattle.mentions_ranges.specs.NumberRanges.{rises}
use Rattle.mentions_ranges.specs.Stretches.{both}
use Rattle.mentions_ranges.specs.SuffixStretches.{fits, is_alike, is_alone, joins}
use Rattle.mentions_ranges.specs.declared.collapsed.Delimiter.{Delimiter}
use Rattle.mentions_ranges.proofs.Following.{rises-sound}
use Rattle.mentions_ranges.proofs.Suffixed.{joins-sound}
use Rattle.mentions_blocks.specs.Collapsed.{collapsed, cut_of, delimiter_of}
use Rattle.mentions_blocks.specs.Parts.{part_at, shown_at}
use Rattle.mentions_blocks.specs.declared.collapsed.YearCut.{YearCut}
use Rattle.mentions_blocks.specs.declared.collapsed.YearDelimiter.{YearDelimiter}
use Rattle.mentions_blocks.specs.declared.years.BlockDelimiter.{BlockDelimiter}
use Rattle.mentions_arranging.specs.Arranged.{arranged_by_years, arranged_cite}
use Rattle.mentions_arranging.specs.Collapsing.{block_years, cite_ranges, fits_range, names_shown, numbered_cite, range_number, shown_cite, suffixed_cite, years_with_ranges}
use Rattle.mentions_arranging.specs.Order.{collapses_years}
use Rattle.mentions_arranging.specs.declared.arranged.ArrangedCite.{ArrangedCite}
use Rattle.mentions_arranging.specs.declared.positioned.PositionedCite.{PositionedCite}
use Rattle.mentions_arranging.specs.declared.request.CiteStyle.{CiteStyle}
use Rattle.mentions_arranging.specs.declared.request.RequestedCite.{RequestedCite}
use Rattle.mentions_laws.specs.Arranged.{AreArranged, IsArranged, IsUncollapsed, ShowsBareNumber, counts_on, cut_at, holds_before, is_dash, is_inner_at, reads_on}
use Rattle.mentions_laws.specs.Cuts.{NamesStandBefore}
use Rattle.mentions_laws.proofs.Blocks.{IsBlocked, blocked, loses_names, shown}
use Rattle.mentions_laws.proofs.Cutting.{Follows, stands-before}
use Rattle.mentions_laws.proofs.Parting.{follows-is, follows-joins, has-parts}
use Rattle.mentions_laws.proofs.Places.{mapped, there-before, nothing, zipped, zipped-none}
use Rattle.mentions_laws.proofs.Ranges.{IsRanged, dashes, inner_by, ranged}

four : (a b c d : Bool) → a && b && c && d ≡ true → (a ≡ true) × (b ≡ true) × (c ≡ true) × (d ≡ true)
four true true true true h = (refl, refl, refl, refl)
four true true true false h = absurd (true≢false (sym h))
four true true false d h = absurd (true≢false (sym h))
four true false c d h = absurd (true≢false (sym h))
four false b c d h = absurd (true≢false (sym h))

is-none : {X : Type 0} (o : Option X) → is_none o ≡ true → o ≡ None
is-none None h = refl
is-none (Some x) h = absurd (true≢false (sym h))

-- a cut that leaves something
abbrev is_cut : YearCut → Bool
is_cut YearCut.Whole = false
is_cut _ = true

dash-by : (b : BlockDelimiter) (d : Delimiter) → is_dash (delimiter_of b d) ≡ dashes d
dash-by b Delimiter.Dash = refl
dash-by b Delimiter.YearSuffix = refl
dash-by b Delimiter.AfterCollapse = refl
dash-by BlockDelimiter.Layout Delimiter.Usual = refl
dash-by BlockDelimiter.Group Delimiter.Usual = refl
dash-by BlockDelimiter.AfterCollapse Delimiter.Usual = refl

whole-unless : (c : YearCut) → is_cut c ≡ false → c ≡ YearCut.Whole
whole-unless YearCut.Whole h = refl
whole-unless YearCut.WithoutNames h = absurd (true≢false h)
whole-unless YearCut.Suffix h = absurd (true≢false h)

-- a cite that is cut has lost its names, or reads on
cut-by : (lost reads : Bool) → is_cut (cut_of lost reads) ≡ true → (lost ≡ true) ⊎ (reads ≡ true)
cut-by lost true h = inr refl
cut-by true false h = inl refl
cut-by false false h = absurd (true≢false (sym h))

without-names : (lost reads : Bool) → cut_of lost reads ≡ YearCut.WithoutNames → lost ≡ true
without-names lost true h = absurd (true≢false (ap only_suffix h))
  where
    only_suffix : YearCut → Bool
    only_suffix YearCut.Suffix = true
    only_suffix _ = false
without-names true false h = refl
without-names false false h = absurd (true≢false (sym (ap is_cut h)))

module _ {L : Type 0} (style : CiteStyle) (numbers : List ℕ) (cites : List (PositionedCite L)) where
  -- cites that may be in a range of numbers
  bare-one : (c : PositionedCite L) → is_some (range_number numbers c.cite) ≡ true → ShowsBareNumber c
  bare-one c = by (fits_range c.cite) refl
    where
      by : (b : Bool) → fits_range c.cite ≡ b → is_some (if b then slice_get numbers c.cite.entry else None) ≡ true → ShowsBareNumber c
      by false e h = absurd (true≢false (sym h))
      by true e h =
          let f = four c.cite.shown.has_number (not c.cite.hidden) (is_none c.cite.locator) (is_none c.cite.apart) e in
          record { has_number = f.0; is_shown = not-true _ f.1; no_locator = is-none c.cite.locator f.2; no_words = is-none c.cite.apart f.3 }

  pub bare-both : (collapse : Option Collapse) → collapse ≡ Some Collapse.CitationNumber → (k : ℕ) (c d : PositionedCite L) → counts_on cites numbers collapse k ≡ true
      → slice_get cites k ≡ Some c → slice_get cites (suc k) ≡ Some d → ShowsBareNumber c × ShowsBareNumber d
  bare-both None e k c d h hc hd = absurd (true≢false (sym h))
  bare-both (Some Collapse.Year) e k c d h hc hd = absurd (true≢false (sym h))
  bare-both (Some Collapse.YearSuffix) e k c d h hc hd = absurd (true≢false (sym h))
  bare-both (Some Collapse.YearSuffixRanged) e k c d h hc hd = absurd (true≢false (ap is_ranged e))
    where
      is_ranged : Option Collapse → Bool
      is_ranged (Some Collapse.YearSuffixRanged) = true
      is_ranged _ = false
  bare-both (Some Collapse.CitationNumber) e k c d h hc hd =
      let links : rises (numbered_cite numbers c) (numbered_cite numbers d) ≡ true =
      (λ i. both rises (sym (mapped (numbered_cite numbers) cites k c hc) i) (sym (mapped (numbered_cite numbers) cites (suc k) d hd) i)) ∙ h in
      let both_show = rises-sound (numbered_cite numbers c) (numbered_cite numbers d) links in
      (bare-one c both_show.0, bare-one d both_show.1)

  -- a cite that reads like the one before it shows its names
  names-of-shown : (c : RequestedCite L) (n : ℕ) → c.hidden ≡ false → c.shown.names ≡ Some n → names_shown c ≡ Some n
  names-of-shown c n shows e = ap (λ b. if b then None else c.shown.names) shows ∙ e

  shown-of-names : (c : RequestedCite L) (n : ℕ) → names_shown c ≡ Some n → c.shown.names ≡ Some n
  shown-of-names c n = by c.hidden
    where
      by : (b : Bool) → (if b then None else c.shown.names) ≡ Some n → c.shown.names ≡ Some n
      by true e = absurd (none-some n e)
      by false e = e

  same-names : (o p : Option ℕ) (n : ℕ) → option_eq nat_eq o p ≡ true → p ≡ Some n → o ≡ Some n
  same-names None None n h e = e
  same-names None (Some m) n h e = absurd (true≢false (sym h))
  same-names (Some m) None n h e = absurd (none-some n e)
  same-names (Some m) (Some p) n h e = ap Some (eqb-true m p h) ∙ e

  alike-names : (b c : PositionedCite L) (n : ℕ) → joins (suffixed_cite b) (suffixed_cite c) ≡ true → names_shown c.cite ≡ Some n → names_shown b.cite ≡ Some n
  alike-names b c n h shows =
      let x = suffixed_cite b in
      let y = suffixed_cite c in
      let fit : fits x ≡ true = (joins-sound x y h).0 in
      let alike : is_alike x y ≡ true = (and_parts (fits x && fits y && is_none y.apart) (is_alike x y) h).1 in
      let names : option_eq nat_eq x.names y.names ≡ true = (and_parts _ (option_eq nat_eq x.names y.names) alike).1 in
      names-of-shown b.cite n (not-true _ (second x.has_date (not x.hidden) (not x.has_locator) (is_some x.text) (is_some x.suffix) (not (is_alone x.apart)) fit))
      (same-names b.cite.shown.names c.cite.shown.names n names (shown-of-names c.cite n shows))
    where
      second : (a b c d e f : Bool) → a && b && c && d && e && f ≡ true → b ≡ true
      second false b c d e f h = absurd (true≢false (sym h))
      second true false c d e f h = absurd (true≢false (sym h))
      second true true c d e f h = refl

  reads-joins : (collapse : Option Collapse) (k : ℕ) → reads_on cites collapse k ≡ true → both joins (slice_get (map suffixed_cite cites) k) (slice_get (map suffixed_cite cites) (suc k)) ≡ true
  reads-joins None k h = absurd (true≢false (sym h))
  reads-joins (Some Collapse.CitationNumber) k h = absurd (true≢false (sym h))
  reads-joins (Some Collapse.Year) k h = absurd (true≢false (sym h))
  reads-joins (Some Collapse.YearSuffix) k h = h
  reads-joins (Some Collapse.YearSuffixRanged) k h = h

  shows-at : (k : ℕ) (c : PositionedCite L) → slice_get cites k ≡ Some c → shown_at (shown cites) k ≡ names_shown c.cite
  shows-at k c h = ap (option_and_then (λ s. s.names)) (mapped shown_cite cites k c h)

  module _ (collapse : Option Collapse) where
    abbrev pub ways : List ArrangedCite
    ways = arranged_by_years cites (years_with_ranges (block_years style collapse cites) (cite_ranges collapse numbers cites))

    -- the way of the cite at a place
    module _ (k : ℕ) (c : PositionedCite L) (here : slice_get cites k ≡ Some c) where
      abbrev by_blocks : IsBlocked cites style collapse k c
      by_blocks = blocked cites style collapse k c here

      abbrev by_ranges : IsRanged numbers cites collapse k c
      by_ranges = ranged numbers cites collapse k c here

      abbrev way : ArrangedCite
      way = arranged_cite c (collapsed by_blocks.year by_ranges.range)

      way-there : slice_get ways k ≡ Some way
      way-there =
          let years = years_with_ranges (block_years style collapse cites) (cite_ranges collapse numbers cites) in
          let year = mapped (λ p. collapsed p.0 p.1) (zip (block_years style collapse cites) (cite_ranges collapse numbers cites)) k (by_blocks.year, by_ranges.range)
          (zipped (block_years style collapse cites) (cite_ranges collapse numbers cites) k by_blocks.year by_ranges.range by_blocks.there by_ranges.there) in
          mapped (λ p. arranged_cite p.0 p.1) (zip cites years) k (c, collapsed by_blocks.year by_ranges.range) (zipped cites years k c (collapsed by_blocks.year by_ranges.range) here year)

      pub is-way : (w : ArrangedCite) → slice_get ways k ≡ Some w → way ≡ w
      is-way w h = same_Some way w (sym way-there ∙ h)

    inner-before : (k : ℕ) (c : PositionedCite L) → slice_get cites k ≡ Some c → holds_before (inner_by numbers cites collapse) k ≡ holds_before (is_inner_at cites numbers collapse ways) k
    inner-before zero c h = refl
    inner-before (suc k) c h =
        let b = there-before cites k c h in
        sym (by_ranges k b.0 b.1).inner ∙ sym (ap (λ o. option_map_or (λ (w : ArrangedCite). w.is_inner) o false) (way-there k b.0 b.1))

    arranged-way : (k : ℕ) (c : PositionedCite L) (h : slice_get cites k ≡ Some c) → IsArranged cites numbers collapse ways (part_at (shown cites) k) k c (way k c h)
    arranged-way k c h =
        let b = by_blocks k c h in
        let r = by_ranges k c h in
        record {
          place = refl;
          position = refl;
          cut = λ i. cut_of (b.cut i) (r.cut i);
          inside = r.inner;
          dash = dash-by b.year.delimiter r.range.delimiter ∙ r.dash ∙ (λ i. inner-before k c h i && not (sym r.inner i));
        }

    -- every cite whose way is there is there itself
    there : (k : ℕ) (w : ArrangedCite) → slice_get ways k ≡ Some w → (c : PositionedCite L) × (slice_get cites k ≡ Some c)
    there k w h = by (slice_get cites k) refl
      where
        by : (o : Option (PositionedCite L)) → slice_get cites k ≡ o → (c : PositionedCite L) × (slice_get cites k ≡ Some c)
        by (Some c) e = (c, e)
        by None e =
            let years = years_with_ranges (block_years style collapse cites) (cite_ranges collapse numbers cites) in
            absurd (none-some w (sym (zipped-none (λ p. arranged_cite p.0 p.1) cites years k e) ∙ h))

    names-there : (k n : ℕ) → shown_at (shown cites) k ≡ Some n → (c : PositionedCite L) × (slice_get cites k ≡ Some c)
    names-there k n h = by (slice_get cites k) refl
      where
        by : (o : Option (PositionedCite L)) → slice_get cites k ≡ o → (c : PositionedCite L) × (slice_get cites k ≡ Some c)
        by (Some c) e = (c, e)
        by None e = absurd (none-some n (sym (ap (option_and_then (λ s. s.names)) (nothing shown_cite cites k e)) ∙ h))

    abbrev cut_here : ℕ → Bool
    cut_here k = option_map_or (λ w. is_cut w.cut) (slice_get ways k) false

    cut-is : (k : ℕ) (c : PositionedCite L) → slice_get cites k ≡ Some c → cut_here k ≡ is_cut (cut_of (loses_names cites (collapses_years collapse) k c) (holds_before (reads_on cites collapse) k))
    cut-is k c h = ap (λ o. option_map_or (λ (w : ArrangedCite). is_cut w.cut) o false) (way-there k c h) ∙ ap is_cut (arranged-way k c h).cut

    follows : (k n : ℕ) → cut_here k ≡ true → shown_at (shown cites) k ≡ Some n → Follows (shown cites) cut_here n k
    follows zero n h shows =
        let c = names-there zero n shows in
        elim (cut-by (loses_names cites (collapses_years collapse) zero c.0) false (sym (cut-is zero c.0 c.1) ∙ h)) [
          | inl lost ↦ true≢false (sym (lost-first (collapses_years collapse) (is_some (names_shown c.0.cite) && c.0.cite.shown.has_date) lost))
          | inr reads ↦ true≢false (sym reads)
        ]
      where
        lost-first : (a b : Bool) → a && false && b ≡ true → false ≡ true
        lost-first true b h = h
        lost-first false b h = h
    follows (suc k) n h shows =
        let c = names-there (suc k) n shows in
        let b = there-before cites k c.0 c.1 in
        elim (cut-by (loses_names cites (collapses_years collapse) (suc k) c.0) (reads_on cites collapse k) (sym (cut-is (suc k) c.0 c.1) ∙ h)) [
          | inl lost ↦ inl (follows-joins (shown cites) k (follows-is (shown cites) k
              ∙ middle (collapses_years collapse) (nat_lt (part_at (shown cites) (suc k)) (suc k)) (is_some (names_shown c.0.cite) && c.0.cite.shown.has_date) lost))
          | inr reads ↦ inr (shows-at k b.0 b.1 ∙ alike-names b.0 c.0 n (joined k b.0 c.0 b.1 c.1 reads) (sym (shows-at (suc k) c.0 c.1) ∙ shows))
        ]
      where
        middle : (a b c : Bool) → a && b && c ≡ true → b ≡ true
        middle true true c h = refl
        middle true false c h = absurd (true≢false (sym h))
        middle false b c h = absurd (true≢false (sym h))

        joined : (k : ℕ) (b c : PositionedCite L) → slice_get cites k ≡ Some b → slice_get cites (suc k) ≡ Some c → reads_on cites collapse k ≡ true → joins (suffixed_cite b) (suffixed_cite c) ≡ true
        joined k b c hb hc reads =
            (λ i. both joins (sym (mapped suffixed_cite cites k b hb) i) (sym (mapped suffixed_cite cites (suc k) c hc) i)) ∙ reads-joins collapse k reads

    names-before : (k : ℕ) → cut_at cites numbers collapse ways k ≡ Some YearCut.WithoutNames → NamesStandBefore (shown_at (shown cites)) (λ j. cut_at cites numbers collapse ways j ≡ Some YearCut.Whole) k
    names-before k h = by (slice_get ways k) refl h
      where
        whole-of : (j : ℕ) (c : PositionedCite L) → slice_get cites j ≡ Some c → cut_here j ≡ false → cut_at cites numbers collapse ways j ≡ Some YearCut.Whole
        whole-of j c hc e =
            ap (option_map (λ (w : ArrangedCite). w.cut)) (way-there j c hc)
            ∙ ap Some (whole-unless (way j c hc).cut (sym (ap (λ o. option_map_or (λ (w : ArrangedCite). is_cut w.cut) o false) (way-there j c hc)) ∙ e))

        of-whole : (j : ℕ) → cut_at cites numbers collapse ways j ≡ Some YearCut.Whole → cut_here j ≡ false
        of-whole j e = at (slice_get ways j) e
          where
            at : (o : Option ArrangedCite) → option_map (λ w. w.cut) o ≡ Some YearCut.Whole → option_map_or (λ w. is_cut w.cut) o false ≡ false
            at None e = refl
            at (Some w) e = ap is_cut (same_Some w.cut YearCut.Whole e)

        by : (o : Option ArrangedCite) → slice_get ways k ≡ o → option_map (λ w. w.cut) o ≡ Some YearCut.WithoutNames
            → NamesStandBefore (shown_at (shown cites)) (λ j. cut_at cites numbers collapse ways j ≡ Some YearCut.Whole) k
        by None e is = absurd (none-some YearCut.WithoutNames is)
        by (Some w) e is =
            let c = there k w e in
            let way_is = is-way k c.0 c.1 w e in
            let cut_is : cut_of (loses_names cites (collapses_years collapse) k c.0) (holds_before (reads_on cites collapse) k) ≡ YearCut.WithoutNames =
            sym (arranged-way k c.0 c.1).cut ∙ ap (λ (v : ArrangedCite). v.cut) way_is ∙ same_Some w.cut YearCut.WithoutNames is in
            let lost = without-names (loses_names cites (collapses_years collapse) k c.0) (holds_before (reads_on cites collapse) k) cut_is in
            let named = some-there (names_shown c.0.cite) (names-in (collapses_years collapse && nat_lt (part_at (shown cites) k) k) (is_some (names_shown c.0.cite)) c.0.cite.shown.has_date lost) in
            let cut_now : cut_here k ≡ true = cut-is k c.0 c.1 ∙ ap is_cut cut_is in
            let s = stands-before (shown cites) cut_here follows k named.0 cut_now (shows-at k c.0 c.1 ∙ named.1) in
            let l = names-there s.last s.names s.same in
            record {
              names = s.names;
              has_names = s.has_names;
              last = s.last;
              before = s.before;
              whole = whole-of s.last l.0 l.1 s.whole;
              same = s.same;
              none_between = λ j u v e. s.none_between j u v (of-whole j e);
            }
          where
            names-in : (a b c : Bool) → a && (b && c) ≡ true → b ≡ true
            names-in a b c h = (and_parts b c (and_parts a (b && c) h).1).0

            some-there : (o : Option ℕ) → is_some o ≡ true → (n : ℕ) × (o ≡ Some n)
            some-there None h = absurd (true≢false (sym h))
            some-there (Some n) h = (n, refl)

    uncollapsed-way : collapse ≡ None → (k : ℕ) (w : ArrangedCite) → slice_get ways k ≡ Some w → IsUncollapsed w
    uncollapsed-way none k w h =
        let c = there k w h in
        let b = by_blocks k c.0 c.1 in
        let r = by_ranges k c.0 c.1 in
        let p = part_at (shown cites) k in
        subst IsUncollapsed ((λ i. arranged_cite c.0 (collapsed (sym (b.plain (ap collapses_years none)) i) (sym (r.none none) i))) ∙ is-way k c.0 c.1 w h)
        (record { is_shown = refl; is_whole = refl; delimiter = by (nat_eq k p) })
      where
        by : (b : Bool) → (delimiter_of (if b then BlockDelimiter.Layout else BlockDelimiter.Group) Delimiter.Usual ≡ YearDelimiter.Layout)
            ⊎ (delimiter_of (if b then BlockDelimiter.Layout else BlockDelimiter.Group) Delimiter.Usual ≡ YearDelimiter.Group)
        by true = inl refl
        by false = inr refl

    pub are-arranged : length ways ≡ length cites → AreArranged cites numbers collapse ways
    are-arranged long = record {
      as_many = long;
      parts = has-parts (shown cites);
      each = λ k c w hc hw. subst (IsArranged cites numbers collapse ways (part_at (shown cites) k) k c) (is-way k c hc w hw) (arranged-way k c hc);
      cut_names_stand_before = names-before;
      uncollapsed = uncollapsed-way;
      bare_numbers = bare-both collapse;
    }
