-- What ranges and stretches say of the cite at a place.
use Rattle.std.proofs.Common.{◌≡◌, ℕ, zero, suc, Bool, true, false, not, ◌&&◌, Option, Some, None, List, map, refl, ap, sym, ◌∙◌}
use Rattle.std.specs.Prelude.{if◌then◌else◌, option_map, slice_get}
use Rattle.std.proofs.lemmas.Option.{none-some}
use Rattle.value_styles.specs.declared.style.Collapse.{Collapse}
use Rattle.mentions_ranges.proofs.Placed.{at-number, at-place}
use Rattle.mentions_ranges.specs.NumberRanges.{follows_range, in_range, rises, shows_number}
use Rattle.mentions_ranges.specs.Stretches.{ends_long, is_inner, is_later}
use Rattle.mentions_ranges.specs.SuffixStretches.{fits, in_stretch, joins, suffixes_rise}
use Rattle.mentions_ranges.specs.declared.collapsed.CollapsedCite.{CollapsedCite}
use Rattle.mentions_ranges.specs.declared.collapsed.Delimiter.{Delimiter}
use Rattle.mentions_ranges.proofs.Following.{rises-sound}
use Rattle.mentions_ranges.proofs.Linked.{IsSound, came_here, ends, goes_on, inner, later}
use Rattle.mentions_ranges.proofs.Suffixed.{joins-sound, rise-sound}
use Rattle.mentions_arranging.specs.Collapsing.{cite_ranges, numbered_cite, suffixed_cite, unranged}
use Rattle.mentions_arranging.specs.declared.positioned.PositionedCite.{PositionedCite}
use Rattle.mentions_laws.specs.Arranged.{counts_on, holds_before, reads_on}
use Rattle.mentions_laws.proofs.Places.{and-false, dash-there, mapped}

-- a range ends here
abbrev pub dashes : Delimiter → Bool
dashes Delimiter.Dash = true
dashes _ = false

module _ {X : Type 0} (fits : X → Bool) (link : X → X → Bool) (xs : List X) (sound : IsSound fits link) where
  came : (k : ℕ) → came_here fits link xs k ≡ holds_before (goes_on fits link xs) k
  came zero = refl
  came (suc k) = refl

  pub inside : (k : ℕ) → is_inner fits link xs k ≡ holds_before (goes_on fits link xs) k && goes_on fits link xs k
  inside k = inner fits link xs sound k ∙ ap (λ b. b && goes_on fits link xs k) (came k)

  pub reads : (k : ℕ) → is_later fits link xs k ≡ holds_before (goes_on fits link xs) k
  reads k = later fits link xs sound k ∙ came k

  -- the cite at k is inside a range
  abbrev pub within : ℕ → Bool
  within k = holds_before (goes_on fits link xs) k && goes_on fits link xs k

  pub long : (k : ℕ) → ends_long fits link xs k ≡ holds_before within k && not (within k)
  long zero = ends fits link xs sound zero
  long (suc k) =
      ends fits link xs sound (suc k) ∙ ap (λ b. b && goes_on fits link xs k && not (goes_on fits link xs (suc k))) (came k)
      ∙ dash-there (holds_before (goes_on fits link xs) k) (goes_on fits link xs k) (goes_on fits link xs (suc k))

module _ {L : Type 0} (numbers : List ℕ) (cites : List (PositionedCite L)) where
  abbrev pub counts : Option Collapse → ℕ → Bool
  counts = counts_on cites numbers

  abbrev pub reading : Option Collapse → ℕ → Bool
  reading = reads_on cites

  abbrev pub inner_by : Option Collapse → ℕ → Bool
  inner_by collapse k = holds_before (counts collapse) k && counts collapse k

  pub record IsRanged (collapse : Option Collapse) (k : ℕ) (c : PositionedCite L) : Type 0 where
    pub range : CollapsedCite
    pub there : slice_get (cite_ranges collapse numbers cites) k ≡ Some range
    pub cut : range.is_cut ≡ holds_before (reading collapse) k
    pub inner : range.is_inner ≡ inner_by collapse k
    pub dash : dashes range.delimiter ≡ holds_before (inner_by collapse) k && not (inner_by collapse k)
    pub none : collapse ≡ None → range ≡ unranged

  some-none : {X : Type 0} {x : X} → Some x ≡ None → ⊥
  some-none e = none-some _ (sym e)

  never : (k : ℕ) → false ≡ holds_before (λ j. false) k
  never zero = refl
  never (suc k) = refl

  never-inner : (k : ℕ) → false ≡ holds_before (λ j. false) k && false
  never-inner k = sym (and-false (holds_before (λ j. false) k))

  inner-never : (k : ℕ) → false ≡ holds_before (λ j. holds_before (λ i. false) j && false) k && not (holds_before (λ i. false) k && false)
  inner-never zero = refl
  inner-never (suc k) = ap (λ b. b && not false) (never-inner k)

  plain : (collapse : Option Collapse) (k : ℕ) (c : PositionedCite L) → slice_get cites k ≡ Some c → slice_get (map (λ (c : PositionedCite L). unranged) cites) k ≡ Some unranged
  plain collapse k c h = mapped (λ (c : PositionedCite L). unranged) cites k c h

  dash-of : (b s : Bool) (d : Delimiter) → dashes d ≡ false → dashes (if b then Delimiter.Dash else d) ≡ b
  dash-of true s d h = refl
  dash-of false s d h = h

  usual : (b : Bool) (d : Delimiter) → dashes d ≡ false → dashes (if b then d else Delimiter.Usual) ≡ false
  usual true d h = h
  usual false d h = refl

  pub ranged : (collapse : Option Collapse) (k : ℕ) (c : PositionedCite L) → slice_get cites k ≡ Some c → IsRanged collapse k c
  ranged None k c h = record { range = unranged; there = plain None k c h; cut = never k; inner = never-inner k; dash = inner-never k; none = λ e. refl }
  ranged (Some Collapse.CitationNumber) k c h =
      let xs = map (numbered_cite numbers) cites in
      record {
        range = in_range xs k (numbered_cite numbers c);
        there = at-place (λ p. in_range xs p.0 p.1) xs k ∙ ap (option_map (λ x. in_range xs k x)) (mapped (numbered_cite numbers) cites k c h);
        cut = never k;
        inner = inside shows_number rises xs rises-sound k;
        dash = dash-of (ends_long shows_number rises xs k) true _ (usual (follows_range xs k && not c.cite.hidden) Delimiter.AfterCollapse refl) ∙ long shows_number rises xs rises-sound k;
        none = λ e. absurd (some-none e);
      }
  ranged (Some Collapse.Year) k c h =
      record { range = unranged; there = plain (Some Collapse.Year) k c h; cut = never k; inner = never-inner k; dash = inner-never k; none = λ e. refl }
  ranged (Some Collapse.YearSuffix) k c h =
      let xs = map suffixed_cite cites in
      record {
        range = in_stretch false xs k;
        there = at-number (in_stretch false xs) xs k ∙ ap (option_map (λ x. in_stretch false xs k)) (mapped suffixed_cite cites k c h);
        cut = reads fits joins xs joins-sound k;
        inner = never-inner k;
        dash = usual (is_later fits joins xs k) Delimiter.YearSuffix refl ∙ inner-never k;
        none = λ e. absurd (some-none e);
      }
  ranged (Some Collapse.YearSuffixRanged) k c h =
      let xs = map suffixed_cite cites in
      record {
        range = in_stretch true xs k;
        there = at-number (in_stretch true xs) xs k ∙ ap (option_map (λ x. in_stretch true xs k)) (mapped suffixed_cite cites k c h);
        cut = reads fits joins xs joins-sound k;
        inner = inside fits suffixes_rise xs rise-sound k;
        dash = dash-of (ends_long fits suffixes_rise xs k) true _ (usual (is_later fits joins xs k) Delimiter.YearSuffix refl) ∙ long fits suffixes_rise xs rise-sound k;
        none = λ e. absurd (some-none e);
      }
