-- What blocks say of the cite at a place.
use Rattle.std.proofs.Common.{◌≡◌, ℕ, zero, suc, Bool, true, false, ◌&&◌, Option, Some, List, map, refl, ap, sym, ◌∙◌, true≢false}
use Rattle.std.specs.Prelude.{if◌then◌else◌, is_some, nat_lt, option_map, slice_get, zip}
use Rattle.std.specs.List.{enumerate_from}
use Rattle.value_styles.specs.declared.style.Collapse.{Collapse}
use Rattle.mentions_ranges.proofs.Placed.{at-number, at-place}
use Rattle.mentions_ranges.specs.Stretches.{both}
use Rattle.mentions_blocks.specs.Parts.{part_at}
use Rattle.mentions_blocks.specs.Years.{follows, in_one_part, year_of, years}
use Rattle.mentions_blocks.specs.declared.parts.ShownCite.{ShownCite}
use Rattle.mentions_blocks.specs.declared.years.BlockYear.{BlockYear}
use Rattle.mentions_blocks.specs.declared.years.YearCollapse.{YearCollapse}
use Rattle.mentions_arranging.specs.Collapsing.{block_cite, block_cites, block_years, names_shown, part_places, shown_cite, whole_in_part, year_collapse}
use Rattle.mentions_arranging.specs.Order.{collapses_years}
use Rattle.mentions_arranging.specs.declared.positioned.PositionedCite.{PositionedCite}
use Rattle.mentions_arranging.specs.declared.request.CiteStyle.{CiteStyle}
use Rattle.mentions_laws.proofs.Parting.{follows-is}
use Rattle.mentions_laws.proofs.Places.{mapped, there-before, zipped}

module _ {L : Type 0} (cites : List (PositionedCite L)) where
  abbrev pub shown : List ShownCite
  shown = map shown_cite cites

  part-there : (k : ℕ) (c : PositionedCite L) → slice_get cites k ≡ Some c → slice_get (part_places cites) k ≡ Some (part_at shown k)
  part-there k c h = at-number (part_at shown) shown k ∙ ap (option_map (λ x. part_at shown k)) (mapped shown_cite cites k c h)

  block-there : (k : ℕ) (c : PositionedCite L) → slice_get cites k ≡ Some c → slice_get (block_cites cites) k ≡ Some (block_cite (part_at shown k, c))
  block-there k c h = mapped block_cite (zip (part_places cites) cites) k (part_at shown k, c) (zipped (part_places cites) cites k (part_at shown k) c (part-there k c h) h)

  -- a cite follows another one of its part where it isn't the first
  pub follows-there : (k : ℕ) (c : PositionedCite L) → slice_get cites k ≡ Some c → follows (block_cites cites) k ≡ nat_lt (part_at shown k) k
  follows-there zero c h = refl
  follows-there (suc k) c h =
      let b = there-before cites k c h in
      (λ i. both in_one_part (block-there k b.0 b.1 i) (block-there (suc k) c h i)) ∙ follows-is shown k

  -- it has no names where years collapse and it isn't the first of its part, if it shows names and a date
  abbrev pub loses_names : Bool → ℕ → PositionedCite L → Bool
  loses_names by_years k c = by_years && nat_lt (part_at shown k) k && (is_some (names_shown c.cite) && c.cite.shown.has_date)

  pub record IsBlocked (style : CiteStyle) (collapse : Option Collapse) (k : ℕ) (c : PositionedCite L) : Type 0 where
    pub year : BlockYear
    pub there : slice_get (block_years style collapse cites) k ≡ Some year
    pub cut : year.is_cut ≡ loses_names (collapses_years collapse) k c
    pub plain : collapses_years collapse ≡ false → year ≡ whole_in_part (k, part_at shown k)

  pub blocked : (style : CiteStyle) (collapse : Option Collapse) (k : ℕ) (c : PositionedCite L) → slice_get cites k ≡ Some c → IsBlocked style collapse k c
  blocked style collapse k c h = by (collapses_years collapse) refl
    where
      how : YearCollapse
      how = year_collapse style collapse

      by : (b : Bool) → collapses_years collapse ≡ b → IsBlocked style collapse k c
      by true e = record {
        year = year_of (block_cites cites) how (k, block_cite (part_at shown k, c));
        there = ap (λ b. slice_get (if b then years (block_cites cites) how else map whole_in_part (enumerate_from 0 (part_places cites))) k) e
            ∙ at-place (year_of (block_cites cites) how) (block_cites cites) k ∙ ap (option_map (λ x. year_of (block_cites cites) how (k, x))) (block-there k c h);
        cut = (λ i. follows-there k c h i && (is_some (names_shown c.cite) && c.cite.shown.has_date)) ∙ ap (λ b. loses_names b k c) (sym e);
        plain = λ f. absurd (clash e f);
      }
        where
          clash : {b : Bool} → b ≡ true → b ≡ false → ⊥
          clash p q = true≢false (sym p ∙ q)
      by false e = record {
        year = whole_in_part (k, part_at shown k);
        there = ap (λ b. slice_get (if b then years (block_cites cites) how else map whole_in_part (enumerate_from 0 (part_places cites))) k) e
            ∙ at-place whole_in_part (part_places cites) k ∙ ap (option_map (λ x. whole_in_part (k, x))) (part-there k c h);
        cut = ap (λ b. loses_names b k c) (sym e);
        plain = λ f. refl;
      }
