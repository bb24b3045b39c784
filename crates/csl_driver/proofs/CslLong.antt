-- As many cites are arranged as each request has.
use Rattle.std.proofs.Common.{◌≡◌, ℕ, ◌+◌, Bool, true, false, Option, Some, None, List, [], ◌∷◌, length, map, refl, ◌∙◌, arith}
use Rattle.std.specs.Prelude.{if◌then◌else◌, zip}
use Rattle.std.specs.List.{AllZip, enumerate_from, range_with_len}
use Rattle.std.proofs.Math.ListN.{length-map}
use Rattle.std.proofs.lemmas.List.FromFn.{length-enumerate_from, length-range_with_len}
use Rattle.std.proofs.lemmas.Slice.Zip.{length-zip}
use Rattle.mentions_arranging.specs.Arranged.{arranged_cites, arranged_request}
use Rattle.mentions_arranging.specs.Collapsing.{block_cite, block_cites, block_years, cite_ranges, collapse_of, collapsed_cites, numbered_cite, part_places, shown_cite, suffixed_cite, unranged, whole_in_part, year_collapse}
use Rattle.mentions_arranging.specs.Order.{collapses_years}
use Rattle.mentions_arranging.specs.Positioned.{positioned_cites}
use Rattle.mentions_arranging.specs.Repeating.{repeating_cite, repeating_request}
use Rattle.mentions_arranging.specs.Requests.{Request as Arranged}
use Rattle.mentions_arranging.specs.declared.positioned.PositionedCite.{PositionedCite}
use Rattle.mentions_arranging.specs.declared.request.CiteStyle.{CiteStyle}
use Rattle.mentions_arranging.specs.declared.request.FinalCite.{FinalCite}
use Rattle.mentions_arranging.specs.declared.request.RequestFacts.{RequestFacts}
use Rattle.mentions_blocks.specs.Parts.{part_at}
use Rattle.mentions_blocks.specs.Years.{years}
use Rattle.csl_driver.proofs.CslTold.{AreAsLong}
use Rattle.mentions_notes.specs.Repeats.{before_at, positions_behind, repeatable}
use Rattle.mentions_notes.specs.Requests.{Request as Repeating}
use Rattle.mentions_notes.specs.declared.repeats.Position.{Position}
use Rattle.mentions_ranges.specs.SuffixStretches.{in_stretch, suffix_stretches}
use Rattle.value_styles.specs.declared.style.Collapse.{Collapse}
use Rattle.std.specs.Option.{option_and_then}

pub both-long : {A B : Type 0} (xs : List A) (ys : List B) (n : ℕ) → length xs ≡ n → length ys ≡ n → length (zip xs ys) ≡ n
both-long xs ys n h k = let both = length-zip xs ys in omega (arith, h, k, both)

numbered-long : {A B : Type 0} (f : ℕ × A → B) (xs : List A) (n : ℕ) → length xs ≡ n → length (map f (enumerate_from 0 xs)) ≡ n
numbered-long f xs n h = length-map (enumerate_from 0 xs) f ∙ length-enumerate_from 0 xs ∙ h

module _ {L : Type 0} (cites : List (PositionedCite L)) (n : ℕ) (long : length cites ≡ n) where
  mapped-long : {B : Type 0} (f : PositionedCite L → B) → length (map f cites) ≡ n
  mapped-long f = length-map cites f ∙ long

  parts-long : length (part_places cites) ≡ n
  parts-long =
      let shown = map shown_cite cites in
      length-map (range_with_len 0 (length shown)) (part_at shown) ∙ length-range_with_len 0 (length shown) ∙ mapped-long shown_cite

  pub blocks-long : (style : CiteStyle) (collapse : Option Collapse) → length (block_years style collapse cites) ≡ n
  blocks-long style collapse = by (collapses_years collapse)
    where
      by : (b : Bool) → length (if b then years (block_cites cites) (year_collapse style collapse) else map whole_in_part (enumerate_from 0 (part_places cites))) ≡ n
      by true = numbered-long _ (block_cites cites) n (length-map (zip (part_places cites) cites) block_cite ∙ both-long (part_places cites) cites n parts-long long)
      by false = numbered-long whole_in_part (part_places cites) n parts-long

  stretches-long : (ranges : Bool) → length (suffix_stretches ranges (map suffixed_cite cites)) ≡ n
  stretches-long ranges =
      let all = map suffixed_cite cites in
      length-map (range_with_len 0 (length all)) (in_stretch ranges all) ∙ length-range_with_len 0 (length all) ∙ mapped-long suffixed_cite

  pub ranges-long : (collapse : Option Collapse) (numbers : List ℕ) → length (cite_ranges collapse numbers cites) ≡ n
  ranges-long None numbers = mapped-long (λ c. unranged)
  ranges-long (Some Collapse.CitationNumber) numbers = numbered-long _ (map (numbered_cite numbers) cites) n (mapped-long (numbered_cite numbers))
  ranges-long (Some Collapse.Year) numbers = mapped-long (λ c. unranged)
  ranges-long (Some Collapse.YearSuffix) numbers = stretches-long false
  ranges-long (Some Collapse.YearSuffixRanged) numbers = stretches-long true

  collapsed-long : (facts : RequestFacts) (numbers : List ℕ) → length (collapsed_cites facts numbers cites) ≡ n
  collapsed-long facts numbers =
      let by_blocks = block_years facts.style (collapse_of facts) cites in
      let by_ranges = cite_ranges (collapse_of facts) numbers cites in
      length-map (zip by_blocks by_ranges) _ ∙ both-long by_blocks by_ranges n (blocks-long facts.style (collapse_of facts)) (ranges-long (collapse_of facts) numbers)

module _ {L : Type 0} (numbers : List ℕ) where
  request-long : (f : Arranged (FinalCite L)) (ps : List Position) → length ps ≡ length f.cites → length (arranged_request numbers f ps) ≡ length f.cites
  request-long f ps h =
      let cites = positioned_cites f.cites ps in
      let long : length cites ≡ length f.cites = length-map (zip f.cites ps) _ ∙ both-long f.cites ps (length f.cites) refl h in
      length-map (zip cites (collapsed_cites f.facts numbers cites)) _ ∙ both-long cites (collapsed_cites f.facts numbers cites) (length f.cites) long (collapsed-long cites (length f.cites) long f.facts numbers)

  all-long : (fs : List (Arranged (FinalCite L))) (ps : List (List Position)) → AllZip (λ f p. length p ≡ length f.cites) fs ps → AreAsLong fs (map (λ p. arranged_request numbers p.0 p.1) (zip fs ps))
  all-long [] [] h = tt
  all-long [] (p ∷ ps) h = absurd h
  all-long (f ∷ fs) [] h = absurd h
  all-long (f ∷ fs) (p ∷ ps) h = (request-long f p h.0, all-long fs ps h.1)

  module _ (eq : L → L → Bool) where
    pub positions-long : (all : List (Repeating L)) (k : ℕ) (fs : List (Arranged (FinalCite L)))
        → AllZip (λ f p. length p ≡ length f.cites) fs
        (map (λ p. positions_behind eq (option_and_then (repeatable all p.1.note) (before_at all p.0)) p.1.cites) (enumerate_from k (map repeating_request fs)))
    positions-long all k [] = tt
    positions-long all k (f ∷ fs) =
        (numbered-long _ (map repeating_cite f.cites) (length f.cites) (length-map f.cites repeating_cite), positions-long all (k + 1) fs)

    pub arranged-long : (fs : List (Arranged (FinalCite L))) → AreAsLong fs (arranged_cites eq numbers fs)
    arranged-long fs = all-long fs _ (positions-long (map repeating_request fs) 0 fs)
