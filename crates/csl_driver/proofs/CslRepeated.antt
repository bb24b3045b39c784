-- How cites are arranged depends on their locators only by which are the same, and by which cites have one.
use Rattle.std.proofs.Common.{◌≡◌, ℕ, zero, suc, ◌+◌, Bool, true, false, not, ◌||◌, ◌&&◌, List, [], ◌∷◌, Option, Some, None, length, map, refl, ap, sym, ◌∙◌}
use Rattle.std.specs.Prelude.{if◌then◌else◌, is_some, nat_eq, slice_get, zip}
use Rattle.std.specs.List.{enumerate_from, list_any}
use Rattle.std.specs.Option.{is_none, option_and_then, option_map, option_or}
use Rattle.std.proofs.Math.ListN.{length-map}
use Rattle.std.proofs.lemmas.Option.{slice_get-map}
use Rattle.mentions_arranging.specs.Arranged.{arranged_by_years, arranged_cite, arranged_cites, arranged_request}
use Rattle.mentions_arranging.specs.Collapsing.{block_cite, block_cites, block_years, cite_ranges, collapse_of, collapsed_cites, names_shown, numbered_cite, part_places, range_number, shown_cite, suffixed_cite, unranged, whole_in_part, year_collapse, years_with_ranges}
use Rattle.mentions_arranging.specs.Order.{collapses_years}
use Rattle.mentions_arranging.specs.Positioned.{positioned_cite, positioned_cites}
use Rattle.mentions_arranging.specs.Repeating.{all_repeated, cites_repeated, final_positions, first_repeated, firsts_repeated, handed_positions, handed_request, is_looked_at, placed_cite, repeated_at, repeated_where, repeating_cite, repeating_request}
use Rattle.mentions_arranging.specs.Requests.{Request as Arranged}
use Rattle.mentions_arranging.specs.declared.positioned.PositionedCite.{PositionedCite}
use Rattle.mentions_arranging.specs.declared.request.CiteStyle.{CiteStyle}
use Rattle.mentions_arranging.specs.declared.request.FinalCite.{FinalCite}
use Rattle.mentions_arranging.specs.declared.request.RequestFacts.{RequestFacts}
use Rattle.mentions_arranging.specs.declared.request.RequestedCite.{RequestedCite as PlainCite}
use Rattle.mentions_blocks.specs.Parts.{parts}
use Rattle.mentions_blocks.specs.Years.{years}
use Rattle.mentions_blocks.specs.declared.collapsed.CollapsedYear.{CollapsedYear}
use Rattle.mentions_notes.specs.Repeats.{before_at, cites_other, is_note, may_be_repeated, only_repeatable, position_behind, position_by, positions, positions_behind, repeatable}
use Rattle.mentions_notes.specs.Requests.{Request as Repeating}
use Rattle.mentions_notes.specs.declared.repeats.PlacedCite.{PlacedCite}
use Rattle.mentions_notes.specs.declared.repeats.Position.{Position}
use Rattle.mentions_ranges.specs.NumberRanges.{number_ranges}
use Rattle.mentions_ranges.specs.SuffixStretches.{suffix_stretches}
use Rattle.value_styles.specs.declared.style.Collapse.{Collapse}
use Rattle.csl_driver.proofs.CslLocated.{seen, seen_finally, seen_in_order, seen_request}

before-map : {X Y : Type 0} (g : X → Y) (xs : List X) (k : ℕ) → before_at (map g xs) k ≡ option_map g (before_at xs k)
before-map g xs zero = refl
before-map g xs (suc k) = slice_get-map g xs k

or-map : {X Y : Type 0} (g : X → Y) (a b : Option X) → option_or (option_map g a) (option_map g b) ≡ option_map g (option_or a b)
or-map g None b = refl
or-map g (Some x) b = refl

some-map : {X Y : Type 0} (g : X → Y) (o : Option X) → is_some (option_map g o) ≡ is_some o
some-map g None = refl
some-map g (Some x) = refl

none-map : {X Y : Type 0} (g : X → Y) (o : Option X) → is_none (option_map g o) ≡ is_none o
none-map g None = refl
none-map g (Some x) = refl

module _ {L M : Type 0} (f : L → M) where
  -- a cite with another locator, and a request of such, as they may repeat others
  abbrev seen_placed : PlacedCite L → PlacedCite M
  seen_placed c = record { entry = c.entry; locator = option_map f c.locator }

  abbrev seen_repeating : Repeating L → Repeating M
  seen_repeating r = record { note = r.note; cites = map seen_placed r.cites }

  -- which cites may be repeated
  others-row : (entry : ℕ) (cs : List (PlacedCite L)) → list_any (λ c. not (nat_eq entry c.entry)) (map seen_placed cs) ≡ list_any (λ c. not (nat_eq entry c.entry)) cs
  others-row entry [] = refl
  others-row entry (c ∷ cs) = ap (λ b. not (nat_eq entry c.entry) || b) (others-row entry cs)

  others-seen : (rs : List (Repeating L)) (number entry : ℕ) → cites_other (map seen_repeating rs) number entry ≡ cites_other rs number entry
  others-seen [] number entry = refl
  others-seen (r ∷ rs) number entry = λ i. (is_note number r.note && others-row entry r.cites i) || others-seen rs number entry i

  may-seen : (rs : List (Repeating L)) (from to : Option ℕ) (entry : ℕ) → may_be_repeated (cites_other (map seen_repeating rs)) from to entry ≡ may_be_repeated (cites_other rs) from to entry
  may-seen rs from to entry = λ i. may_be_repeated (λ n e. others-seen rs n e i) from to entry

  only-seen : (rs : List (Repeating L)) (from to : Option ℕ) (cs : List (PlacedCite L)) → only_repeatable (map seen_repeating rs) from to (map seen_placed cs) ≡ option_map seen_placed (only_repeatable rs from to cs)
  only-seen rs from to [] = refl
  only-seen rs from to (c ∷ []) = ap (λ b. if b then Some (seen_placed c) else None) (may-seen rs from to c.entry) ∙ by (may_be_repeated (cites_other rs) from to c.entry)
    where
      by : (b : Bool) → (if b then Some (seen_placed c) else None) ≡ option_map seen_placed (if b then Some c else None)
      by true = refl
      by false = refl
  only-seen rs from to (c ∷ (d ∷ cs)) = refl

  before-seen : (rs : List (Repeating L)) (note : Option ℕ) (k : ℕ)
      → option_and_then (repeatable (map seen_repeating rs) note) (before_at (map seen_repeating rs) k) ≡ option_map seen_placed (option_and_then (repeatable rs note) (before_at rs k))
  before-seen rs note k = ap (option_and_then (repeatable (map seen_repeating rs) note)) (before-map seen_repeating rs k) ∙ by (before_at rs k)
    where
      by : (o : Option (Repeating L)) → option_and_then (repeatable (map seen_repeating rs) note) (option_map seen_repeating o) ≡ option_map seen_placed (option_and_then (repeatable rs note) o)
      by None = refl
      by (Some r) = only-seen rs r.note note r.cites

  repeating-row : (cs : List (FinalCite L)) → map repeating_cite (map (seen_finally f) cs) ≡ map seen_placed (map repeating_cite cs)
  repeating-row [] = refl
  repeating-row (c ∷ cs) = ap (λ l. seen_placed (repeating_cite c) ∷ l) (repeating-row cs)

  handed-row : (cs : List (PlainCite L)) → map placed_cite (map (seen f) cs) ≡ map seen_placed (map placed_cite cs)
  handed-row [] = refl
  handed-row (c ∷ cs) = ap (λ l. seen_placed (placed_cite c) ∷ l) (handed-row cs)

  handed-seen : (rs : List (Arranged (PlainCite L))) → map handed_request (map (seen_request f) rs) ≡ map seen_repeating (map handed_request rs)
  handed-seen [] = refl
  handed-seen (r ∷ rs) = λ i. record { note = r.facts.note; cites = handed-row r.cites i } ∷ handed-seen rs i

  -- which mentions they repeat
  at-seen : (c : PlainCite L) (p : Position) → repeated_at (seen f c) p ≡ repeated_at c p
  at-seen c Position.Different = refl
  at-seen c Position.Ibid = refl
  at-seen c Position.IbidWithLocator = refl

  where-seen : (looked : Bool) (c : PlainCite L) (p : Position) → repeated_where looked (seen f c, p) ≡ repeated_where looked (c, p)
  where-seen looked c p = ap (λ o. if looked then o else None) (at-seen c p)

  first-seen : (r : Arranged (PlainCite L)) (ps : List Position) → first_repeated (seen_request f r, ps) ≡ first_repeated (r, ps)
  first-seen r ps =
      ap (λ n. option_and_then (repeated_where (is_looked_at r.facts n)) (slice_get (zip (map (seen f) r.cites) ps) 0)) (length-map r.cites (seen f))
      ∙ by (is_looked_at r.facts (length r.cites)) r.cites ps
    where
      by : (looked : Bool) (cs : List (PlainCite L)) (ps : List Position)
          → option_and_then (repeated_where looked) (slice_get (zip (map (seen f) cs) ps) 0) ≡ option_and_then (repeated_where looked) (slice_get (zip cs ps) 0)
      by looked [] ps = refl
      by looked (c ∷ cs) [] = refl
      by looked (c ∷ cs) (p ∷ ps) = where-seen looked c p

  all-firsts-seen : (rs : List (Arranged (PlainCite L))) (ps : List (List Position)) → map first_repeated (zip (map (seen_request f) rs) ps) ≡ map first_repeated (zip rs ps)
  all-firsts-seen [] ps = refl
  all-firsts-seen (r ∷ rs) [] = refl
  all-firsts-seen (r ∷ rs) (p ∷ ps) = λ i. first-seen r p i ∷ all-firsts-seen rs ps i

  repeated-row : (looked : Bool) (cs : List (FinalCite L)) (ps : List Position)
      → map (λ c. repeated_where looked (c.0.cite, c.1)) (zip (map (seen_finally f) cs) ps) ≡ map (λ c. repeated_where looked (c.0.cite, c.1)) (zip cs ps)
  repeated-row looked [] ps = refl
  repeated-row looked (c ∷ cs) [] = refl
  repeated-row looked (c ∷ cs) (p ∷ ps) = λ i. where-seen looked c.cite p i ∷ repeated-row looked cs ps i

  all-repeated-seen : (fs : List (Arranged (FinalCite L))) (ps : List (List Position)) → map all_repeated (zip (map (seen_in_order f) fs) ps) ≡ map all_repeated (zip fs ps)
  all-repeated-seen [] ps = refl
  all-repeated-seen (r ∷ fs) [] = refl
  all-repeated-seen (r ∷ fs) (p ∷ ps) =
      let own =
      ap (λ n. map (λ c. repeated_where (is_looked_at r.facts n) (c.0.cite, c.1)) (zip (map (seen_finally f) r.cites) p)) (length-map r.cites (seen_finally f))
      ∙ repeated-row (is_looked_at r.facts (length r.cites)) r.cites p in
      λ i. own i ∷ all-repeated-seen fs ps i

  repeating-seen : (fs : List (Arranged (FinalCite L))) → map repeating_request (map (seen_in_order f) fs) ≡ map seen_repeating (map repeating_request fs)
  repeating-seen [] = refl
  repeating-seen (r ∷ fs) = λ i. record { note = r.facts.note; cites = repeating-row r.cites i } ∷ repeating-seen fs i

  -- cites with their positions, and how they collapse
  abbrev seen_positioned : PositionedCite L → PositionedCite M
  seen_positioned c = record { placed = c.placed; position = c.position; cite = seen f c.cite }

  positioned-seen : (cs : List (FinalCite L)) (ps : List Position) → positioned_cites (map (seen_finally f) cs) ps ≡ map seen_positioned (positioned_cites cs ps)
  positioned-seen [] ps = refl
  positioned-seen (c ∷ cs) [] = refl
  positioned-seen (c ∷ cs) (p ∷ ps) = ap (λ l. seen_positioned (positioned_cite c p) ∷ l) (positioned-seen cs ps)

  by-years-seen : (cs : List (PositionedCite L)) (ys : List CollapsedYear) → arranged_by_years (map seen_positioned cs) ys ≡ arranged_by_years cs ys
  by-years-seen [] ys = refl
  by-years-seen (c ∷ cs) [] = refl
  by-years-seen (c ∷ cs) (y ∷ ys) = ap (λ l. arranged_cite c y ∷ l) (by-years-seen cs ys)

  shown-seen : (cs : List (PositionedCite L)) → map shown_cite (map seen_positioned cs) ≡ map shown_cite cs
  shown-seen [] = refl
  shown-seen (c ∷ cs) = ap (λ l. shown_cite c ∷ l) (shown-seen cs)

  parts-seen : (cs : List (PositionedCite L)) → part_places (map seen_positioned cs) ≡ part_places cs
  parts-seen cs = ap parts (shown-seen cs)

  blocks-row : (ps : List ℕ) (cs : List (PositionedCite L)) → map block_cite (zip ps (map seen_positioned cs)) ≡ map block_cite (zip ps cs)
  blocks-row [] cs = refl
  blocks-row (p ∷ ps) [] = refl
  blocks-row (p ∷ ps) (c ∷ cs) = λ i. record {
    part = p;
    can_be_cut = is_some (names_shown c.cite) && c.cite.shown.has_date;
    has_locator = some-map f c.cite.locator i;
  } ∷ blocks-row ps cs i

  blocks-seen : (cs : List (PositionedCite L)) → block_cites (map seen_positioned cs) ≡ block_cites cs
  blocks-seen cs = ap (λ ps. map block_cite (zip ps (map seen_positioned cs))) (parts-seen cs) ∙ blocks-row (part_places cs) cs

  years-seen : (style : CiteStyle) (collapse : Option Collapse) (cs : List (PositionedCite L)) → block_years style collapse (map seen_positioned cs) ≡ block_years style collapse cs
  years-seen style collapse cs = λ i.
      if collapses_years collapse then years (blocks-seen cs i) (year_collapse style collapse) else map whole_in_part (enumerate_from 0 (parts-seen cs i))

  range-seen : (numbers : List ℕ) (c : PlainCite L) → range_number numbers (seen f c) ≡ range_number numbers c
  range-seen numbers c = λ i.
      if c.shown.has_number && not c.hidden && none-map f c.locator i && is_none c.apart then slice_get numbers c.entry else None

  numbered-seen : (numbers : List ℕ) (cs : List (PositionedCite L)) → map (numbered_cite numbers) (map seen_positioned cs) ≡ map (numbered_cite numbers) cs
  numbered-seen numbers [] = refl
  numbered-seen numbers (c ∷ cs) = λ i. record { hidden = c.cite.hidden; number = range-seen numbers c.cite i } ∷ numbered-seen numbers cs i

  suffixed-seen : (cs : List (PositionedCite L)) → map suffixed_cite (map seen_positioned cs) ≡ map suffixed_cite cs
  suffixed-seen [] = refl
  suffixed-seen (c ∷ cs) = λ i. record {
    entry = c.cite.entry;
    suffix = c.cite.suffix;
    text = c.cite.shown.text;
    names = c.cite.shown.names;
    has_date = c.cite.shown.has_date;
    hidden = c.cite.hidden;
    has_locator = some-map f c.cite.locator i;
    apart = c.cite.apart;
  } ∷ suffixed-seen cs i

  unranged-seen : (cs : List (PositionedCite L)) → map (λ c. unranged) (map seen_positioned cs) ≡ map (λ c. unranged) cs
  unranged-seen [] = refl
  unranged-seen (c ∷ cs) = ap (λ l. unranged ∷ l) (unranged-seen cs)

  ranges-seen : (collapse : Option Collapse) (numbers : List ℕ) (cs : List (PositionedCite L)) → cite_ranges collapse numbers (map seen_positioned cs) ≡ cite_ranges collapse numbers cs
  ranges-seen None numbers cs = unranged-seen cs
  ranges-seen (Some Collapse.CitationNumber) numbers cs = ap number_ranges (numbered-seen numbers cs)
  ranges-seen (Some Collapse.Year) numbers cs = unranged-seen cs
  ranges-seen (Some Collapse.YearSuffix) numbers cs = ap (suffix_stretches false) (suffixed-seen cs)
  ranges-seen (Some Collapse.YearSuffixRanged) numbers cs = ap (suffix_stretches true) (suffixed-seen cs)

  collapsed-seen : (facts : RequestFacts) (numbers : List ℕ) (cs : List (PositionedCite L)) → collapsed_cites facts numbers (map seen_positioned cs) ≡ collapsed_cites facts numbers cs
  collapsed-seen facts numbers cs = λ i.
      years_with_ranges (years-seen facts.style (collapse_of facts) cs i) (ranges-seen (collapse_of facts) numbers cs i)

  request-seen : (numbers : List ℕ) (r : Arranged (FinalCite L)) (ps : List Position) → arranged_request numbers (seen_in_order f r) ps ≡ arranged_request numbers r ps
  request-seen numbers r ps =
      let cites = positioned_cites r.cites ps in
      ap (λ cs. arranged_by_years cs (collapsed_cites r.facts numbers cs)) (positioned-seen r.cites ps)
      ∙ by-years-seen cites (collapsed_cites r.facts numbers (map seen_positioned cites))
      ∙ ap (arranged_by_years cites) (collapsed-seen r.facts numbers cites)

  requests-seen : (numbers : List ℕ) (fs : List (Arranged (FinalCite L))) (ps : List (List Position))
      → map (λ p. arranged_request numbers p.0 p.1) (zip (map (seen_in_order f) fs) ps) ≡ map (λ p. arranged_request numbers p.0 p.1) (zip fs ps)
  requests-seen numbers [] ps = refl
  requests-seen numbers (r ∷ fs) [] = refl
  requests-seen numbers (r ∷ fs) (p ∷ ps) = λ i. request-seen numbers r p i ∷ requests-seen numbers fs ps i

  -- where the locators are told alike
  module _ (eq : L → L → Bool) (seen_eq : M → M → Bool) (alike : (a b : L) → eq a b ≡ seen_eq (f a) (f b)) where
    by-seen : (a b : Option L) → position_by seen_eq (option_map f a) (option_map f b) ≡ position_by eq a b
    by-seen None None = refl
    by-seen None (Some b) = refl
    by-seen (Some a) None = refl
    by-seen (Some a) (Some b) = ap (λ t. if t then Position.Ibid else Position.IbidWithLocator) (sym (alike a b))

    behind-seen : (o : Option (PlacedCite L)) (c : PlacedCite L) → position_behind seen_eq (option_map seen_placed o) (seen_placed c) ≡ position_behind eq o c
    behind-seen None c = refl
    behind-seen (Some last) c = ap (λ p. if nat_eq last.entry c.entry then p else Position.Different) (by-seen last.locator c.locator)

    row-seen : (all : List (PlacedCite L)) (o : Option (PlacedCite L)) (n : ℕ) (cs : List (PlacedCite L))
        → map (λ p. position_behind seen_eq (option_or (before_at (map seen_placed all) p.0) (option_map seen_placed o)) p.1) (enumerate_from n (map seen_placed cs))
        ≡ map (λ p. position_behind eq (option_or (before_at all p.0) o) p.1) (enumerate_from n cs)
    row-seen all o n [] = refl
    row-seen all o n (c ∷ cs) =
        let last : option_or (before_at (map seen_placed all) n) (option_map seen_placed o) ≡ option_map seen_placed (option_or (before_at all n) o) =
        ap (λ b. option_or b (option_map seen_placed o)) (before-map seen_placed all n) ∙ or-map seen_placed (before_at all n) o in
        let own = ap (λ b. position_behind seen_eq b (seen_placed c)) last ∙ behind-seen (option_or (before_at all n) o) c in
        λ i. own i ∷ row-seen all o (n + 1) cs i

    rows-seen : (all : List (Repeating L)) (n : ℕ) (rs : List (Repeating L))
        → map (λ p. positions_behind seen_eq (option_and_then (repeatable (map seen_repeating all) p.1.note) (before_at (map seen_repeating all) p.0)) p.1.cites) (enumerate_from n (map seen_repeating rs))
        ≡ map (λ p. positions_behind eq (option_and_then (repeatable all p.1.note) (before_at all p.0)) p.1.cites) (enumerate_from n rs)
    rows-seen all n [] = refl
    rows-seen all n (r ∷ rs) =
        let own =
        ap (λ o. positions_behind seen_eq o (map seen_placed r.cites)) (before-seen all r.note n)
        ∙ row-seen r.cites (option_and_then (repeatable all r.note) (before_at all n)) 0 r.cites in
        λ i. own i ∷ rows-seen all (n + 1) rs i

    positions-seen : (fs : List (Arranged (FinalCite L))) → final_positions seen_eq (map (seen_in_order f) fs) ≡ final_positions eq fs
    positions-seen fs = ap (positions seen_eq) (repeating-seen fs) ∙ rows-seen (map repeating_request fs) 0 (map repeating_request fs)

    pub firsts-seen : (rs : List (Arranged (PlainCite L))) → firsts_repeated seen_eq (map (seen_request f) rs) ≡ firsts_repeated eq rs
    firsts-seen rs =
        all-firsts-seen rs (handed_positions seen_eq (map (seen_request f) rs))
        ∙ ap (λ ps. map first_repeated (zip rs ps)) (ap (positions seen_eq) (handed-seen rs) ∙ rows-seen (map handed_request rs) 0 (map handed_request rs))

    pub repeats-seen : (fs : List (Arranged (FinalCite L))) → cites_repeated seen_eq (map (seen_in_order f) fs) ≡ cites_repeated eq fs
    repeats-seen fs = all-repeated-seen fs (final_positions seen_eq (map (seen_in_order f) fs)) ∙ ap (λ ps. map all_repeated (zip fs ps)) (positions-seen fs)

    -- they are arranged alike
    pub cites-seen : (numbers : List ℕ) (fs : List (Arranged (FinalCite L))) → arranged_cites seen_eq numbers (map (seen_in_order f) fs) ≡ arranged_cites eq numbers fs
    cites-seen numbers fs =
        requests-seen numbers fs (final_positions seen_eq (map (seen_in_order f) fs))
        ∙ ap (λ ps. map (λ p. arranged_request numbers p.0 p.1) (zip fs ps)) (positions-seen fs)
