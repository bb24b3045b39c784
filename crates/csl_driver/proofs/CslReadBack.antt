-- What arranging hides can be read back from what it shows.
use Rattle.std.proofs.Common.{◌≡◌, inl, inr, ℕ, zero, suc, ◌+◌, ◌-◌, ◌<◌, ◌≤◌, Bool, true, false, not, ◌&&◌, ◌||◌, Option, Some, None, List, [], ◌∷◌, All, length, map, take, drop, refl, ap, sym, subst, ◌∙◌, arith, true≢false}
use Rattle.std.specs.Prelude.{filter_map, if◌then◌else◌, is_some, option_map, slice_get, slice_index, slice_index_or, slice_range, unwrap_or, zip}
use Rattle.std.specs.List.{AllZip, cons_option, drop-map, take-map}
use Rattle.std.specs.Option.{is_none, option_and_then}
use Rattle.std.proofs.Math.ListN.{length-map}
use Rattle.std.proofs.lemmas.Bool.{not-true}
use Rattle.std.proofs.lemmas.List.Elements.{All-cons, All-head, All-nil, All-tail}
use Rattle.std.proofs.lemmas.Option.{get_or_from_slice_get, none-some, same_Some, slice_get-map}
use Rattle.mentions_arranging.specs.Arranged.{arranged_by_years, arranged_cite, arranged_request}
use Rattle.mentions_arranging.specs.Collapsing.{block_years, cite_ranges, collapsed_cites, fits_range, numbered_cite, range_number, suffixed_cite, unranged, years_with_ranges}
use Rattle.mentions_arranging.specs.Requests.{Request as Arranged}
use Rattle.mentions_arranging.specs.declared.arranged.ArrangedCite.{ArrangedCite}
use Rattle.mentions_arranging.specs.declared.request.RequestFacts.{RequestFacts}
use Rattle.mentions_arranging.specs.Positioned.{positioned_cite, positioned_cites}
use Rattle.mentions_arranging.specs.declared.positioned.PositionedCite.{PositionedCite}
use Rattle.mentions_arranging.specs.declared.request.FinalCite.{FinalCite}
use Rattle.mentions_arranging.specs.declared.request.RequestedCite.{RequestedCite as PlainCite}
use Rattle.mentions_blocks.specs.Collapsed.{collapsed, delimiter_of as year_delimiter}
use Rattle.mentions_blocks.specs.declared.years.BlockYear.{BlockYear}
use Rattle.rounds_grouping.specs.NumberLaws.{AreNextShown, WasHid, is_hidden, override_at}
use Rattle.csl_driver.specs.CslReadBack.{HiddenCanBeReadBack, suffix_of}
use Rattle.csl_driver.proofs.CslLong.{blocks-long, both-long, ranges-long}
use Rattle.csl_driver.proofs.CslTold.{AreStanding, Essence, StandsThere, essence, found-there, plain_one}
use Rattle.driver_entries.specs.Entries.{place}
use Rattle.driver_lookup.specs.Properties.{LocatorValue}
use Rattle.mentions_notes.specs.declared.notes.CiteNotes.{CiteNotes}
use Rattle.mentions_notes.specs.declared.repeats.Position.{Position}
use Rattle.driver_passes.specs.Renders.{CiteRender, ItemRender}
use Rattle.driver_passes.specs.Request.{RequestedCite, Request}
use Rattle.driver_lookup.specs.Between.{between}
use Rattle.mentions_ranges.specs.ReadBack.{AreNextShown as AreShownNext, CanBeReadBack as RangesLaw, IsBetweenShown, RangedAreShown, WasHid as IsInside, holds_at, read_at}
use Rattle.mentions_ranges.proofs.ReadNumbers.{numbers-read-back}
use Rattle.mentions_ranges.proofs.ReadSuffixes.{suffixes-read-back}
use Rattle.mentions_ranges.specs.NumberRanges.{number_ranges}
use Rattle.mentions_ranges.specs.SuffixStretches.{suffix_stretches}
use Rattle.mentions_ranges.specs.declared.collapsed.CollapsedCite.{CollapsedCite}
use Rattle.mentions_ranges.specs.declared.collapsed.Delimiter.{Delimiter}
use Rattle.mentions_ranges.specs.declared.numbers.NumberedCite.{NumberedCite}
use Rattle.mentions_ranges.specs.declared.suffixes.Suffix.{Suffix}
use Rattle.mentions_ranges.specs.declared.suffixes.SuffixedCite.{SuffixedCite}
use Rattle.value_styles.specs.declared.style.Collapse.{Collapse}
use Rattle.mentions_tables.specs.Steps.{all_changed}
use Rattle.mentions_cites.specs.Arranging.{arranged_by, arranged_finally, delimiter_of, en_dash}
use Rattle.mentions_cites.specs.Cites.{ToldValue, told_at, told_cite, told_cites}
use Rattle.mentions_cites.specs.Mentions.{entry_suffix, suffix_number}
use Rattle.mentions_cites.specs.Requests.{cite_style, request_facts}
use Rattle.mentions_cites.specs.declared.mentions.ToldMention.{ToldMention}

or-second : (a b : Bool) → a ≡ false → a || b ≡ true → b ≡ true
or-second a b e h = ap (λ x. x || b) (sym e) ∙ h

-- what holds of zero and of each number behind one
by-number : (Q : ℕ → Type 0) → Q zero → ((k : ℕ) → Q (suc k)) → (k : ℕ) → Q k
by-number Q first next zero = first
by-number Q first next (suc k) = next k

-- ---- parts of lists

-- the second is there wherever the first is, with the same number
abbrev Gives : Option ℕ → Option ℕ → Type 0
Gives o u = (n : ℕ) → o ≡ Some n → u ≡ Some n

gives-all : (zs : List ℕ) (os us : List (Option ℕ)) → AllZip Gives os us → os ≡ map Some zs → us ≡ map Some zs
gives-all zs [] [] h e = e
gives-all zs [] (u ∷ us) h e = absurd h
gives-all zs (o ∷ os) [] h e = absurd h
gives-all [] (o ∷ os) (u ∷ us) h e = cc
gives-all (z ∷ zs) (o ∷ os) (u ∷ us) h e =
    let first : o ≡ Some z = cc in
    let later : os ≡ map Some zs = cc in
    λ i. h.0 z first i ∷ gives-all zs os us h.1 later i

gives-behind : (a : ℕ) (os us : List (Option ℕ)) → AllZip Gives os us → AllZip Gives (drop a os) (drop a us)
gives-behind zero [] [] h = tt
gives-behind zero [] (u ∷ us) h = absurd h
gives-behind zero (o ∷ os) [] h = absurd h
gives-behind zero (o ∷ os) (u ∷ us) h = h
gives-behind (suc a) [] [] h = tt
gives-behind (suc a) [] (u ∷ us) h = absurd h
gives-behind (suc a) (o ∷ os) [] h = absurd h
gives-behind (suc a) (o ∷ os) (u ∷ us) h = gives-behind a os us h.1

gives-before : (m : ℕ) (os us : List (Option ℕ)) → AllZip Gives os us → AllZip Gives (take m os) (take m us)
gives-before zero [] [] h = tt
gives-before zero [] (u ∷ us) h = absurd h
gives-before zero (o ∷ os) [] h = absurd h
gives-before zero (o ∷ os) (u ∷ us) h = tt
gives-before (suc m) [] [] h = tt
gives-before (suc m) [] (u ∷ us) h = absurd h
gives-before (suc m) (o ∷ os) [] h = absurd h
gives-before (suc m) (o ∷ os) (u ∷ us) h = (h.0, gives-before m os us h.1)

-- numbers that are all there
module _ {X : Type 0} (number : X → ℕ) where
  abbrev bare : Option ℕ → ℕ
  bare o = unwrap_or o 0

  all-there : (xs : List X) → map bare (map (λ x. Some (number x)) xs) ≡ map number xs
  all-there [] = refl
  all-there (x ∷ xs) = λ i. number x ∷ all-there xs i

  bared : (zs : List ℕ) → map bare (map Some zs) ≡ zs
  bared [] = refl
  bared (z ∷ zs) = λ i. z ∷ bared zs i

  bare-part : (a b : ℕ) (xs : List X) (zs : List ℕ) → slice_range (map (λ x. Some (number x)) xs) a b ≡ map Some zs → slice_range (map number xs) a b ≡ zs
  bare-part a b xs zs h =
      let all : List (Option ℕ) = map (λ x. Some (number x)) xs in
      ap (λ l. take (b - a) (drop a l)) (sym (all-there xs)) ∙ ap (take (b - a)) (drop-map bare a all) ∙ take-map bare (b - a) (drop a all) ∙ ap (map bare) h ∙ bared zs

  bare-at : (k n : ℕ) (xs : List X) → read_at (λ x. Some (number x)) xs k ≡ Some n → slice_index (map number xs) k ≡ n
  bare-at k n xs h = get_or_from_slice_get (map number xs) k n 0 (slice_get-map number xs k ∙ by (slice_get xs k) ∙ h)
    where
      by : (o : Option X) → option_map number o ≡ option_and_then (λ x. Some (number x)) o
      by None = refl
      by (Some x) = refl

-- ---- cites as ranges know them, and the same before and behind arranging

module _ {X E P : Type 0} (hidden : X → Bool) (class number : X → Option ℕ) (class_of number_of : ItemRender E P → Option ℕ) where
  -- of one cite, and what ranges say of it
  record IsArrangedAs (x : X) (c : CollapsedCite) (before after : ItemRender E P) : Type 0 where
    hidden_before : before.hidden ≡ hidden x
    hidden_after : after.hidden ≡ hidden x || c.is_inner
    has_class : class_of after ≡ class x
    has_number : Gives (number x) (number_of after)
    has_dash : c.delimiter ≡ Delimiter.Dash → after.delimiter_override ≡ Some en_dash

  -- of the cites of a request
  record AreArrangedAs (xs : List X) (cs : List CollapsedCite) (before after : List (ItemRender E P)) : Type 0 where
    as_many : length after ≡ length xs
    hidden_before : (k : ℕ) → is_hidden before k ≡ holds_at hidden xs k
    hidden_after : (k : ℕ) → is_hidden after k ≡ holds_at hidden xs k || holds_at (λ c. c.is_inner) cs k
    have_classes : (k : ℕ) → read_at class_of after k ≡ read_at class xs k
    have_numbers : AllZip Gives (map number xs) (map number_of after)
    number_there : (k : ℕ) → Gives (read_at number xs k) (read_at number_of after k)
    dash_there : (k : ℕ) → option_map (λ c. c.delimiter) (slice_get cs k) ≡ Some Delimiter.Dash → override_at after k ≡ Some en_dash

  no-cites : AreArrangedAs [] [] [] []
  no-cites = record {
    as_many = refl;
    hidden_before = λ k. refl;
    hidden_after = λ k. refl;
    have_classes = λ k. refl;
    have_numbers = tt;
    number_there = λ k n e. e;
    dash_there = λ k e. absurd (none-some Delimiter.Dash e);
  }

  one-more : (x : X) (c : CollapsedCite) (b a : ItemRender E P) (xs : List X) (cs : List CollapsedCite) (before after : List (ItemRender E P)) → IsArrangedAs x c b a → AreArrangedAs xs cs before after
      → AreArrangedAs (x ∷ xs) (c ∷ cs) (b ∷ before) (a ∷ after)
  one-more x c b a xs cs before after one all = record {
    as_many = ap suc all.as_many;
    hidden_before = by-number (λ k. is_hidden (b ∷ before) k ≡ holds_at hidden (x ∷ xs) k) one.hidden_before all.hidden_before;
    hidden_after = by-number (λ k. is_hidden (a ∷ after) k ≡ holds_at hidden (x ∷ xs) k || holds_at (λ c. c.is_inner) (c ∷ cs) k) one.hidden_after all.hidden_after;
    have_classes = by-number (λ k. read_at class_of (a ∷ after) k ≡ read_at class (x ∷ xs) k) one.has_class all.have_classes;
    have_numbers = (one.has_number, all.have_numbers);
    number_there = by-number (λ k. Gives (read_at number (x ∷ xs) k) (read_at number_of (a ∷ after) k)) one.has_number all.number_there;
    dash_there = by-number (λ k. option_map (λ c. c.delimiter) (slice_get (c ∷ cs) k) ≡ Some Delimiter.Dash → override_at (a ∷ after) k ≡ Some en_dash)
        (λ e. one.has_dash (same_Some c.delimiter Delimiter.Dash e)) all.dash_there;
  }

  module _ (xs : List X) (cs : List CollapsedCite) (before after : List (ItemRender E P)) (all : AreArrangedAs xs cs before after) where
    inside : (k : ℕ) → WasHid before after k → IsInside xs cs hidden k
    inside k h =
        let shown : holds_at hidden xs k ≡ false = sym (all.hidden_before k) ∙ h.0 in
        (shown, or-second (holds_at hidden xs k) (holds_at (λ c. c.is_inner) cs k) shown (sym (all.hidden_after k) ∙ h.1))

    was-hid : (k : ℕ) → IsInside xs cs hidden k → WasHid before after k
    was-hid k h = (all.hidden_before k ∙ h.0, all.hidden_after k ∙ (λ i. h.0 i || h.1 i))

    shown-next : (p q : ℕ) → AreNextShown before after p q → AreShownNext xs cs hidden p q
    shown-next p q n = record {
      in_order = n.in_order;
      in_request = subst (λ m. q < m) all.as_many n.in_request;
      first_shown = sym (all.hidden_after p) ∙ n.first_shown;
      last_shown = sym (all.hidden_after q) ∙ n.last_shown;
      between_hidden = λ k u v. sym (all.hidden_after k) ∙ n.between_hidden k u v;
    }

    next-shown : (p q : ℕ) → AreShownNext xs cs hidden p q → AreNextShown before after p q
    next-shown p q n = record {
      in_order = n.in_order;
      in_request = subst (λ m. q < m) (sym all.as_many) n.in_request;
      first_shown = all.hidden_after p ∙ n.first_shown;
      last_shown = all.hidden_after q ∙ n.last_shown;
      between_hidden = λ k u v. all.hidden_after k ∙ n.between_hidden k u v;
    }

    -- what the law of ranges says of two shown cites
    record AreBackAgain (p q : ℕ) : Type 0 where
      all_were_hid : (k : ℕ) → p < k → k < q → WasHid before after k
      one_class : (k : ℕ) → p ≤ k → k ≤ q → read_at class_of after k ≡ read_at class_of after p
      first_number : ℕ
      last_number : ℕ
      is_first : read_at number_of after p ≡ Some first_number
      is_last : read_at number_of after q ≡ Some last_number
      numbers_between : slice_range (map number_of after) (p + 1) q ≡ map Some (between first_number last_number)
      dash : override_at after q ≡ Some en_dash

    module _ (law : RangesLaw xs cs hidden class number) where
      between-shown : (k : ℕ) → WasHid before after k → IsBetweenShown (AreNextShown before after) k
      between-shown k h =
          let b = law.hidden_between_shown k (inside k h) in
          record { first = b.first; last = b.last; next_shown = next-shown b.first b.last b.next_shown; is_between = b.is_between }

      back-again : (p q k : ℕ) → AreNextShown before after p q → p < k → k < q → WasHid before after k → AreBackAgain p q
      back-again p q k n u v h =
          let b = law.hidden_can_be_read_back p q k (shown-next p q n) u v (inside k h) in
          record {
            all_were_hid = λ j s t. was-hid j (b.all_were_hid j s t);
            one_class = λ j s t. all.have_classes j ∙ b.one_class j s t ∙ sym (all.have_classes p);
            first_number = b.first_number;
            last_number = b.last_number;
            is_first = all.number_there p b.first_number b.is_first;
            is_last = all.number_there q b.last_number b.is_last;
            numbers_between = gives-all (between b.first_number b.last_number) (slice_range (map number xs) (p + 1) q) (slice_range (map number_of after) (p + 1) q)
                (gives-before (q - (p + 1)) (drop (p + 1) (map number xs)) (drop (p + 1) (map number_of after))
                (gives-behind (p + 1) (map number xs) (map number_of after) all.have_numbers))
                b.numbers_between;
            dash = all.dash_there q b.dash;
          }

-- ---- of the cites of one request

-- the law where nothing is hidden
nothing-hid : {E P : Type 0} (class : ItemRender E P → Option ℕ) (before after : List (ItemRender E P)) (collapse : Option Collapse) → ((k : ℕ) → WasHid before after k → ⊥)
    → HiddenCanBeReadBack before after class collapse
nothing-hid class before after collapse none = record {
  only_ranges_hide = λ k h. absurd (none k h);
  hidden_between_shown = λ k h. absurd (none k h);
  numbers_read_back = λ e p q k n u v h. absurd (none k h);
  suffixes_read_back = λ e p q k n u v h. absurd (none k h);
}

abbrev is_ranged : Option Collapse → Bool
is_ranged (Some Collapse.YearSuffixRanged) = true
is_ranged _ = false

second : (a b c d : Bool) → a && b && c && d ≡ true → b ≡ true
second false b c d h = absurd (true≢false (sym h))
second true false c d h = absurd (true≢false (sym h))
second true true c d h = refl

-- the number of a suffix
number-back : (class : ℕ) (o : Option ℕ) → option_map (λ (s : Suffix). s.number) (option_map (λ n. record { class = class; number = n }) o) ≡ o
number-back class None = refl
number-back class (Some n) = refl

none-inner : {X : Type 0} (xs : List X) (k : ℕ) → holds_at (λ (c : CollapsedCite). c.is_inner) (map (λ x. unranged) xs) k ≡ false
none-inner [] k = refl
none-inner (x ∷ xs) zero = refl
none-inner (x ∷ xs) (suc k) = none-inner xs k

module _ {L : Type 0} (numbers : List ℕ) where
  -- a cite in a range shows the number of its entry
  number-shown : (c : PlainCite L) (n : ℕ) → range_number numbers c ≡ Some n → slice_index_or numbers c.entry 0 ≡ n
  number-shown c n = by (fits_range c)
    where
      by : (b : Bool) → (if b then slice_get numbers c.entry else None) ≡ Some n → slice_index_or numbers c.entry 0 ≡ n
      by true e = get_or_from_slice_get numbers c.entry n 0 e
      by false e = absurd (none-some n e)

  -- and isn't hidden by its caller
  ranged-shown : (cites : List (PositionedCite L)) → RangedAreShown (map (numbered_cite numbers) cites)
  ranged-shown [] = All-nil (λ (c : NumberedCite). is_some c.number ≡ true → c.hidden ≡ false)
  ranged-shown (c ∷ cites) =
      All-cons (λ (c : NumberedCite). is_some c.number ≡ true → c.hidden ≡ false) (numbered_cite numbers c) (map (numbered_cite numbers) cites) (by (fits_range c.cite) refl)
      (ranged-shown cites)
    where
      by : (b : Bool) → fits_range c.cite ≡ b → is_some (if b then slice_get numbers c.cite.entry else None) ≡ true → c.cite.hidden ≡ false
      by true e h = not-true _ (second c.cite.shown.has_number (not c.cite.hidden) (is_none c.cite.locator) (is_none c.cite.apart) e)
      by false e h = absurd (true≢false (sym h))

module _ {E P : Type 0} (eq : E → E → Bool) (listed : List E) (told : ToldValue) (mentions : List ToldMention) (numbers : List ℕ) where
  -- the class of the suffix of a cite's entry
  abbrev class_told : ItemRender E P → Option ℕ
  class_told i = option_map (λ s. s.class) (entry_suffix mentions told.suffixes (place eq i.entry listed))

  -- of a cite of the final order, and what it is told
  record IsToldOf (f : FinalCite (LocatorValue P)) (i : ItemRender E P) : Type 0 where
    same_hidden : i.hidden ≡ f.cite.hidden
    same_suffix : suffix_of i ≡ option_map (λ s. s.number) f.cite.suffix
    same_class : class_told i ≡ option_map (λ s. s.class) f.cite.suffix

  module _ (r : Request E P) (notes : List CiteNotes) where
    abbrev plain : RequestedCite E P × CiteNotes → PlainCite (LocatorValue P)
    plain = plain_one eq listed told mentions told.suffixes r notes

    abbrev item : FinalCite (LocatorValue P) → RequestedCite E P × CiteNotes → ItemRender E P
    item f p = told_cite told r.note_number f.cite.entry f.placed.place p.0 p.1

    told-of : (f : FinalCite (LocatorValue P)) (p : RequestedCite E P × CiteNotes) → essence (plain p) ≡ essence f.cite → IsToldOf f (item f p)
    told-of f p same = record {
      same_hidden = ap (λ (c : Essence). c.1.0) same;
      same_suffix = subst (λ (c : Essence). suffix_number told.suffixes c.0 ≡ option_map (λ s. s.number) c.1.1) same
          (sym (number-back _ (suffix_number told.suffixes (place eq p.0.entry listed))));
      same_class = ap (λ (c : Essence). option_map (λ s. s.class) c.1.1) same;
    }

    abbrev told_items : List (FinalCite (LocatorValue P)) → List (ItemRender E P)
    told_items fs = filter_map (told_at told r notes) fs

    abbrev Stands : FinalCite (LocatorValue P) → Type 0
    Stands = StandsThere eq listed told mentions told.suffixes r notes

    -- as it is arranged in the end
    abbrev arranged_item : FinalCite (LocatorValue P) → Position → BlockYear → CollapsedCite → ItemRender E P → ItemRender E P
    arranged_item f p b c = arranged_by numbers r.style.citation (f, arranged_cite (positioned_cite f p) (collapsed b c))

    -- all of them
    abbrev arranged_items : List (FinalCite (LocatorValue P)) → List Position → List BlockYear → List CollapsedCite → List (ItemRender E P)
    arranged_items fs ps bs cs = all_changed (arranged_by numbers r.style.citation) (zip fs (arranged_by_years (positioned_cites fs ps) (years_with_ranges bs cs))) (told_items fs)

    module _ {X : Type 0} (hidden : X → Bool) (class number : X → Option ℕ) (class_of number_of : ItemRender E P → Option ℕ) (known : PositionedCite (LocatorValue P) → X)
        (each : (f : FinalCite (LocatorValue P)) (p : Position) (b : BlockYear) (c : CollapsedCite) (i : ItemRender E P) → IsToldOf f i
        → IsArrangedAs hidden class number class_of number_of (known (positioned_cite f p)) c i (arranged_item f p b c i)) where
      abbrev AreSo : List X → List CollapsedCite → List (ItemRender E P) → List (ItemRender E P) → Type 0
      AreSo = AreArrangedAs hidden class number class_of number_of

      are-arranged : (fs : List (FinalCite (LocatorValue P))) (ps : List Position) (bs : List BlockYear) (cs : List CollapsedCite) → All Stands fs
          → length ps ≡ length fs → length bs ≡ length fs → length cs ≡ length fs
          → AreSo (map known (positioned_cites fs ps)) cs (told_items fs) (arranged_items fs ps bs cs)
      are-arranged [] ps bs [] h l m n = no-cites hidden class number class_of number_of
      are-arranged [] ps bs (c ∷ cs) h l m n = absurd (omega (arith, n))
      are-arranged (f ∷ fs) [] bs cs h l m n = absurd (omega (arith, l))
      are-arranged (f ∷ fs) (p ∷ ps) [] cs h l m n = absurd (omega (arith, m))
      are-arranged (f ∷ fs) (p ∷ ps) (b ∷ bs) [] h l m n = absurd (omega (arith, n))
      are-arranged (f ∷ fs) (p ∷ ps) (b ∷ bs) (c ∷ cs) h l m n =
          by (slice_get (zip r.cites notes) f.placed.place) refl (are-arranged fs ps bs cs (All-tail Stands f fs h) (omega (arith, l)) (omega (arith, m)) (omega (arith, n)))
        where
          there : Stands f
          there = All-head Stands f fs h

          found : (o : Option (RequestedCite E P × CiteNotes)) → slice_get (zip r.cites notes) f.placed.place ≡ o → option_map essence (option_map plain o) ≡ Some (essence f.cite)
          found o e = found-there eq listed told mentions told.suffixes r notes f o there e

          by : (o : Option (RequestedCite E P × CiteNotes)) → slice_get (zip r.cites notes) f.placed.place ≡ o
              → AreSo (map known (positioned_cites fs ps)) cs (told_items fs) (arranged_items fs ps bs cs)
              → AreSo (known (positioned_cite f p) ∷ map known (positioned_cites fs ps)) (c ∷ cs) (cons_option (option_map (item f) o) (told_items fs))
              (all_changed (arranged_by numbers r.style.citation)
              ((f, arranged_cite (positioned_cite f p) (collapsed b c)) ∷ zip fs (arranged_by_years (positioned_cites fs ps) (years_with_ranges bs cs)))
              (cons_option (option_map (item f) o) (told_items fs)))
          by None e more = absurd (none-some (essence f.cite) (found None e))
          by (Some q) e more =
              let same : essence (plain q) ≡ essence f.cite = same_Some (essence (plain q)) (essence f.cite) (found (Some q) e) in
              one-more hidden class number class_of number_of (known (positioned_cite f p)) c (item f q) (arranged_item f p b c (item f q)) (map known (positioned_cites fs ps)) cs
              (told_items fs) (arranged_items fs ps bs cs) (each f p b c (item f q) (told-of f q same)) more

    -- a dash that ranges ask for stands there
    dash-stands : (f : FinalCite (LocatorValue P)) (p : Position) (b : BlockYear) (c : CollapsedCite) (i : ItemRender E P) → c.delimiter ≡ Delimiter.Dash
        → (arranged_item f p b c i).delimiter_override ≡ Some en_dash
    dash-stands f p b c i e = ap (λ d. delimiter_of r.style.citation (year_delimiter b.delimiter d)) e

    abbrev shown_number : ItemRender E P → Option ℕ
    shown_number i = Some i.properties.speculative.citation_number

    abbrev no_class : {X : Type 0} → X → Option ℕ
    no_class x = Some 0

    abbrev AreNumbered : List NumberedCite → List CollapsedCite → List (ItemRender E P) → List (ItemRender E P) → Type 0
    AreNumbered = AreArrangedAs (λ c. c.hidden) no_class (λ c. c.number) no_class shown_number

    abbrev AreSuffixed : List SuffixedCite → List CollapsedCite → List (ItemRender E P) → List (ItemRender E P) → Type 0
    AreSuffixed = AreArrangedAs (λ c. c.hidden) (λ c. option_map (λ s. s.class) c.suffix) (λ c. option_map (λ s. s.number) c.suffix) class_told suffix_of

    module _ (fs : List (FinalCite (LocatorValue P))) (ps : List Position) (stand : All Stands fs) (long : length ps ≡ length fs) where
      abbrev cites : List (PositionedCite (LocatorValue P))
      cites = positioned_cites fs ps

      abbrev items : List (ItemRender E P)
      items = told_items fs

      cites-long : length cites ≡ length fs
      cites-long = length-map (zip fs ps) _ ∙ both-long fs ps (length fs) refl long

      numbered : (bs : List BlockYear) (cs : List CollapsedCite) → length bs ≡ length fs → length cs ≡ length fs → AreNumbered (map (numbered_cite numbers) cites) cs items (arranged_items fs ps bs cs)
      numbered bs cs m n =
          are-arranged (λ c. c.hidden) no_class (λ c. c.number) no_class shown_number (numbered_cite numbers)
          (λ f p b c i t. record {
            hidden_before = t.same_hidden;
            hidden_after = ap (λ h. h || c.is_inner) t.same_hidden;
            has_class = refl;
            has_number = λ n e. ap Some (number-shown numbers f.cite n e);
            has_dash = dash-stands f p b c i;
          })
          fs ps bs cs stand long m n

      suffixed : (bs : List BlockYear) (cs : List CollapsedCite) → length bs ≡ length fs → length cs ≡ length fs → AreSuffixed (map suffixed_cite cites) cs items (arranged_items fs ps bs cs)
      suffixed bs cs m n =
          are-arranged (λ c. c.hidden) (λ c. option_map (λ s. s.class) c.suffix) (λ c. option_map (λ s. s.number) c.suffix) class_told suffix_of suffixed_cite
          (λ f p b c i t. record {
            hidden_before = t.same_hidden;
            hidden_after = ap (λ h. h || c.is_inner) t.same_hidden;
            has_class = t.same_class;
            has_number = λ n e. t.same_suffix ∙ e;
            has_dash = dash-stands f p b c i;
          })
          fs ps bs cs stand long m n

      module _ (bs : List BlockYear) (blocks : length bs ≡ length fs) where
        -- where there are no ranges
        unranged-back : (collapse : Option Collapse) → HiddenCanBeReadBack items (arranged_items fs ps bs (map (λ c. unranged) cites)) class_told collapse
        unranged-back collapse =
            let cs : List CollapsedCite = map (λ c. unranged) cites in
            let all = suffixed bs cs blocks (length-map cites _ ∙ cites-long) in
            nothing-hid class_told items (arranged_items fs ps bs cs) collapse (λ k h.
            let within = inside (λ c. c.hidden) _ _ class_told suffix_of (map suffixed_cite cites) cs items (arranged_items fs ps bs cs) all k h in
            true≢false (sym within.1 ∙ none-inner cites k))

        -- stretches of suffixes without ranges
        stretches-back : (collapse : Option Collapse) → length (suffix_stretches false (map suffixed_cite cites)) ≡ length fs
            → HiddenCanBeReadBack items (arranged_items fs ps bs (suffix_stretches false (map suffixed_cite cites))) class_told collapse
        stretches-back collapse n =
            let cs : List CollapsedCite = suffix_stretches false (map suffixed_cite cites) in
            let all = suffixed bs cs blocks n in
            nothing-hid class_told items (arranged_items fs ps bs cs) collapse (λ k h.
            let within = inside (λ c. c.hidden) _ _ class_told suffix_of (map suffixed_cite cites) cs items (arranged_items fs ps bs cs) all k h in
            true≢false (sym ((suffixes-read-back false (map suffixed_cite cites)).only_ranges_hide k within)))

        numbers-back : length (number_ranges (map (numbered_cite numbers) cites)) ≡ length fs
            → HiddenCanBeReadBack items (arranged_items fs ps bs (number_ranges (map (numbered_cite numbers) cites))) class_told (Some Collapse.CitationNumber)
        numbers-back n =
            let xs : List NumberedCite = map (numbered_cite numbers) cites in
            let cs : List CollapsedCite = number_ranges xs in
            let done = arranged_items fs ps bs cs in
            let all = numbered bs cs blocks n in
            let law = numbers-read-back xs (ranged-shown numbers cites) in
            record {
              only_ranges_hide = λ k h. inl refl;
              hidden_between_shown = between-shown (λ c. c.hidden) no_class (λ c. c.number) no_class shown_number xs cs items done all law;
              numbers_read_back = λ e p q k n u v h.
                  let back = back-again (λ c. c.hidden) no_class (λ c. c.number) no_class shown_number xs cs items done all law p q k n u v h in
                  record {
                    all_were_hid = back.all_were_hid;
                    numbers_between = bare-part (λ i. i.properties.speculative.citation_number) (p + 1) q done (between back.first_number back.last_number) back.numbers_between
                        ∙ (λ j. between (sym (bare-at (λ i. i.properties.speculative.citation_number) p back.first_number done back.is_first) j)
                        (sym (bare-at (λ i. i.properties.speculative.citation_number) q back.last_number done back.is_last) j));
                    dash = back.dash;
                  };
              suffixes_read_back = λ e. absurd (true≢false (sym (ap is_ranged e)));
            }

        suffixes-back : length (suffix_stretches true (map suffixed_cite cites)) ≡ length fs
            → HiddenCanBeReadBack items (arranged_items fs ps bs (suffix_stretches true (map suffixed_cite cites))) class_told (Some Collapse.YearSuffixRanged)
        suffixes-back n =
            let xs : List SuffixedCite = map suffixed_cite cites in
            let cs : List CollapsedCite = suffix_stretches true xs in
            let done = arranged_items fs ps bs cs in
            let all = suffixed bs cs blocks n in
            let law = (suffixes-read-back true xs).ranges_can_be_read_back in
            record {
              only_ranges_hide = λ k h. inr refl;
              hidden_between_shown = between-shown (λ c. c.hidden) (λ c. option_map (λ s. s.class) c.suffix) (λ c. option_map (λ s. s.number) c.suffix) class_told suffix_of xs cs items done all law;
              numbers_read_back = λ e. absurd (true≢false (ap is_ranged e));
              suffixes_read_back = λ e p q k n u v h.
                  let back = back-again (λ c. c.hidden) (λ c. option_map (λ s. s.class) c.suffix) (λ c. option_map (λ s. s.number) c.suffix) class_told suffix_of xs cs items done all law p q k n u v h in
                  record {
                    all_were_hid = back.all_were_hid;
                    one_class = back.one_class;
                    first_suffix = back.first_number;
                    last_suffix = back.last_number;
                    is_first = back.is_first;
                    is_last = back.is_last;
                    suffixes_between = back.numbers_between;
                    dash = back.dash;
                  };
            }

      -- by whatever collapse a style asks for, where some cite has a purpose or none has
      row-back : (purpose : Bool) (collapse : Option Collapse)
          → let collapses = if purpose then None else collapse in
          HiddenCanBeReadBack items (arranged_items fs ps (block_years (cite_style r.style.citation) collapses cites) (cite_ranges collapses numbers cites)) class_told collapse
      row-back true collapse = unranged-back (block_years (cite_style r.style.citation) None cites) (blocks-long cites (length fs) cites-long (cite_style r.style.citation) None) collapse
      row-back false None = unranged-back (block_years (cite_style r.style.citation) None cites) (blocks-long cites (length fs) cites-long (cite_style r.style.citation) None) None
      row-back false (Some Collapse.CitationNumber) =
          let c : Option Collapse = Some Collapse.CitationNumber in
          numbers-back (block_years (cite_style r.style.citation) c cites) (blocks-long cites (length fs) cites-long (cite_style r.style.citation) c)
          (ranges-long cites (length fs) cites-long c numbers)
      row-back false (Some Collapse.Year) =
          let c : Option Collapse = Some Collapse.Year in
          unranged-back (block_years (cite_style r.style.citation) c cites) (blocks-long cites (length fs) cites-long (cite_style r.style.citation) c) c
      row-back false (Some Collapse.YearSuffix) =
          let c : Option Collapse = Some Collapse.YearSuffix in
          stretches-back (block_years (cite_style r.style.citation) c cites) (blocks-long cites (length fs) cites-long (cite_style r.style.citation) c) c
          (ranges-long cites (length fs) cites-long c numbers)
      row-back false (Some Collapse.YearSuffixRanged) =
          let c : Option Collapse = Some Collapse.YearSuffixRanged in
          suffixes-back (block_years (cite_style r.style.citation) c cites) (blocks-long cites (length fs) cites-long (cite_style r.style.citation) c)
          (ranges-long cites (length fs) cites-long c numbers)

  -- ---- of all requests

  none-back : (R : CiteRender E P → CiteRender E P → Type 0) (fs : List (Arranged (FinalCite (LocatorValue P)))) (xs : List (List ArrangedCite)) → AllZip R [] (arranged_finally numbers fs xs [])
  none-back R [] xs = tt
  none-back R (f ∷ fs) [] = tt
  none-back R (f ∷ fs) (x ∷ xs) = tt

  abbrev IsBack : CiteRender E P → CiteRender E P → Type 0
  IsBack ordered arranged = HiddenCanBeReadBack ordered.items arranged.items class_told ordered.request.style.citation.collapse

  pub rows-back : (rs : List (Request E P)) (ns : List (List CiteNotes)) (fs : List (Arranged (FinalCite (LocatorValue P)))) (ps : List (List Position))
      → AreStanding eq listed told mentions told.suffixes rs ns fs → AllZip (λ f p. length p ≡ length f.cites) fs ps
      → AllZip IsBack (told_cites told rs ns fs) (arranged_finally numbers fs (map (λ p. arranged_request numbers p.0 p.1) (zip fs ps)) (told_cites told rs ns fs))
  rows-back [] ns fs ps s h = none-back IsBack fs (map (λ p. arranged_request numbers p.0 p.1) (zip fs ps))
  rows-back (r ∷ rs) [] fs ps s h = none-back IsBack fs (map (λ p. arranged_request numbers p.0 p.1) (zip fs ps))
  rows-back (r ∷ rs) (n ∷ ns) [] ps s h = none-back IsBack [] (map (λ p. arranged_request {L = LocatorValue P} numbers p.0 p.1) (zip [] ps))
  rows-back (r ∷ rs) (n ∷ ns) (f ∷ fs) [] s h = absurd h
  rows-back (r ∷ rs) (n ∷ ns) (f ∷ fs) (p ∷ ps) s h =
      let cites : List (PositionedCite (LocatorValue P)) = positioned_cites f.cites p in
      let items : List (ItemRender E P) = filter_map (told_at told r n) f.cites in
      let facts : RequestFacts = request_facts r in
      let own : HiddenCanBeReadBack items (all_changed (arranged_by numbers r.style.citation) (zip f.cites (arranged_by_years cites (collapsed_cites facts numbers cites))) items) class_told r.style.citation.collapse =
      row-back r n f.cites p s.1.0 h.0 facts.has_purpose r.style.citation.collapse in (
        subst (λ (facts : RequestFacts). HiddenCanBeReadBack items (all_changed (arranged_by numbers r.style.citation) (zip f.cites (arranged_by_years cites (collapsed_cites facts numbers cites))) items) class_told r.style.citation.collapse)
            (sym s.0) own,
        rows-back rs ns fs ps s.1.1 h.1,
      )
