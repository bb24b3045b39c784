-- Each cite is told all that tells its mention apart, and arranging changes nothing of that.
use Rattle.std.proofs.Common.{◌≡◌, ℕ, zero, suc, ◌*◌, ◌+◌, Bool, true, false, ◌||◌, cond, not, Option, Some, None, List, [], ◌∷◌, All, length, map, refl, ap, sym, subst, ◌∙◌, arith}
use Rattle.std.specs.Prelude.{⊤, filter_map, option_map, slice_get, slice_index_or, zip}
use Rattle.std.specs.Cmp.{IsEquivalence}
use Rattle.std.specs.List.{AllZip, cons_option}
use Rattle.std.proofs.lemmas.List.Elements.{All-append, All-cons, All-head, All-nil, All-tail}
use Rattle.std.proofs.lemmas.Option.{none-some, same_Some, slice_get-map}
use Rattle.mentions_arranging.specs.Order.{cites_in_order, final_order, final_request, with_place}
use Rattle.mentions_arranging.specs.Requests.{Request as Arranged}
use Rattle.mentions_arranging.specs.declared.arranged.ArrangedCite.{ArrangedCite}
use Rattle.mentions_arranging.specs.declared.request.FinalCite.{FinalCite}
use Rattle.mentions_arranging.specs.declared.request.RequestedCite.{RequestedCite as PlainCite}
use Rattle.mentions_arranging.specs.declared.request.Shown.{Shown}
use Rattle.mentions_blocks.specs.declared.blocks.PlacedCite.{PlacedCite}
use Rattle.rounds_grouping.specs.NumberLaws.{is_hidden}
use Rattle.csl_driver.specs.CslCitations.{IsArranged, unarranged}
use Rattle.csl_driver.proofs.CslPairs.{by_turns}
use Rattle.csl_driver.proofs.ListedKeys.{AreEqual}
use Rattle.driver_entries.specs.Entries.{place}
use Rattle.driver_lookup.specs.Properties.{LocatorValue}
use Rattle.mentions_notes.specs.declared.notes.CiteNotes.{CiteNotes}
use Rattle.driver_passes.specs.Renders.{CiteRender, ItemRender}
use Rattle.driver_passes.specs.Request.{RequestedCite, Request}
use Rattle.driver_positions.specs.FinalProperties.{items_finally}
use Rattle.mentions_ranges.specs.declared.suffixes.Suffix.{Suffix}
use Rattle.value_styles.specs.Style.{CitationValue}
use Rattle.mentions_tables.specs.Steps.{all_changed}
use Rattle.mentions_cites.specs.Arranging.{arranged_by, arranged_finally, arranged_request}
use Rattle.mentions_cites.specs.Cites.{ToldValue, told_at, told_cite, told_cites, told_means, told_request}
use Rattle.mentions_cites.specs.Mentions.{mention_index}
use Rattle.mentions_cites.specs.Repeats.{cites_with_shown, with_first_key, with_key, with_shown}
use Rattle.mentions_cites.specs.Requests.{plain_cite, plain_request, plain_requests, request_facts}
use Rattle.mentions_cites.specs.declared.mentions.ToldMention.{ToldMention}

-- ---- lists whose members are changed by others beside them

module _ {C X : Type 0} (f : C → X → X) where
  changed-keep : (Q : X → Type 0) → ((c : C) (x : X) → Q x → Q (f c x)) → (cs : List C) (xs : List X) → All Q xs → All Q (all_changed f cs xs)
  changed-keep Q keeps [] xs h = h
  changed-keep Q keeps (c ∷ cs) [] h = h
  changed-keep Q keeps (c ∷ cs) (x ∷ xs) h =
      All-cons Q (f c x) (all_changed f cs xs) (keeps c x (All-head Q x xs h)) (changed-keep Q keeps cs xs (All-tail Q x xs h))

  changed-same : {Y : Type 0} (g : X → Y) → ((c : C) (x : X) → g (f c x) ≡ g x) → (cs : List C) (xs : List X) → map g (all_changed f cs xs) ≡ map g xs
  changed-same g same [] xs = refl
  changed-same g same (c ∷ cs) [] = refl
  changed-same g same (c ∷ cs) (x ∷ xs) = λ i. same c x i ∷ changed-same g same cs xs i

  changed-by : (R : X → X → Type 0) → ((x : X) → R x x) → ((c : C) (x : X) → R x (f c x)) → (cs : List C) (xs : List X) → AllZip R xs (all_changed f cs xs)
  changed-by R self step [] [] = tt
  changed-by R self step [] (x ∷ xs) = (self x, changed-by R self step [] xs)
  changed-by R self step (c ∷ cs) [] = tt
  changed-by R self step (c ∷ cs) (x ∷ xs) = (step c x, changed-by R self step cs xs)

-- ---- arranging

or-stays : (a b : Bool) → a ≡ true → (a || b) ≡ true
or-stays true b h = refl
or-stays false b h = cc

as-it-was : {E P : Type 0} (c : CiteRender E P) → IsArranged c c
as-it-was c = record { same_request = refl; same_cites = refl; hidden_stays = λ k h. h }

module _ {E P L : Type 0} (numbers : List ℕ) where
  hidden-stays : (citation : CitationValue) (zs : List (FinalCite L × ArrangedCite)) (items : List (ItemRender E P)) (k : ℕ) → is_hidden items k ≡ true
      → is_hidden (all_changed (arranged_by numbers citation) zs items) k ≡ true
  hidden-stays citation [] items k h = h
  hidden-stays citation (z ∷ zs) [] k h = h
  hidden-stays citation (z ∷ zs) (i ∷ items) zero h = or-stays i.hidden z.1.is_inner h
  hidden-stays citation (z ∷ zs) (i ∷ items) (suc k) h = hidden-stays citation zs items k h

  arranges : (z : Arranged (FinalCite L) × List ArrangedCite) (c : CiteRender E P) → IsArranged c (arranged_request numbers z c)
  arranges z c = record {
    same_request = refl;
    same_cites = changed-same (arranged_by numbers c.request.style.citation) unarranged (λ y i. refl) (zip z.0.cites z.1) c.items;
    hidden_stays = hidden-stays c.request.style.citation (zip z.0.cites z.1) c.items;
  }

  pub all-arranged : (fs : List (Arranged (FinalCite L))) (xs : List (List ArrangedCite)) (cites : List (CiteRender E P)) → AllZip IsArranged cites (arranged_finally numbers fs xs cites)
  all-arranged fs xs cites = changed-by (arranged_request numbers) IsArranged as-it-was arranges (zip fs xs) cites

-- ---- what cites are told

-- as many are arranged as each request has
abbrev pub AreAsLong : {L : Type 0} → List (Arranged (FinalCite L)) → List (List ArrangedCite) → Type 0
AreAsLong = AllZip (λ f x. length x ≡ length f.cites)

-- what is known of a cite but for its locator, whatever it shows
abbrev pub Essence : Type 0
Essence = ℕ × (Bool × Option Suffix)

abbrev pub essence : {L : Type 0} → PlainCite L → Essence
essence c = (c.entry, (c.hidden, c.suffix))

-- it is that, by whatever a first cite is brought together with others
module _ {L : Type 0} where
  pub key-facts : (key : Option Shown) (r : Arranged (PlainCite L)) → (with_first_key key r).facts ≡ r.facts
  key-facts None r = refl
  key-facts (Some s) r = refl

  named-alike : (names : Option ℕ) (cites : List (PlainCite L)) (k : ℕ) → option_map essence (slice_get (with_key names cites) k) ≡ option_map essence (slice_get cites k)
  named-alike names [] k = refl
  named-alike names (c ∷ cites) zero = refl
  named-alike names (c ∷ cites) (suc k) = refl

  pub key-alike : (key : Option Shown) (r : Arranged (PlainCite L)) (k : ℕ) → option_map essence (slice_get (with_first_key key r).cites k) ≡ option_map essence (slice_get r.cites k)
  key-alike None r k = refl
  key-alike (Some s) r k = named-alike s.names r.cites k

-- nothing is arranged where there is nothing
arranged-none : {E P L : Type 0} (Q : CiteRender E P → Type 0) (numbers : List ℕ) (fs : List (Arranged (FinalCite L))) (xs : List (List ArrangedCite)) → All Q (arranged_finally numbers fs xs [])
arranged-none Q numbers [] xs = All-nil Q
arranged-none Q numbers (f ∷ fs) [] = All-nil Q
arranged-none Q numbers (f ∷ fs) (x ∷ xs) = All-nil Q

module _ {E P : Type 0} (eq : E → E → Bool) (listed : List E) (told : ToldValue) where
  -- it has the means of its mention
  abbrev pub HasMeans : ItemRender E P → Type 0
  HasMeans i = i.properties.speculative.means ≡ told_means told (place eq i.entry listed) i.properties.certain.is_first

  -- it has the number of its entry
  abbrev pub HasNumber : List ℕ → ItemRender E P → Type 0
  HasNumber numbers i = i.properties.speculative.citation_number ≡ slice_index_or numbers (place eq i.entry listed) 0

  -- what holds of the cites of each request holds of all
  joined-rows : (Q : ItemRender E P → Type 0) (cs : List (CiteRender E P)) → All (λ c. All Q c.items) cs → All Q (items_finally cs)
  joined-rows Q [] h = All-nil Q
  joined-rows Q (c ∷ cs) h = All-append Q c.items (items_finally cs) (All-head (λ c. All Q c.items) c cs h) (joined-rows Q cs (All-tail (λ c. All Q c.items) c cs h))

  module _ (mentions : List ToldMention) (suffixes : List (Option ℕ)) where
    module _ (r : Request E P) (notes : List CiteNotes) where
      abbrev pub plain_one : RequestedCite E P × CiteNotes → PlainCite (LocatorValue P)
      plain_one p = plain_cite mentions suffixes (place eq p.0.entry listed) p.0 p.1

      abbrev pub plain_cites : List (PlainCite (LocatorValue P))
      plain_cites = map plain_one (zip r.cites notes)

      -- it stands at its place, whatever it shows
      abbrev pub StandsThere : FinalCite (LocatorValue P) → Type 0
      StandsThere f = option_map essence (slice_get plain_cites f.placed.place) ≡ Some (essence f.cite)

      pub stand-there : (cites : List (PlainCite (LocatorValue P))) → ((k : ℕ) → option_map essence (slice_get cites k) ≡ option_map essence (slice_get plain_cites k)) → (order : List PlacedCite)
          → All StandsThere (cites_in_order cites order)
      stand-there cites alike [] = All-nil StandsThere
      stand-there cites alike (p ∷ order) = by (slice_get cites p.place) refl (stand-there cites alike order)
        where
          by : (o : Option (PlainCite (LocatorValue P))) → slice_get cites p.place ≡ o → All StandsThere (cites_in_order cites order)
              → All StandsThere (cons_option (option_map (with_place p) o) (cites_in_order cites order))
          by None e more = more
          by (Some c) e more = All-cons StandsThere (with_place p c) (cites_in_order cites order) (sym (alike p.place) ∙ ap (option_map essence) e) more

      shown-there : (s : Option Shown) (f : FinalCite (LocatorValue P)) → StandsThere f → StandsThere (with_shown s f)
      shown-there None f h = h
      shown-there (Some s) f h = h

      -- what is known of the cite that stands there
      pub found-there : (f : FinalCite (LocatorValue P)) (o : Option (RequestedCite E P × CiteNotes)) → StandsThere f → slice_get (zip r.cites notes) f.placed.place ≡ o
          → option_map essence (option_map plain_one o) ≡ Some (essence f.cite)
      found-there f o there e =
          sym (ap (option_map essence) (slice_get-map plain_one (zip r.cites notes) f.placed.place ∙ ap (option_map plain_one) e)) ∙ there

      means-one : (f : FinalCite (LocatorValue P)) (i : ItemRender E P) → StandsThere f → told_at told r notes f ≡ Some i → HasMeans i
      means-one f i there h = by (slice_get (zip r.cites notes) f.placed.place) refl h
        where
          by : (o : Option (RequestedCite E P × CiteNotes)) → slice_get (zip r.cites notes) f.placed.place ≡ o
              → option_map (λ p. told_cite told r.note_number f.cite.entry f.placed.place p.0 p.1) o ≡ Some i → HasMeans i
          by None e q = cc
          by (Some p) e q =
              let is : told_cite told r.note_number f.cite.entry f.placed.place p.0 p.1 ≡ i = same_Some _ i q in
              let same : essence (plain_one p) ≡ essence f.cite = same_Some (essence (plain_one p)) (essence f.cite) (found-there f (Some p) there e) in
              let number : f.cite.entry ≡ place eq p.0.entry listed = ap (λ (c : Essence). c.0) (sym same) in
              subst HasMeans is (ap (λ n. told_means told n p.1.is_first) number)

      means-all : (fs : List (FinalCite (LocatorValue P))) → All StandsThere fs → All HasMeans (filter_map (told_at told r notes) fs)
      means-all [] h = All-nil HasMeans
      means-all (f ∷ fs) h = by (told_at told r notes f) refl (means-all fs (All-tail StandsThere f fs h))
        where
          by : (o : Option (ItemRender E P)) → told_at told r notes f ≡ o → All HasMeans (filter_map (told_at told r notes) fs) → All HasMeans (cons_option o (filter_map (told_at told r notes) fs))
          by None e more = more
          by (Some i) e more = All-cons HasMeans i (filter_map (told_at told r notes) fs) (means-one f i (All-head StandsThere f fs h) e) more

      -- it has the number of its entry
      numbered-row : (numbers : List ℕ) (citation : CitationValue) (fs : List (FinalCite (LocatorValue P))) (xs : List ArrangedCite) → All StandsThere fs → length xs ≡ length fs
          → All (HasNumber numbers) (all_changed (arranged_by numbers citation) (zip fs xs) (filter_map (told_at told r notes) fs))
      numbered-row numbers citation [] xs h long = All-nil (HasNumber numbers)
      numbered-row numbers citation (f ∷ fs) [] h long = absurd (omega (arith, long))
      numbered-row numbers citation (f ∷ fs) (x ∷ xs) h long =
          by (slice_get (zip r.cites notes) f.placed.place) refl (numbered-row numbers citation fs xs (All-tail StandsThere f fs h) (omega (arith, long)))
        where
          there : StandsThere f
          there = All-head StandsThere f fs h

          rest : List (ItemRender E P)
          rest = filter_map (told_at told r notes) fs

          by : (o : Option (RequestedCite E P × CiteNotes)) → slice_get (zip r.cites notes) f.placed.place ≡ o
              → All (HasNumber numbers) (all_changed (arranged_by numbers citation) (zip fs xs) rest)
              → All (HasNumber numbers) (all_changed (arranged_by numbers citation) ((f, x) ∷ zip fs xs)
              (cons_option (option_map (λ p. told_cite told r.note_number f.cite.entry f.placed.place p.0 p.1) o) rest))
          by None e more = absurd (none-some (essence f.cite) (found-there f None there e))
          by (Some p) e more =
              let same : essence (plain_one p) ≡ essence f.cite = same_Some (essence (plain_one p)) (essence f.cite) (found-there f (Some p) there e) in
              let item : ItemRender E P = told_cite told r.note_number f.cite.entry f.placed.place p.0 p.1 in
              All-cons (HasNumber numbers) (arranged_by numbers citation (f, x) item) (all_changed (arranged_by numbers citation) (zip fs xs) rest)
              (ap (λ (c : Essence). slice_index_or numbers c.0 0) (sym same)) more

    -- the cites of requests in an order stand at their places
    abbrev pub AreStanding : List (Request E P) → List (List CiteNotes) → List (Arranged (FinalCite (LocatorValue P))) → Type 0
    AreStanding (r ∷ rs) (n ∷ ns) (f ∷ fs) = (f.facts ≡ request_facts r) × (All (StandsThere r n) f.cites × AreStanding rs ns fs)
    AreStanding _ _ _ = ⊤

    -- where first cites are brought together by what they show
    pub keyed-stand : (keys : List (Option Shown)) (rs : List (Request E P)) (ns : List (List CiteNotes))
        → AreStanding rs ns (map final_request (all_changed with_first_key keys (plain_requests mentions suffixes eq listed rs ns)))
    keyed-stand keys [] ns = tt
    keyed-stand keys (r ∷ rs) [] = tt
    keyed-stand [] (r ∷ rs) (n ∷ ns) =
        let plain = plain_request mentions suffixes eq listed r n in
        (refl, (stand-there r n plain.cites (λ k. refl) (final_order plain.facts.style plain.cites), keyed-stand [] rs ns))
    keyed-stand (key ∷ keys) (r ∷ rs) (n ∷ ns) =
        let plain = plain_request mentions suffixes eq listed r n in
        let own = with_first_key key plain in
        (key-facts key plain, (stand-there r n own.cites (key-alike key plain) (final_order own.facts.style own.cites), keyed-stand keys rs ns))

    -- whatever they show
    pub shown-stand : (shown : List (List (Option Shown))) (rs : List (Request E P)) (ns : List (List CiteNotes)) (fs : List (Arranged (FinalCite (LocatorValue P))))
        → AreStanding rs ns fs → AreStanding rs ns (all_changed cites_with_shown shown fs)
    shown-stand shown [] ns fs h = tt
    shown-stand shown (r ∷ rs) [] fs h = tt
    shown-stand [] (r ∷ rs) (n ∷ ns) fs h = h
    shown-stand (s ∷ shown) (r ∷ rs) (n ∷ ns) [] h = tt
    shown-stand (s ∷ shown) (r ∷ rs) (n ∷ ns) (f ∷ fs) h =
        (h.0, (changed-keep with_shown (StandsThere r n) (shown-there r n) s f.cites h.1.0, shown-stand shown rs ns fs h.1.1))

    abbrev RowHasNumbers : List ℕ → CiteRender E P → Type 0
    RowHasNumbers numbers c = All (HasNumber numbers) c.items

    numbered-rows : (numbers : List ℕ) (rs : List (Request E P)) (ns : List (List CiteNotes)) (fs : List (Arranged (FinalCite (LocatorValue P)))) (xs : List (List ArrangedCite))
        → AreStanding rs ns fs → AreAsLong fs xs → All (RowHasNumbers numbers) (arranged_finally numbers fs xs (told_cites told rs ns fs))
    numbered-rows numbers [] ns fs xs s h = arranged-none (RowHasNumbers numbers) numbers fs xs
    numbered-rows numbers (r ∷ rs) [] fs xs s h = arranged-none (RowHasNumbers numbers) numbers fs xs
    numbered-rows numbers (r ∷ rs) (n ∷ ns) [] xs s h = arranged-none {L = LocatorValue P} (RowHasNumbers numbers) numbers [] xs
    numbered-rows numbers (r ∷ rs) (n ∷ ns) (f ∷ fs) [] s h = absurd h
    numbered-rows numbers (r ∷ rs) (n ∷ ns) (f ∷ fs) (x ∷ xs) s h =
        All-cons (RowHasNumbers numbers) (arranged_request numbers (f, x) (told_request told r n f.cites)) (arranged_finally numbers fs xs (told_cites told rs ns fs))
        (numbered-row r n numbers r.style.citation f.cites x s.1.0 h.0)
        (numbered-rows numbers rs ns fs xs s.1.1 h.1)

    abbrev RowHasMeans : CiteRender E P → Type 0
    RowHasMeans c = All HasMeans c.items

    means-rows : (rs : List (Request E P)) (ns : List (List CiteNotes)) (fs : List (Arranged (FinalCite (LocatorValue P)))) → AreStanding rs ns fs → All RowHasMeans (told_cites told rs ns fs)
    means-rows [] ns fs s = All-nil RowHasMeans
    means-rows (r ∷ rs) [] fs s = All-nil RowHasMeans
    means-rows (r ∷ rs) (n ∷ ns) [] s = All-nil RowHasMeans
    means-rows (r ∷ rs) (n ∷ ns) (f ∷ fs) s =
        All-cons RowHasMeans (told_request told r n f.cites) (told_cites told rs ns fs) (means-all r n f.cites s.1.0) (means-rows rs ns fs s.1.1)

    -- also as they are arranged
    pub means-arranged : (rs : List (Request E P)) (ns : List (List CiteNotes)) (fs : List (Arranged (FinalCite (LocatorValue P)))) (numbers : List ℕ) (xs : List (List ArrangedCite))
        → AreStanding rs ns fs → All HasMeans (items_finally (arranged_finally numbers fs xs (told_cites told rs ns fs)))
    means-arranged rs ns fs numbers xs s =
        joined-rows HasMeans (arranged_finally numbers fs xs (told_cites told rs ns fs))
        (changed-keep (arranged_request numbers) RowHasMeans
        (λ z c h. changed-keep (arranged_by numbers c.request.style.citation) HasMeans (λ y i m. m) (zip z.0.cites z.1) c.items h)
        (zip fs xs) (told_cites told rs ns fs) (means-rows rs ns fs s))

    pub numbers-arranged : (rs : List (Request E P)) (ns : List (List CiteNotes)) (fs : List (Arranged (FinalCite (LocatorValue P)))) (numbers : List ℕ) (xs : List (List ArrangedCite))
        → AreStanding rs ns fs → AreAsLong fs xs → All (HasNumber numbers) (items_finally (arranged_finally numbers fs xs (told_cites told rs ns fs)))
    numbers-arranged rs ns fs numbers xs s long =
        joined-rows (HasNumber numbers) (arranged_finally numbers fs xs (told_cites told rs ns fs)) (numbered-rows numbers rs ns fs xs s long)

-- ---- by the account

module _ {X : Type 0} where
  first-turn : (xs ys : List X) (k : ℕ) → length xs ≡ length ys → slice_get (by_turns xs ys) (2 * k) ≡ slice_get xs k
  first-turn [] [] k h = refl
  first-turn [] (y ∷ ys) k h = absurd (omega (arith, h))
  first-turn (x ∷ xs) [] k h = absurd (omega (arith, h))
  first-turn (x ∷ xs) (y ∷ ys) zero h = refl
  first-turn (x ∷ xs) (y ∷ ys) (suc k) h =
      let at : 2 * suc k ≡ suc (suc (2 * k)) = omega arith in
      ap (slice_get (by_turns (x ∷ xs) (y ∷ ys))) at ∙ first-turn xs ys k (omega (arith, h))

  second-turn : (xs ys : List X) (k : ℕ) → length xs ≡ length ys → slice_get (by_turns xs ys) (2 * k + 1) ≡ slice_get ys k
  second-turn [] [] k h = refl
  second-turn [] (y ∷ ys) k h = absurd (omega (arith, h))
  second-turn (x ∷ xs) [] k h = absurd (omega (arith, h))
  second-turn (x ∷ xs) (y ∷ ys) zero h = refl
  second-turn (x ∷ xs) (y ∷ ys) (suc k) h =
      let at : 2 * suc k + 1 ≡ suc (suc (2 * k + 1)) = omega arith in
      ap (slice_get (by_turns (x ∷ xs) (y ∷ ys))) at ∙ second-turn xs ys k (omega (arith, h))

  -- the first mention of an entry, or its later one
  pub turn-of : (xs ys : List X) → length xs ≡ length ys → (k : ℕ) (is_first : Bool) → slice_get (by_turns xs ys) (mention_index k is_first) ≡ slice_get (cond is_first xs ys) k
  turn-of xs ys h k true = first-turn xs ys k h
  turn-of xs ys h k false = second-turn xs ys k h

-- equal entries stand at equal places
pub equal-places : {E : Type 0} (eq : E → E → Bool) (laws : IsEquivalence eq) (e : E) (xs ys : List E) → AreEqual eq laws xs ys → place eq e xs ≡ place eq e ys
equal-places eq laws e [] [] h = refl
equal-places eq laws e [] (y ∷ ys) h = absurd h
equal-places eq laws e (x ∷ xs) [] h = absurd h
equal-places eq laws e (x ∷ xs) (y ∷ ys) h = λ i. cond (not (test i)) (1 + equal-places eq laws e xs ys h.1 i) 0
  where
    test : eq e x ≡ eq e y
    test = laws.symm e x ∙ laws.congr x y e h.0 ∙ laws.symm y e
