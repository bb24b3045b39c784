-- Cites in their final order are those that were handed in, and show what their mentions show unless they repeat others.
use Rattle.std.proofs.Common.{◌≡◌, ℕ, zero, suc, ◌+◌, Bool, true, false, Option, Some, None, List, [], ◌∷◌, All, length, map, refl, ap, sym, subst, ◌∙◌, arith}
use Rattle.std.specs.Prelude.{⊤, if◌then◌else◌, option_map, slice_get, zip}
use Rattle.std.specs.List.{AllZip, cons_option, enumerate_from}
use Rattle.std.proofs.lemmas.List.Elements.{All-cons, All-head, All-nil, All-tail}
use Rattle.std.proofs.lemmas.Option.{none-some, same_Some, slice_get-map}
use Rattle.mentions_arranging.specs.Order.{cites_in_order, final_order, final_request, with_place}
use Rattle.mentions_arranging.specs.Repeating.{all_repeated, is_looked_at, repeated_at, repeated_where, repeating_cite, repeating_request}
use Rattle.mentions_arranging.specs.Requests.{Request as Arranged}
use Rattle.mentions_arranging.specs.declared.repeating.Repeated.{Repeated}
use Rattle.mentions_arranging.specs.declared.request.FinalCite.{FinalCite}
use Rattle.mentions_arranging.specs.declared.request.RequestedCite.{RequestedCite as PlainCite}
use Rattle.mentions_arranging.specs.declared.request.Shown.{Shown}
use Rattle.mentions_blocks.specs.declared.blocks.PlacedCite.{PlacedCite}
use Rattle.driver_entries.specs.Entries.{place}
use Rattle.driver_lookup.specs.Properties.{LocatorValue}
use Rattle.mentions_notes.specs.declared.notes.CiteNotes.{CiteNotes}
use Rattle.mentions_notes.specs.declared.repeats.Position.{Position}
use Rattle.driver_passes.specs.Request.{RequestedCite, Request}
use Rattle.mentions_tables.specs.Steps.{all_changed}
use Rattle.mentions_cites.specs.Mentions.{mention_of}
use Rattle.mentions_cites.specs.Repeats.{cites_with_shown, with_first_key, with_key, with_shown}
use Rattle.mentions_cites.specs.Requests.{plain_cite, plain_request, plain_requests, request_facts}
use Rattle.mentions_cites.specs.declared.mentions.ToldMention.{ToldMention}
use Rattle.mentions_laws.specs.Cites.{bare}

-- ---- lists whose members are changed by others beside them

module _ {C X : Type 0} (f : C → X → X) where
  changed-keep : (Q : X → Type 0) → ((c : C) (x : X) → Q x → Q (f c x)) → (cs : List C) (xs : List X) → All Q xs → All Q (all_changed f cs xs)
  changed-keep Q keeps [] xs h = h
  changed-keep Q keeps (c ∷ cs) [] h = h
  changed-keep Q keeps (c ∷ cs) (x ∷ xs) h =
      All-cons Q (f c x) (all_changed f cs xs) (keeps c x (All-head Q x xs h)) (changed-keep Q keeps cs xs (All-tail Q x xs h))

  changed-same : {Y : Type 0} (g : X → Y) → ((c : C) (x : X) → g (f c x) ≡ g x) → (cs : List C) (xs : List X) → map g (all_changed f cs xs) ≡ map g xs
  changed-same g same [] xs = refl
  changed-same g same (c ∷ cs) [] = refl
  changed-same g same (c ∷ cs) (x ∷ xs) = λ i. same c x i ∷ changed-same g same cs xs i

module _ {L : Type 0} where
  -- what cites show changes neither where they stand nor what they repeat
  same-repeating : (s : Option Shown) (f : FinalCite L) → repeating_cite (with_shown s f) ≡ repeating_cite f
  same-repeating None f = refl
  same-repeating (Some s) f = refl

  same-place : (s : Option Shown) (f : FinalCite L) → (with_shown s f).placed ≡ f.placed
  same-place None f = refl
  same-place (Some s) f = refl

  pub still-repeating : (shown : List (List (Option Shown))) (fs : List (Arranged (FinalCite L))) → map repeating_request (all_changed cites_with_shown shown fs) ≡ map repeating_request fs
  still-repeating shown fs =
      changed-same cites_with_shown repeating_request (λ s f. ap (λ cs. record { note = f.facts.note; cites = cs }) (changed-same with_shown repeating_cite same-repeating s f.cites)) shown fs

  pub still-placed : (shown : List (Option Shown)) (fs : List (FinalCite L)) → map (λ f. f.placed) (all_changed with_shown shown fs) ≡ map (λ f. f.placed) fs
  still-placed = changed-same with_shown (λ f. f.placed) same-place

-- what cites show where they repeat these
abbrev pub shown_row : (ℕ × Option Repeated → Option Shown) → List (Option Repeated) → List (Option Shown)
shown_row shows repeats = map shows (enumerate_from 0 repeats)

-- a cite but for the names by which it is brought together with others
abbrev keyless : {L : Type 0} → PlainCite L → PlainCite L
keyless c = record c { key = None }

module _ {L : Type 0} where
  bare-keyless : (o : Option (PlainCite L)) → option_map bare (option_map keyless o) ≡ option_map bare o
  bare-keyless None = refl
  bare-keyless (Some c) = refl

  named-alike : (names : Option ℕ) (cites : List (PlainCite L)) (k : ℕ) → option_map keyless (slice_get (with_key names cites) k) ≡ option_map keyless (slice_get cites k)
  named-alike names [] k = refl
  named-alike names (c ∷ cites) zero = refl
  named-alike names (c ∷ cites) (suc k) = refl

  key-alike : (key : Option Shown) (r : Arranged (PlainCite L)) (k : ℕ) → option_map keyless (slice_get (with_first_key key r).cites k) ≡ option_map keyless (slice_get r.cites k)
  key-alike None r k = refl
  key-alike (Some s) r k = named-alike s.names r.cites k

  key-facts : (key : Option Shown) (r : Arranged (PlainCite L)) → (with_first_key key r).facts ≡ r.facts
  key-facts None r = refl
  key-facts (Some s) r = refl

module _ {E P : Type 0} (eq : E → E → Bool) (listed : List E) (mentions : List ToldMention) (suffixes : List (Option ℕ)) where
  -- it shows what its mention shows
  abbrev pub HasShown : PlainCite (LocatorValue P) → Type 0
  HasShown c = c.shown ≡ (mention_of mentions c.entry c.is_first).shown

  abbrev pub ShowsMention : FinalCite (LocatorValue P) → Type 0
  ShowsMention f = HasShown f.cite

  module _ (r : Request E P) (notes : List CiteNotes) where
    abbrev pub plain_one : RequestedCite E P × CiteNotes → PlainCite (LocatorValue P)
    plain_one p = plain_cite mentions suffixes (place eq p.0.entry listed) p.0 p.1

    abbrev pub plain_cites : List (PlainCite (LocatorValue P))
    plain_cites = map plain_one (zip r.cites notes)

    -- it stands at its place, whatever it shows
    abbrev pub Stands : FinalCite (LocatorValue P) → Type 0
    Stands f = option_map bare (slice_get plain_cites f.placed.place) ≡ Some (bare f.cite)

    module _ (cites : List (PlainCite (LocatorValue P))) (alike : (k : ℕ) → option_map keyless (slice_get cites k) ≡ option_map keyless (slice_get plain_cites k)) where
      stand-one : (p : PlacedCite) (c : PlainCite (LocatorValue P)) → slice_get cites p.place ≡ Some c → Stands (with_place p c)
      stand-one p c e =
          sym (bare-keyless (slice_get plain_cites p.place)) ∙ ap (option_map bare) (sym (alike p.place) ∙ ap (option_map keyless) e)

      show-one : (p : PlacedCite) (c : PlainCite (LocatorValue P)) → slice_get cites p.place ≡ Some c → HasShown c
      show-one p c e = by (slice_get (zip r.cites notes) p.place) refl
        where
          same : (o : Option (RequestedCite E P × CiteNotes)) → slice_get (zip r.cites notes) p.place ≡ o → option_map keyless (option_map plain_one o) ≡ Some (keyless c)
          same o h = ap (option_map keyless) (sym (slice_get-map plain_one (zip r.cites notes) p.place ∙ ap (option_map plain_one) h)) ∙ sym (alike p.place) ∙ ap (option_map keyless) e

          by : (o : Option (RequestedCite E P × CiteNotes)) → slice_get (zip r.cites notes) p.place ≡ o → HasShown c
          by None h = absurd (none-some (keyless c) (same None h))
          by (Some q) h = subst HasShown (same_Some (keyless (plain_one q)) (keyless c) (same (Some q) h)) refl

      stand-all : (order : List PlacedCite) → All Stands (cites_in_order cites order)
      stand-all [] = All-nil Stands
      stand-all (p ∷ order) = by (slice_get cites p.place) refl (stand-all order)
        where
          by : (o : Option (PlainCite (LocatorValue P))) → slice_get cites p.place ≡ o → All Stands (cites_in_order cites order) → All Stands (cons_option (option_map (with_place p) o) (cites_in_order cites order))
          by None e more = more
          by (Some c) e more = All-cons Stands (with_place p c) (cites_in_order cites order) (stand-one p c e) more

      show-all : (order : List PlacedCite) → All ShowsMention (cites_in_order cites order)
      show-all [] = All-nil ShowsMention
      show-all (p ∷ order) = by (slice_get cites p.place) refl (show-all order)
        where
          by : (o : Option (PlainCite (LocatorValue P))) → slice_get cites p.place ≡ o → All ShowsMention (cites_in_order cites order)
              → All ShowsMention (cons_option (option_map (with_place p) o) (cites_in_order cites order))
          by None e more = more
          by (Some c) e more = All-cons ShowsMention (with_place p c) (cites_in_order cites order) (show-one p c e) more

    stand-shown : (s : Option Shown) (f : FinalCite (LocatorValue P)) → Stands f → Stands (with_shown s f)
    stand-shown None f h = h
    stand-shown (Some s) f h = h

  -- ---- of all requests

  abbrev pub AreStanding : List (Request E P) → List (List CiteNotes) → List (Arranged (FinalCite (LocatorValue P))) → Type 0
  AreStanding (r ∷ rs) (n ∷ ns) (f ∷ fs) = (f.facts ≡ request_facts r) × (All (Stands r n) f.cites × AreStanding rs ns fs)
  AreStanding _ _ _ = ⊤

  pub keyed-stand : (keys : List (Option Shown)) (rs : List (Request E P)) (ns : List (List CiteNotes))
      → AreStanding rs ns (map final_request (all_changed with_first_key keys (plain_requests mentions suffixes eq listed rs ns)))
  keyed-stand keys [] ns = tt
  keyed-stand keys (r ∷ rs) [] = tt
  keyed-stand [] (r ∷ rs) (n ∷ ns) =
      let plain = plain_request mentions suffixes eq listed r n in
      (refl, (stand-all r n plain.cites (λ k. refl) (final_order plain.facts.style plain.cites), keyed-stand [] rs ns))
  keyed-stand (key ∷ keys) (r ∷ rs) (n ∷ ns) =
      let plain = plain_request mentions suffixes eq listed r n in
      let own = with_first_key key plain in
      (key-facts key plain, (stand-all r n own.cites (key-alike key plain) (final_order own.facts.style own.cites), keyed-stand keys rs ns))

  pub shown-stand : (shown : List (List (Option Shown))) (rs : List (Request E P)) (ns : List (List CiteNotes)) (fs : List (Arranged (FinalCite (LocatorValue P))))
      → AreStanding rs ns fs → AreStanding rs ns (all_changed cites_with_shown shown fs)
  shown-stand shown [] ns fs h = tt
  shown-stand shown (r ∷ rs) [] fs h = tt
  shown-stand [] (r ∷ rs) (n ∷ ns) fs h = h
  shown-stand (s ∷ shown) (r ∷ rs) (n ∷ ns) [] h = tt
  shown-stand (s ∷ shown) (r ∷ rs) (n ∷ ns) (f ∷ fs) h = (h.0, (changed-keep with_shown (Stands r n) (stand-shown r n) s f.cites h.1.0, shown-stand shown rs ns fs h.1.1))

  abbrev pub AllShow : Arranged (FinalCite (LocatorValue P)) → Type 0
  AllShow f = All ShowsMention f.cites

  pub keyed-show : (keys : List (Option Shown)) (rs : List (Request E P)) (ns : List (List CiteNotes))
      → All AllShow (map final_request (all_changed with_first_key keys (plain_requests mentions suffixes eq listed rs ns)))
  keyed-show [] [] ns = All-nil AllShow
  keyed-show (key ∷ keys) [] ns = All-nil AllShow
  keyed-show [] (r ∷ rs) [] = All-nil AllShow
  keyed-show (key ∷ keys) (r ∷ rs) [] = All-nil AllShow
  keyed-show [] (r ∷ rs) (n ∷ ns) =
      let plain = plain_request mentions suffixes eq listed r n in
      All-cons AllShow (final_request plain) (map final_request (plain_requests mentions suffixes eq listed rs ns)) (show-all r n plain.cites (λ k. refl) (final_order plain.facts.style plain.cites)) (keyed-show [] rs ns)
  keyed-show (key ∷ keys) (r ∷ rs) (n ∷ ns) =
      let plain = plain_request mentions suffixes eq listed r n in
      let own = with_first_key key plain in
      All-cons AllShow (final_request own) (map final_request (all_changed with_first_key keys (plain_requests mentions suffixes eq listed rs ns)))
      (show-all r n own.cites (key-alike key plain) (final_order own.facts.style own.cites)) (keyed-show keys rs ns)

  -- ---- what cites that repeat no other show

  abbrev pub ShowsUnlessRepeated : FinalCite (LocatorValue P) → Position → Type 0
  ShowsUnlessRepeated f p = p ≡ Position.Different → ShowsMention f

  none-repeated : (looked : Bool) (c : PlainCite (LocatorValue P)) (p : Position) → p ≡ Position.Different → repeated_where looked (c, p) ≡ None
  none-repeated looked c p e = ap (λ q. repeated_where looked (c, q)) e ∙ by looked
    where
      by : (b : Bool) → (if b then repeated_at c Position.Different else None) ≡ None
      by true = refl
      by false = refl

  module _ (shows : ℕ × Option Repeated → Option Shown) (none : (k : ℕ) → shows (k, None) ≡ None) where
    row-shows : (looked : Bool) (k : ℕ) (fs : List (FinalCite (LocatorValue P))) (ps : List Position) → length ps ≡ length fs → All ShowsMention fs
        → AllZip ShowsUnlessRepeated (all_changed with_shown (map shows (enumerate_from k (map (λ c. repeated_where looked (c.0.cite, c.1)) (zip fs ps)))) fs) ps
    row-shows looked k [] [] long h = tt
    row-shows looked k [] (p ∷ ps) long h = absurd (omega (arith, long))
    row-shows looked k (f ∷ fs) [] long h = absurd (omega (arith, long))
    row-shows looked k (f ∷ fs) (p ∷ ps) long h = (
      (λ e. subst ShowsMention (sym (ap (λ o. with_shown (shows (k, o)) f) (none-repeated looked f.cite p e) ∙ ap (λ o. with_shown o f) (none k))) (All-head ShowsMention f fs h)),
      row-shows looked (k + 1) fs ps (omega (arith, long)) (All-tail ShowsMention f fs h),
    )

    abbrev pub RowShows : Arranged (FinalCite (LocatorValue P)) → List Position → Type 0
    RowShows f ps = AllZip ShowsUnlessRepeated f.cites ps

    pub rows-show : (fs : List (Arranged (FinalCite (LocatorValue P)))) (ps : List (List Position)) → AllZip (λ f p. length p ≡ length f.cites) fs ps → All AllShow fs
        → AllZip RowShows (all_changed cites_with_shown (map (shown_row shows) (map all_repeated (zip fs ps))) fs) ps
    rows-show [] [] long h = tt
    rows-show [] (p ∷ ps) long h = absurd long
    rows-show (f ∷ fs) [] long h = absurd long
    rows-show (f ∷ fs) (p ∷ ps) long h =
        (row-shows (is_looked_at f.facts (length f.cites)) 0 f.cites p long.0 (All-head AllShow f fs h), rows-show fs ps long.1 (All-tail AllShow f fs h))
