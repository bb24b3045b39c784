-- One step of the walks over the cites of a request.
use Rattle.std.proofs.Common.{◌≡◌, ℕ, zero, suc, ◌+◌, ◌<◌, Bool, true, List, [], ◌∷◌, ◌++◌, Option, Some, is_some, length, map, take, drop, get_or, set, Vec, Global, refl, ap, sym, ◌∙◌, arith}
use Rattle.std.specs.Cmp.{IsEquivalence}
use Rattle.std.specs.Option.{ForSome, option_and, option_or}
use Rattle.std.proofs.lemmas.List.{get_or-map, length-map, take_at, take_more}
use Rattle.std.proofs.lemmas.List.Folds.{list_any_at}
use Rattle.std.proofs.lemmas.Simd.{map-map}
use Rattle.driver_entries.specs.Entries.{is_in, place}
use Rattle.driver_entries.specs.Table.{Table, places_in}
use Rattle.driver_entries.proofs.ListedPlaces.{place-within}
use Rattle.driver_passes.specs.Request.{RequestedCite, Request, entries_of}
use Rattle.driver_positions.specs.Seen.{IsTableOf, seen_of}
use Rattle.driver_positions.specs.declared.first.Seen.{Seen}
use Rattle.driver_positions.specs.FirstProperties.{notes_entry}
use Rattle.driver_positions.proofs.Known.{and_false, cited-more, known-at, noted-more, unnoted}
use Rattle.driver_positions.proofs.LastPlaces.{last_place-below}
use Rattle.driver_lookup.specs.declared.properties.CertainCiteProperties.{CertainCiteProperties}
use Rattle.driver_lookup.specs.declared.state.IbidState.{IbidState}
use Rattle.driver_passes.specs.declared.first.FirstProperties.{FirstProperties}
use Rattle.driver_positions.proofs.Tables.{row-is, table-lists, table-once}

-- a member at each place
pub member-at : {X : Type 0} (xs : List X) (k : ℕ) → k < length xs → (x : X) × (x ≡ get_or xs k x)
member-at [] k h = absurd (omega arith)
member-at (x ∷ xs) zero h = (x, refl)
member-at (x ∷ xs) (suc k) h = member-at xs k (omega arith)

module _ {E P : Type 0} (eq : E → E → Bool) (laws : IsEquivalence eq) (before : List (Request E P)) (r : Request E P) (table : Table E) (of : IsTableOf eq before r table) where
  -- there are as many cites as places
  pub cite-count : (ps : List ℕ) → ps ≡ places_in eq table.entries r.cites → length ps ≡ length r.cites
  cite-count ps are = ap length are ∙ length-map (entries_of r.cites) (λ e. place eq e table.entries) ∙ length-map r.cites (λ d. d.entry)

  -- the cite c of r stands at k
  module _ (k : ℕ) (c : RequestedCite E P) (within : k < length r.cites) (here : c ≡ get_or r.cites k c) where
    pub cite-there : is_in eq c.entry table.entries ≡ true
    cite-there = table-lists eq laws before r table of c.entry listed
      where
        listed : is_in eq c.entry (entries_of r.cites) ≡ true
        listed =
            let inside : k < length (entries_of r.cites) = omega (arith, length-map r.cites (λ d. d.entry)) in
            let at : get_or (entries_of r.cites) k c.entry ≡ c.entry = get_or-map (λ d. d.entry) r.cites k c c.entry within ∙ ap (λ d. d.entry) (sym here) in
            list_any_at (eq c.entry) (entries_of r.cites) k c.entry inside (ap (λ e. eq c.entry e) at ∙ laws.refl c.entry)

    -- the place of its entry
    pub cite-place : (ps : List ℕ) → ps ≡ places_in eq table.entries r.cites → (p : ℕ) → get_or ps k p ≡ place eq c.entry table.entries
    cite-place ps are p =
        ap (λ l. get_or l k p) (are ∙ map-map (λ e. place eq e table.entries) (λ d. d.entry) r.cites)
        ∙ get_or-map (λ d. place eq d.entry table.entries) r.cites k c p within ∙ ap (λ d. place eq d.entry table.entries) (sym here)

    pub cite-within : (p n : ℕ) → p ≡ place eq c.entry table.entries → length table.entries ≡ n → p < n
    cite-within p n at count = omega (arith, place-within eq laws c.entry table.entries cite-there)

    -- what is known of its entry
    pub cite-known : (cs : List E) (rs : List (Request E P)) (p : ℕ) → p ≡ place eq c.entry table.entries → (seen : List Seen) → seen ≡ map (seen_of eq cs rs) table.entries
        → (d : Seen) → get_or seen p d ≡ seen_of eq cs rs c.entry
    cite-known cs rs p at seen are d =
        ap (λ l. get_or l p d) are ∙ ap (λ q. get_or (map (seen_of eq cs rs) table.entries) q d) at ∙ known-at eq laws cs rs c.entry table.entries cite-there d

    -- its entry is cited then
    pub cite-cited : (cs : List E) (p : ℕ) → p ≡ place eq c.entry table.entries → (seen : List Seen) → seen ≡ map (seen_of eq cs before) table.entries
        → (d : Seen) → set seen p (record (get_or seen p d) { cited = true }) ≡ map (seen_of eq (cs ++ c.entry ∷ []) before) table.entries
    cite-cited cs p at seen are d =
        let s : Seen = get_or seen p d in
        ap (λ l. set l p (record s { cited = true })) are ∙ ap (λ q. set (map (seen_of eq cs before) table.entries) q (record s { cited = true })) at
        ∙ cited-more eq laws cs before c.entry table.entries (table-once eq laws before r table of) cite-there s (cite-known cs before p at seen are d)

    -- and noted, where r has a note number
    pub cite-noted : (cs : List E) (p : ℕ) → p ≡ place eq c.entry table.entries → (seen : List Seen)
        → seen ≡ map (seen_of eq cs (before ++ record r { cites = take k r.cites } ∷ [])) table.entries → (d : Seen) (first last : Option ℕ)
        → first ≡ option_or (get_or seen p d).first_note r.note_number → last ≡ option_or (option_and r.note_number (Some (length before))) (get_or seen p d).last_noted
        → set seen p (record (get_or seen p d) { first_note = first; last_noted = last }) ≡ map (seen_of eq cs (before ++ record r { cites = take (k + 1) r.cites } ∷ [])) table.entries
    cite-noted cs p at seen are d first last is-first is-last =
        let rs = before ++ record r { cites = take k r.cites } ∷ [] in
        let s : Seen = get_or seen p d in
        let t : Seen = record s { first_note = option_or s.first_note r.note_number; last_noted = option_or (option_and r.note_number (Some (length before))) s.last_noted } in
        let more : take k r.cites ++ c ∷ [] ≡ take (k + 1) r.cites = sym (take_more r.cites k c within ∙ ap (λ e. take k r.cites ++ e ∷ []) (sym here)) in
        ap (λ (f : Option ℕ). set seen p (record s { first_note = f; last_noted = last })) is-first
        ∙ ap (λ (l : Option ℕ). set seen p (record s { first_note = option_or s.first_note r.note_number; last_noted = l })) is-last
        ∙ ap (λ l. set l p t) are ∙ ap (λ q. set (map (seen_of eq cs rs) table.entries) q t) at
        ∙ noted-more eq laws cs before r (take k r.cites) c table.entries (table-once eq laws before r table of) cite-there s (cite-known cs rs p at seen are d)
        ∙ ap (λ js. map (seen_of eq cs (before ++ record r { cites = js } ∷ [])) table.entries) more

  -- nothing of r is noted at first
  pub none-noted : (cs : List E) → map (seen_of eq cs before) table.entries ≡ map (seen_of eq cs (before ++ record r { cites = [] } ∷ [])) table.entries
  none-noted cs = unnoted eq laws cs before (record r { cites = [] }) table.entries (λ e. and_false (is_some r.note_number))

  -- the last noted request stands before r
  pub noted-before : (cs : List E) (e : E) (s : Seen) → s ≡ seen_of eq cs before e → (n : ℕ) → length before ≡ n → ForSome s.last_noted (λ k. k < n)
  noted-before cs e s is n count = λ k h.
      let below : k < length before = last_place-below (notes_entry eq e) before k (sym (ap (λ t. t.last_noted) is) ∙ h) in
      omega arith

pub properties-same : {c d : CertainCiteProperties} {m n : ℕ} {s t : IbidState} → c ≡ d → m ≡ n → s ≡ t
    → let p : FirstProperties = record { certain = c; number = m; ibid = s } in p ≡ record { certain = d; number = n; ibid = t }
properties-same p q r = rw (p, q, r) refl

-- the same in a list that is the same
pub moved : {X : Type 0} (xs ys : List X) (k : ℕ) (x : X) → ys ≡ xs → k < length ys → x ≡ get_or ys k x → (k < length xs) × (x ≡ get_or xs k x)
moved xs ys k x same within here = (omega (arith, ap length same), here ∙ ap (λ l. get_or l k x) same)

-- the item x of the request stands at k, and shows the cite `view x`
module _ {E P X : Type 0} (eq : E → E → Bool) (laws : IsEquivalence eq) (before : List (Request E P)) (r : Request E P) (table : Table E) (of : IsTableOf eq before r table)
    (view : X → RequestedCite E P) (xs : List X) (shown : r.cites ≡ map view xs) (k : ℕ) (x : X) (within : k < length xs) (here : x ≡ get_or xs k x) where
  pub shown-within : k < length r.cites
  shown-within = omega (arith, ap length shown, length-map xs view)

  pub shown-here : view x ≡ get_or r.cites k (view x)
  shown-here = ap view here ∙ sym (get_or-map view xs k x (view x) within) ∙ ap (λ l. get_or l k (view x)) (sym shown)

  module _ (rows : List (Vec ℕ Global)) (are : map (λ ps. ps.items) rows ≡ table.places) (n : ℕ) (count : length before ≡ n) (row : Vec ℕ Global) (at : row ≡ get_or rows n row) where
    pub row-within : k < length row.items
    row-within = omega (arith, cite-count eq laws before r table of row.items (row-is eq laws before r table of rows are n count row at), shown-within)

    module _ (p : ℕ) (read : p ≡ get_or row.items k p) where
      pub entry-at : p ≡ place eq (view x).entry table.entries
      entry-at = read ∙ cite-place eq laws before r table of k (view x) shown-within shown-here row.items (row-is eq laws before r table of rows are n count row at) p

      pub entry-within : (m : ℕ) → length table.entries ≡ m → p < m
      entry-within m all = cite-within eq laws before r table of k (view x) shown-within shown-here p m entry-at all

-- a list that was lent and came back
pub refilled : {X : Type 0} (ws xs : List X) (n : ℕ) → length ws ≡ n → take n (ws ++ drop (length ws) xs) ≡ ws
refilled ws xs n h = take_at ws (drop (length ws) xs) n h
