-- The homes of the bibliography's entries, from the first cites.
use Rattle.std.proofs.Common.{◌≡◌, ℕ, suc, ◌+◌, Bool, true, Option, Some, None, List, [], ◌∷◌, ◌++◌, filter, length, map, refl, ap, sym, ◌∙◌, arith, true≢false}
use Rattle.std.specs.Prelude.{filter_map, is_some, slice_get}
use Rattle.std.specs.Cmp.{IsEquivalence}
use Rattle.std.specs.List.{cons_option}
use Rattle.std.proofs.lemmas.List.{map-append}
use Rattle.std.proofs.lemmas.Simd.{map-map}
use Rattle.driver_entries.specs.Entries.{distinct, is_in, place}
use Rattle.driver_entries.specs.Listed.{IsListingOf, Listed}
use Rattle.driver_entries.proofs.Distinct.{is_in-distinct}
use Rattle.driver_entries.proofs.ListedPlaces.{all-cited}
use Rattle.driver_entries.proofs.Placing.{all_in, left, right}
use Rattle.mentions_notes.specs.Notes.{all_notes}
use Rattle.mentions_notes.specs.declared.notes.CiteNotes.{CiteNotes}
use Rattle.driver_passes.specs.Request.{RequestedCite, Request, cited, cites_of}
use Rattle.mentions_cited.specs.Handed.{handed_cite, handed_cites, notes_of_cites}
use Rattle.mentions_cited.specs.Homes.{HomeValue, home, homes_of, standing_cites}
use Rattle.mentions_cited.specs.Steps.{is_first_cite}
use Rattle.mentions_cited.proofs.Firsts.{alike, firsts-kept, first-at, found}
use Rattle.mentions_cited.proofs.Handing.{counted, named, notes-count}
use Rattle.mentions_cited.proofs.Standing.{entries-standing, entry_of, notes-standing, notes_of}
use Rattle.mentions_cited.proofs.Telling.{firsts-told, name_of}

filter_map-same : {X Y Z : Type 0} (g : Y → Option Z) (h : X → Y) (f : X → Option Z) → ((x : X) → g (h x) ≡ f x) → (xs : List X) → filter_map g (map h xs) ≡ filter_map f xs
filter_map-same g h f same [] = refl
filter_map-same g h f same (x ∷ xs) = λ i. cons_option (same x i) (filter_map-same g h f same xs i)

cons-some : {X : Type 0} (o : Option X) (xs : List X) → is_some o ≡ true → length (cons_option o xs) ≡ length xs + 1
cons-some None xs h = absurd (true≢false (sym h))
cons-some (Some x) xs h = omega arith

module _ {E P : Type 0} (eq : E → E → Bool) (laws : IsEquivalence eq) (rs : List (Request E P)) (listed : List E) (l : Listed) (is : IsListingOf eq (distinct eq (cited rs)) listed l) where
  abbrev notes : List CiteNotes
  notes = all_notes (handed_cites eq listed rs)

  abbrev all : List (HomeValue E P)
  all = standing_cites rs (notes_of_cites eq listed rs)

  handed-count : length (handed_cites eq listed rs) ≡ length (cites_of rs)
  handed-count = ap length (sym (named eq (distinct eq (cited rs)) l listed is rs)) ∙ counted eq (distinct eq (cited rs)) l rs

  notes-long : length notes ≡ length (cites_of rs)
  notes-long = notes-count (handed_cites eq listed rs) ∙ handed-count

  all-entries : map entry_of all ≡ cited rs
  all-entries = entries-standing rs notes notes-long

  same-members : (e : E) → is_in eq e listed ≡ is_in eq e (cited rs)
  same-members e = is.same e ∙ is_in-distinct eq laws e (cited rs)

  -- the names of all cites
  names-in : (r : Request E P) (cs : List (RequestedCite E P)) → map name_of (map (handed_cite eq listed r) cs) ≡ map (λ e. place eq e listed) (map (λ c. c.entry) cs)
  names-in r [] = refl
  names-in r (c ∷ cs) = ap (λ ns. place eq c.entry listed ∷ ns) (names-in r cs)

  names-of : (qs : List (Request E P)) → map name_of (handed_cites eq listed qs) ≡ map (λ e. place eq e listed) (cited qs)
  names-of [] = refl
  names-of (r ∷ qs) =
      map-append name_of (map (handed_cite eq listed r) r.cites) (handed_cites eq listed qs)
      ∙ (λ i. names-in r r.cites i ++ names-of qs i)
      ∙ sym (map-append (λ e. place eq e listed) (map (λ c. c.entry) r.cites) (cited qs))

  names : map name_of (handed_cites eq listed rs) ≡ map (λ c. place eq (entry_of c) listed) all
  names = names-of rs ∙ ap (map (λ e. place eq e listed)) (sym all-entries) ∙ map-map (λ e. place eq e listed) entry_of all

  -- those that are the first of their entries
  firsts-are : filter is_first_cite all ≡ distinct (alike eq laws entry_of) all
  firsts-are =
      firsts-kept eq laws entry_of is_first_cite [] all
      (firsts-told eq laws entry_of notes_of listed (handed_cites eq listed rs) all names (notes-standing rs notes notes-long)
      (ap (all_in eq laws listed) all-entries ∙ all-cited eq laws listed (cited rs) (λ e. sym (same-members e))))

  -- the one that stands at an entry's place in the table
  home-at : (e : E) → slice_get (filter is_first_cite all) (place eq e (distinct eq (cited rs))) ≡ home eq listed rs e
  home-at e =
      (λ i. slice_get (firsts-are i) (place eq e (distinct eq (sym all-entries i)))) ∙ first-at eq laws entry_of e all

  pub homes-found : (rows : List (List CiteNotes)) (places : List ℕ) (found : List (HomeValue E P)) → rows ≡ notes_of_cites eq listed rs → places ≡ l.order
      → found ≡ filter_map (slice_get (filter is_first_cite (standing_cites rs rows))) places → found ≡ homes_of eq listed rs
  homes-found rows places found same order made =
      made ∙ (λ i. filter_map (slice_get (filter is_first_cite (standing_cites rs (same i)))) ((order ∙ ap (λ t. t.order) is.listed) i))
      ∙ filter_map-same (slice_get (filter is_first_cite all)) (λ e. place eq e (distinct eq (cited rs))) (home eq listed rs) home-at listed

  -- each has one
  length-homes : (es : List E) → all_in eq laws (cited rs) es ≡ true → length (filter_map (home eq listed rs) es) ≡ length es
  length-homes [] inside = refl
  length-homes (e ∷ es) inside =
      let there : is_some (home eq listed rs e) ≡ true =
      found eq laws entry_of e all ∙ ap (is_in eq e) all-entries ∙ left (is_in eq e (cited rs)) (all_in eq laws (cited rs) es) inside in
      let more = length-homes es (right (is_in eq e (cited rs)) (all_in eq laws (cited rs) es) inside) in
      let next : length (filter_map (home eq listed rs) es) + 1 ≡ suc (length es) = omega (arith, more) in
      cons-some (home eq listed rs e) (filter_map (home eq listed rs) es) there ∙ next

  pub homes-count : length (homes_of eq listed rs) ≡ length listed
  homes-count = length-homes listed (all-cited eq laws (cited rs) listed same-members)
