-- The cites of all requests, as their entries' places name them.
use Rattle.std.proofs.Common.{◌≡◌, ℕ, ◌+◌, Bool, List, [], ◌∷◌, ◌++◌, Vec, Global, length, map, refl, ap, sym, ◌∙◌, arith}
use Rattle.std.specs.List.{enumerate_from}
use Rattle.std.specs.Prelude.{take}
use Rattle.std.proofs.lemmas.List.{length-append, length-map}
use Rattle.std.proofs.lemmas.List.FromFn.{length-enumerate_from}
use Rattle.std.proofs.lemmas.Simd.{map-map}
use Rattle.driver_entries.specs.Entries.{place}
use Rattle.driver_entries.specs.Listed.{IsListingOf, Listed}
use Rattle.driver_entries.specs.Table.{Table, places_in, table_of}
use Rattle.mentions_notes.specs.Notes.{all_notes, notes_behind}
use Rattle.mentions_notes.specs.declared.notes.HandedCite.{HandedCite}
use Rattle.driver_passes.specs.Request.{RequestedCite, Request, cites_of, entries_of}
use Rattle.mentions_cited.specs.Handed.{handed_cite, handed_cites}
use Rattle.mentions_cited.specs.Steps.{handed_at, handed_by}

module _ {E P : Type 0} (eq : E → E → Bool) where
  -- the rows of the table of requests
  pub rows-are : {X : Type 0} (view : X → Request E P) (xs : List X) (table : Table E) (rows : List (Vec ℕ Global)) → table ≡ table_of eq (map view xs) → map (λ ps. ps.items) rows ≡ table.places
      → map (λ ps. ps.items) rows ≡ map (λ x. places_in eq table.entries (view x).cites) xs
  rows-are view xs table rows is are =
      are ∙ ap (λ t. t.places) is ∙ ap (λ es. map (λ r. places_in eq es r.cites) (map view xs)) (sym (ap (λ t. t.entries) is))
      ∙ map-map (λ r. places_in eq table.entries r.cites) view xs

module _ {E P : Type 0} (eq : E → E → Bool) (entries : List E) where
  module _ (l : Listed) where
    pub counted : (rs : List (Request E P)) → length (handed_by eq entries l rs) ≡ length (cites_of rs)
    counted [] = refl
    counted (r ∷ rs) =
        let row = map (handed_at l r) (places_in eq entries r.cites) in
        let own : length row ≡ length r.cites = length-map (places_in eq entries r.cites) (handed_at l r) ∙ length-map (entries_of r.cites) (λ e. place eq e entries) ∙ length-map r.cites (λ c. c.entry) in
        let more = counted rs in
        let both : length row + length (handed_by eq entries l rs) ≡ length r.cites + length (cites_of rs) = omega (arith, own, more) in
        length-append row (handed_by eq entries l rs) ∙ both ∙ sym (length-append r.cites (cites_of rs))

    module _ (listed : List E) (is : IsListingOf eq entries listed l) where
      named-row : (r : Request E P) (cs : List (RequestedCite E P)) → map (handed_at l r) (places_in eq entries cs) ≡ map (handed_cite eq listed r) cs
      named-row r [] = refl
      named-row r (c ∷ cs) = λ i. record {
        entry = is.numbered c.entry i;
        note = r.note_number;
        near_note_distance = r.style.citation.near_note_distance;
      } ∷ named-row r cs i

      pub named : (rs : List (Request E P)) → handed_by eq entries l rs ≡ handed_cites eq listed rs
      named [] = refl
      named (r ∷ rs) = λ i. named-row r r.cites i ++ named rs i

pub notes-count : (cites : List HandedCite) → length (all_notes cites) ≡ length cites
notes-count cites = length-map (enumerate_from 0 cites) (λ p. notes_behind (take p.0 cites) p.1) ∙ length-enumerate_from 0 cites
