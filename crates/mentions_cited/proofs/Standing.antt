-- All cites where they stand: their entries are those that are cited, and their notes those that were cut.
use Rattle.std.proofs.Common.{◌≡◌, ℕ, ◌+◌, List, [], ◌∷◌, ◌++◌, length, map, take, drop, refl, ap, ◌∙◌, arith}
use Rattle.std.specs.List.{enumerate_from, zip}
use Rattle.std.proofs.lemmas.List.{length-append, length-drop, length-take-le, map-append, take-append-drop}
use Rattle.mentions_notes.specs.declared.notes.CiteNotes.{CiteNotes}
use Rattle.driver_passes.specs.Request.{RequestedCite, Request, cited, cites_of}
use Rattle.mentions_cited.specs.Handed.{cite_counts, parts}
use Rattle.mentions_cited.specs.Homes.{HomeValue, standing_cite, standing_cites, standing_in}

module _ {E P : Type 0} where
  -- the entry of a cite, and what is known of it
  abbrev pub entry_of : HomeValue E P → E
  entry_of c = c.entry

  abbrev pub notes_of : HomeValue E P → CiteNotes
  notes_of c = c.notes

  module _ (r : Request E P) where
    notes-in : (k : ℕ) (cs : List (RequestedCite E P)) (ms : List CiteNotes) → length ms ≡ length cs → map notes_of (map (λ p. standing_cite r p.0 p.1) (enumerate_from k (zip cs ms))) ≡ ms
    notes-in k [] [] long = refl
    notes-in k [] (m ∷ ms) long = absurd (omega (arith, long))
    notes-in k (c ∷ cs) [] long = absurd (omega (arith, long))
    notes-in k (c ∷ cs) (m ∷ ms) long = let less : length ms ≡ length cs = omega (arith, long) in ap (λ l. m ∷ l) (notes-in (k + 1) cs ms less)

    entries-in : (k : ℕ) (cs : List (RequestedCite E P)) (ms : List CiteNotes) → length ms ≡ length cs
        → map entry_of (map (λ p. standing_cite r p.0 p.1) (enumerate_from k (zip cs ms))) ≡ map (λ c. c.entry) cs
    entries-in k [] ms long = refl
    entries-in k (c ∷ cs) [] long = absurd (omega (arith, long))
    entries-in k (c ∷ cs) (m ∷ ms) long = let less : length ms ≡ length cs = omega (arith, long) in ap (λ l. c.entry ∷ l) (entries-in (k + 1) cs ms less)

  -- the notes of these cites
  module _ (r : Request E P) (rs : List (Request E P)) (ns : List CiteNotes) (long : length ns ≡ length (cites_of (r ∷ rs))) where
    both-long : length ns ≡ length r.cites + length (cites_of rs)
    both-long = long ∙ length-append r.cites (cites_of rs)

    own-long : length (take (length r.cites) ns) ≡ length r.cites
    own-long = length-take-le (length r.cites) ns (omega (arith, both-long))

    rest-long : length (drop (length r.cites) ns) ≡ length (cites_of rs)
    rest-long = omega (arith, both-long, length-drop (length r.cites) ns)

  pub notes-standing : (rs : List (Request E P)) (ns : List CiteNotes) → length ns ≡ length (cites_of rs) → map notes_of (standing_cites rs (parts (cite_counts rs) ns)) ≡ ns
  notes-standing [] [] long = refl
  notes-standing [] (n ∷ ns) long = absurd (omega (arith, long))
  notes-standing (r ∷ rs) ns long =
      let own = take (length r.cites) ns in
      let behind = drop (length r.cites) ns in
      map-append notes_of (standing_in r own) (standing_cites rs (parts (cite_counts rs) behind))
      ∙ (λ i. notes-in r 0 r.cites own (own-long r rs ns long) i ++ notes-standing rs behind (rest-long r rs ns long) i)
      ∙ take-append-drop (length r.cites) ns

  pub entries-standing : (rs : List (Request E P)) (ns : List CiteNotes) → length ns ≡ length (cites_of rs) → map entry_of (standing_cites rs (parts (cite_counts rs) ns)) ≡ cited rs
  entries-standing [] ns long = refl
  entries-standing (r ∷ rs) ns long =
      let own = take (length r.cites) ns in
      let behind = drop (length r.cites) ns in
      map-append entry_of (standing_in r own) (standing_cites rs (parts (cite_counts rs) behind))
      ∙ (λ i. entries-in r 0 r.cites own (own-long r rs ns long) i ++ entries-standing rs behind (rest-long r rs ns long) i)
