-- Each cite is given exactly what the laws say.
use Rattle.std.proofs.Common.{◌≡◌, ℕ, zero, suc, Bool, ◌||◌, Option, Some, None, List, [], ◌∷◌, All, length, map, refl, ap, sym, ◌∙◌, arith}
use Rattle.std.specs.Prelude.{filter_map, option_map, slice_get, zip}
use Rattle.std.specs.List.{AllZip, cons_option}
use Rattle.std.proofs.lemmas.List.Elements.{All-head, All-tail}
use Rattle.std.proofs.lemmas.Option.{none-some, same_Some, slice_get-map}
use Rattle.mentions_arranging.specs.Arranged.{arranged_request}
use Rattle.mentions_arranging.specs.Collapsing.{collapse_of}
use Rattle.mentions_arranging.specs.Positioned.{positioned_cites}
use Rattle.mentions_arranging.specs.Requests.{Request as Arranged}
use Rattle.mentions_arranging.specs.declared.arranged.ArrangedCite.{ArrangedCite}
use Rattle.mentions_arranging.specs.declared.positioned.PositionedCite.{PositionedCite}
use Rattle.mentions_arranging.specs.declared.request.FinalCite.{FinalCite}
use Rattle.mentions_arranging.specs.declared.request.RequestedCite.{RequestedCite as PlainCite}
use Rattle.driver_lookup.specs.Properties.{LocatorValue}
use Rattle.mentions_notes.specs.declared.notes.CiteNotes.{CiteNotes}
use Rattle.mentions_notes.specs.declared.repeats.Position.{Position}
use Rattle.driver_passes.specs.Renders.{CiteRender, ItemRender}
use Rattle.driver_passes.specs.Request.{RequestedCite, Request}
use Rattle.mentions_tables.specs.Steps.{all_changed}
use Rattle.mentions_cites.specs.Arranging.{arranged_by, arranged_finally}
use Rattle.mentions_cites.specs.Cites.{ToldValue, told_at, told_cite, told_cites}
use Rattle.mentions_cites.specs.Requests.{plain_request, plain_requests}
use Rattle.mentions_laws.specs.Cites.{AreGivenExactly, IsGivenExactly, Row, bare}
use Rattle.mentions_laws.proofs.Arranging.{are-arranged}
use Rattle.mentions_laws.proofs.Standing.{AreStanding, ShowsUnlessRepeated, Stands, plain_one}

-- the second of two that stand there
second-there : {A B : Type 0} (xs : List A) (ys : List B) (k : ℕ) (p : A × B) → slice_get (zip xs ys) k ≡ Some p → slice_get ys k ≡ Some p.1
second-there [] ys k p h = absurd (none-some p h)
second-there (x ∷ xs) [] k p h = absurd (none-some p h)
second-there (x ∷ xs) (y ∷ ys) zero p h = ap Some (ap (λ q. q.1) (same_Some (x, y) p h))
second-there (x ∷ xs) (y ∷ ys) (suc k) p h = second-there xs ys k p h

positioned-long : {L : Type 0} (fs : List (FinalCite L)) (ps : List Position) → length ps ≡ length fs → length (positioned_cites fs ps) ≡ length fs
positioned-long [] ps h = refl
positioned-long (f ∷ fs) [] h = absurd (omega (arith, h))
positioned-long (f ∷ fs) (p ∷ ps) h = ap suc (positioned-long fs ps (omega (arith, h)))

module _ {E P : Type 0} (eq : E → E → Bool) (listed : List E) (told : ToldValue) (numbers : List ℕ) where
  module _ (r : Request E P) (notes : List CiteNotes) (row : Row P) (handed : row.handed ≡ plain_request told.mentions told.suffixes eq listed r notes) (noted : row.notes ≡ notes) where
    abbrev Gives : PositionedCite (LocatorValue P) × ArrangedCite → ItemRender E P → Type 0
    Gives = IsGivenExactly told.mentions r row

    abbrev StandsThere : FinalCite (LocatorValue P) → Type 0
    StandsThere = Stands eq listed told.mentions told.suffixes r notes

    abbrev Shows : FinalCite (LocatorValue P) → Position → Type 0
    Shows = ShowsUnlessRepeated {P = P} eq listed told.mentions told.suffixes

    abbrev plain : RequestedCite E P × CiteNotes → PlainCite (LocatorValue P)
    plain = plain_one eq listed told.mentions told.suffixes r notes

    abbrev item : FinalCite (LocatorValue P) → RequestedCite E P × CiteNotes → ItemRender E P
    item f p = told_cite told r.note_number f.cite.entry f.placed.place p.0 p.1

    give-one : (f : FinalCite (LocatorValue P)) (p : Position) (w : ArrangedCite) (q : RequestedCite E P × CiteNotes) → StandsThere f → slice_get (zip r.cites notes) f.placed.place ≡ Some q → Shows f p
        → Gives (record { placed = f.placed; position = p; cite = f.cite }, w) (arranged_by numbers r.style.citation (f, w) (item f q))
    give-one f p w q stands e shows =
        let same : bare (plain q) ≡ bare f.cite =
        same_Some (bare (plain q)) (bare f.cite) (sym (ap (option_map bare) (slice_get-map plain (zip r.cites notes) f.placed.place ∙ ap (option_map plain) e)) ∙ stands) in
        record {
          place = refl;
          own = ap (λ (h : Arranged (PlainCite (LocatorValue P))). option_map bare (slice_get h.cites f.placed.place)) handed ∙ stands;
          notes = ap (λ l. slice_get l f.placed.place) noted ∙ second-there r.cites notes f.placed.place q e;
          note_number = refl;
          ibid = refl;
          state = refl;
          usage = refl;
          hidden = ap (λ (c : PlainCite (LocatorValue P)). c.hidden || w.is_inner) same;
          verdict = refl;
          delimiter = refl;
          shows = shows;
        }

    give-all : (fs : List (FinalCite (LocatorValue P))) (ps : List Position) (ws : List ArrangedCite) → All StandsThere fs → AllZip Shows fs ps → length ws ≡ length fs
        → AllZip Gives (zip (positioned_cites fs ps) ws) (all_changed (arranged_by numbers r.style.citation) (zip fs ws) (filter_map (told_at told r notes) fs))
    give-all [] [] [] stand show long = tt
    give-all [] [] (w ∷ ws) stand show long = absurd (omega (arith, long))
    give-all [] (p ∷ ps) ws stand show long = absurd show
    give-all (f ∷ fs) [] ws stand show long = absurd show
    give-all (f ∷ fs) (p ∷ ps) [] stand show long = absurd (omega (arith, long))
    give-all (f ∷ fs) (p ∷ ps) (w ∷ ws) stand show long =
        by (slice_get (zip r.cites notes) f.placed.place) refl (give-all fs ps ws (All-tail StandsThere f fs stand) show.1 (omega (arith, long)))
      where
        there : StandsThere f
        there = All-head StandsThere f fs stand

        rest : List (ItemRender E P)
        rest = filter_map (told_at told r notes) fs

        by : (o : Option (RequestedCite E P × CiteNotes)) → slice_get (zip r.cites notes) f.placed.place ≡ o
            → AllZip Gives (zip (positioned_cites fs ps) ws) (all_changed (arranged_by numbers r.style.citation) (zip fs ws) rest)
            → AllZip Gives ((record { placed = f.placed; position = p; cite = f.cite }, w) ∷ zip (positioned_cites fs ps) ws)
            (all_changed (arranged_by numbers r.style.citation) ((f, w) ∷ zip fs ws) (cons_option (option_map (item f) o) rest))
        by None e more =
            absurd (none-some (bare f.cite) (sym (ap (option_map bare) (slice_get-map plain (zip r.cites notes) f.placed.place ∙ ap (option_map plain) e)) ∙ there))
        by (Some q) e more = (give-one f p w q there e show.0, more)

  -- the rows of requests
  abbrev pub positioned_request : Arranged (FinalCite (LocatorValue P)) × List Position → Arranged (PositionedCite (LocatorValue P))
  positioned_request p = record { facts = p.0.facts; cites = positioned_cites p.0.cites p.1 }

  abbrev pub row_of : ((Arranged (PlainCite (LocatorValue P)) × List CiteNotes) × Arranged (PositionedCite (LocatorValue P))) × List ArrangedCite → Row P
  row_of p = record { handed = p.0.0.0; notes = p.0.0.1; ordered = p.0.1; ways = p.1 }

  abbrev Given : Row P → CiteRender E P → Type 0
  Given = AreGivenExactly told.mentions numbers

  abbrev Shown : Arranged (FinalCite (LocatorValue P)) → List Position → Type 0
  Shown f ps = AllZip (ShowsUnlessRepeated {P = P} eq listed told.mentions told.suffixes) f.cites ps

  pub rows-given : (rs : List (Request E P)) (ns : List (List CiteNotes)) (fs : List (Arranged (FinalCite (LocatorValue P)))) (ps : List (List Position))
      → length ns ≡ length rs → length fs ≡ length rs → AreStanding eq listed told.mentions told.suffixes rs ns fs → AllZip Shown fs ps → AllZip (λ f p. length p ≡ length f.cites) fs ps
      → AllZip (λ f w. length w ≡ length f.cites) fs (map (λ p. arranged_request numbers p.0 p.1) (zip fs ps))
      → AllZip Given
      (map row_of (zip (zip (zip (plain_requests told.mentions told.suffixes eq listed rs ns) ns) (map positioned_request (zip fs ps))) (map (λ p. arranged_request numbers p.0 p.1) (zip fs ps))))
      (arranged_finally numbers fs (map (λ p. arranged_request numbers p.0 p.1) (zip fs ps)) (told_cites told rs ns fs))
  rows-given [] [] [] ps a b s h l w = tt
  rows-given [] [] (f ∷ fs) ps a b s h l w = absurd (omega (arith, b))
  rows-given [] (n ∷ ns) fs ps a b s h l w = absurd (omega (arith, a))
  rows-given (r ∷ rs) [] fs ps a b s h l w = absurd (omega (arith, a))
  rows-given (r ∷ rs) (n ∷ ns) [] ps a b s h l w = absurd (omega (arith, b))
  rows-given (r ∷ rs) (n ∷ ns) (f ∷ fs) [] a b s h l w = absurd h
  rows-given (r ∷ rs) (n ∷ ns) (f ∷ fs) (p ∷ ps) a b s h l w =
      let ways = arranged_request numbers f p in
      let handed = plain_request told.mentions told.suffixes eq listed r n in
      let row : Row P = record { handed = handed; notes = n; ordered = positioned_request (f, p); ways = ways } in (
        record {
          facts = s.0;
          given = give-all r n row refl refl f.cites p ways s.1.0 h.0 w.0;
          arranged = are-arranged f.facts.style numbers (positioned_cites f.cites p) (collapse_of f.facts) (w.0 ∙ sym (positioned-long f.cites p l.0));
        },
        rows-given rs ns fs ps (omega (arith, a)) (omega (arith, b)) s.1.1 h.1 l.1 w.1,
      )
