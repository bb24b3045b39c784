-- What a caller may rely on, beyond `KeepsCslLaws`, of an answer in which works are disambiguated
-- as CSL 1.0.2 has it: what each cite is given, and how the cites of each request are brought
-- together and arranged.
use Rattle.std.specs.Prelude.{Bool, List, map}
use Rattle.std.specs.List.{AllZip, zip}
use Rattle.mentions_arranging.specs.Order.{grouped_cite, is_grouped}
use Rattle.mentions_arranging.specs.Positioned.{positioned_cites}
use Rattle.mentions_arranging.specs.Repeating.{final_positions, handed_positions}
use Rattle.mentions_arranging.specs.Requests.{Request as Arranged}
use Rattle.mentions_arranging.specs.declared.arranged.ArrangedCite.{ArrangedCite}
use Rattle.mentions_arranging.specs.declared.positioned.PositionedCite.{PositionedCite}
use Rattle.mentions_arranging.specs.declared.request.FinalCite.{FinalCite}
use Rattle.mentions_arranging.specs.declared.request.RequestedCite.{RequestedCite as PlainCite}
use Rattle.driver_assembly.specs.declared.rendered.Rendered.{Rendered}
use Rattle.driver_lookup.specs.Properties.{LocatorValue}
use Rattle.mentions_notes.specs.declared.notes.CiteNotes.{CiteNotes}
use Rattle.mentions_notes.specs.declared.repeats.Position.{Position}
use Rattle.driver_writers.specs.Writing.{Writing}
use Rattle.csl_driver.specs.Answer.{Job}
use Rattle.csl_driver.specs.CslAnswer.{cite_notes, keyed, mentions, ordered, plain, read, same_locator, shown_mentions}
use Rattle.csl_driver.specs.CslByEntry.{entries_had, states_had}
use Rattle.csl_driver.specs.CslCitations.{ComeArranged}
use Rattle.csl_driver.specs.declared.csl_account.CslAccount.{CslAccount}
use Rattle.mentions_laws.specs.Adding.{NamesAreAsStylesSay}
use Rattle.mentions_laws.specs.Cites.{AreGivenExactly, IsByMentionsAlone, Row}
use Rattle.mentions_laws.specs.Listing.{ListsEntriesOnce}
use Rattle.mentions_laws.specs.Order.{AreInBlockOrder}

module _ {P : Type 0} where
  -- the cites of a request in their final order, with their positions
  abbrev pub positioned : Arranged (FinalCite (LocatorValue P)) × List Position
      → Arranged (PositionedCite (LocatorValue P))
  positioned p = record { facts = p.0.facts; cites = positioned_cites p.0.cites p.1 }

  -- how the cites of requests are arranged, beside the cites as they are handed in and ordered
  abbrev pub rows : List (Arranged (PlainCite (LocatorValue P))) → List (List CiteNotes)
      → List (Arranged (PositionedCite (LocatorValue P))) → List (List ArrangedCite)
      → List (Row P)
  rows handed notes ordered ways = map
      (λ p. record { handed = p.0.0.0; notes = p.0.0.1; ordered = p.0.1; ways = p.1 })
      (zip (zip (zip handed notes) ordered) ways)

  -- the cites of a request stand block by block, each where its first cite was handed in
  abbrev pub StandsInBlockOrder : Arranged (PlainCite (LocatorValue P))
      → Arranged (FinalCite (LocatorValue P)) → Type 0
  StandsInBlockOrder handed ordered = AreInBlockOrder (is_grouped handed.facts.style)
      (map grouped_cite handed.cites) (map (λ f. f.placed) ordered.cites)

module _ {E P : Type 0} (eq : E → E → Bool) (payload_eq : P → P → Bool) (writing : Writing E P)
    (job : Job E P) where
  -- the positions of all cites as they are handed in, and in their final order
  abbrev pub handed_in : List (List Position)
  handed_in = handed_positions (same_locator payload_eq) (plain eq job writing)

  abbrev pub in_order : List (List Position)
  in_order = final_positions (same_locator payload_eq) (ordered eq job writing payload_eq)

  pub record GivesCitesExactly (r : Rendered × CslAccount E) : Type 0 where
    -- the cites of each request in a final order, then as they are arranged
    pub comes : ComeArranged eq payload_eq writing job r.1 r.0.citations
    -- blocks stand in the order of their first cites
    pub blocks : AllZip StandsInBlockOrder (keyed eq job writing payload_eq)
        (ordered eq job writing payload_eq)
    -- how the cites of each request are arranged, and that each is given exactly that
    pub ways : List (List ArrangedCite)
    pub given : AllZip (AreGivenExactly (shown_mentions eq job writing) r.1.numbers.items)
        (rows (plain eq job writing) (cite_notes eq job)
        (map positioned (zip (ordered eq job writing payload_eq) in_order)) ways)
        comes.arranged
    -- in a request in which no cite repeats another, all is by what mentions show
    pub alone : AllZip IsByMentionsAlone (zip (plain eq job writing) handed_in)
        (zip (ordered eq job writing payload_eq) in_order)

  -- what holds of every answer and its account
  pub record KeepsMentionLaws (r : Rendered × CslAccount E) : Type 0 where
    pub cites : GivesCitesExactly r
    -- names are added only as styles say
    pub names : NamesAreAsStylesSay (read eq job writing) (mentions eq job) (states_had r.1)
    -- the bibliography lists each entry once, by the first of these cites
    pub bibliography : ListsEntriesOnce eq writing job (entries_had r.1) cites.comes.arranged
        r.0.bibliography
