-- What each cite of an answer is given, and that only cites that repeat others show something else
-- than their mentions.
use Rattle.std.specs.Prelude.{◌≡◌, ℕ, ◌||◌, All, List, None, Some, option_map, slice_get}
use Rattle.std.specs.List.{AllZip, zip}
use Rattle.driver_lookup.specs.Properties.{LocatorValue}
use Rattle.driver_lookup.specs.declared.state.DisambiguateState.{DisambiguateState}
use Rattle.mentions_notes.specs.declared.notes.CiteNotes.{CiteNotes}
use Rattle.mentions_notes.specs.declared.repeats.Position.{Position}
use Rattle.mentions_arranging.specs.Collapsing.{collapse_of}
use Rattle.mentions_arranging.specs.Order.{final_request}
use Rattle.mentions_arranging.specs.Requests.{Request as Arranged}
use Rattle.mentions_arranging.specs.declared.arranged.ArrangedCite.{ArrangedCite}
use Rattle.mentions_arranging.specs.declared.positioned.PositionedCite.{PositionedCite}
use Rattle.mentions_arranging.specs.declared.request.FinalCite.{FinalCite}
use Rattle.mentions_arranging.specs.declared.request.RequestedCite.{RequestedCite as PlainCite}
use Rattle.driver_passes.specs.Renders.{CiteRender, ItemRender}
use Rattle.driver_passes.specs.Request.{Request}
use Rattle.mentions_cites.specs.Arranging.{delimiter_of, ibid_of, verdict_of}
use Rattle.mentions_cites.specs.Mentions.{mention_of, unshown}
use Rattle.mentions_cites.specs.Requests.{request_facts}
use Rattle.mentions_cites.specs.declared.mentions.ToldMention.{ToldMention}
use Rattle.mentions_laws.specs.Arranged.{AreArranged}

-- a cite but for what it shows, and for the names by which it is brought together with others
abbrev pub bare : {L : Type 0} → PlainCite L → PlainCite L
bare c = record c { key = None; shown = unshown.shown }

-- what notes say of a cite, as it is given
abbrev pub notes_given : {E P : Type 0} → ItemRender E P → CiteNotes
notes_given i = record {
  is_first = i.properties.certain.is_first;
  first_note = i.properties.certain.first_note_number;
  is_near = i.properties.certain.is_near_note;
}

-- a request whose cites are arranged
pub record Row (P : Type 0) : Type 0 where
  -- its cites as they are handed in, and what is known of each by those before it
  pub handed : Arranged (PlainCite (LocatorValue P))
  pub notes : List CiteNotes
  -- in their final order, with their positions
  pub ordered : Arranged (PositionedCite (LocatorValue P))
  -- as they are arranged
  pub ways : List ArrangedCite

module _ {E P : Type 0} (mentions : List ToldMention) where
  module _ (request : Request E P) (row : Row P) where
    -- a cite that is arranged in this way
    pub record IsGivenExactly (p : PositionedCite (LocatorValue P) × ArrangedCite)
        (i : ItemRender E P) : Type 0 where
      -- it is the cite that was handed in at its place
      pub place : i.properties.certain.initial_idx ≡ p.0.placed.place
      pub own : option_map bare (slice_get row.handed.cites p.0.placed.place) ≡ Some (bare p.0.cite)
      -- it is first, near, and has a first note as notes say of that one
      pub notes : slice_get row.notes p.0.placed.place ≡ Some (notes_given i)
      pub note_number : i.properties.certain.note_number ≡ request.note_number
      -- it repeats the cite before it as its position says
      pub ibid : i.properties.speculative.ibid ≡ ibid_of p.1.position
      -- means alone disambiguate it
      pub state : i.properties.speculative.disambiguation ≡ DisambiguateState.None
      -- it uses identifiers as its mention does
      pub usage : i.properties.speculative.identifier_usage
          ≡ (mention_of mentions p.0.cite.entry i.properties.certain.is_first).usage
      -- it is hidden where its caller hides it, or a range does
      pub hidden : i.hidden ≡ (p.0.cite.hidden || p.1.is_inner)
      -- it is cut as it is arranged, and stands after what is said there
      pub verdict : i.verdict ≡ verdict_of p.1.cut
      pub delimiter : i.delimiter_override ≡ delimiter_of request.style.citation p.1.delimiter
      -- it shows exactly what its mention shows, if it doesn't repeat the cite before it
      pub shows : p.0.position ≡ Position.Different
          → p.0.cite.shown ≡ (mention_of mentions p.0.cite.entry p.0.cite.is_first).shown

  -- the cites of a request as they are arranged, where entries have these numbers
  pub record AreGivenExactly (numbers : List ℕ) (row : Row P) (cites : CiteRender E P) : Type 0
    where
      pub facts : row.ordered.facts ≡ request_facts cites.request
      pub given : AllZip (IsGivenExactly cites.request row) (zip row.ordered.cites row.ways)
          cites.items
      pub arranged : AreArranged row.ordered.cites numbers (collapse_of row.ordered.facts) row.ways

-- no cite repeats the one before it
abbrev pub NoneRepeats : List Position → Type 0
NoneRepeats positions = All (λ p. p ≡ Position.Different) positions

-- a request with the positions of its cites as they are handed in, and the same in its final order:
-- where no cite repeats another, all is by what mentions show
abbrev pub IsByMentionsAlone : {L : Type 0} → Arranged (PlainCite L) × List Position
    → Arranged (FinalCite L) × List Position → Type 0
IsByMentionsAlone handed ordered = NoneRepeats handed.1 → NoneRepeats ordered.1
    → ordered.0 ≡ final_request handed.0
