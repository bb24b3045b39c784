-- The cites that the code puts in order and arranges, whose locators are lent, are those of the answer.
use Rattle.std.proofs.Common.{◌≡◌, ℕ, Bool, List, [], Option, map, ap, sym, subst, ◌∙◌}
use Rattle.std.specs.Cmp.{IsEquivalence}
use Rattle.mentions_arranging.specs.Arranged.{arranged_cites}
use Rattle.mentions_arranging.specs.Requests.{Request as Arranged}
use Rattle.mentions_arranging.specs.declared.arranged.ArrangedCite.{ArrangedCite}
use Rattle.mentions_arranging.specs.declared.request.FinalCite.{FinalCite}
use Rattle.mentions_cited.specs.declared.kept.KeptOfMention.{KeptOfMention}
use Rattle.driver_entries.specs.Table.{Table, table_of}
use Rattle.driver_lookup.specs.Properties.{LocatorValue}
use Rattle.mentions_groups.specs.declared.state.MentionState.{MentionState}
use Rattle.mentions_notes.specs.declared.notes.CiteNotes.{CiteNotes}
use Rattle.driver_passes.specs.Renders.{CiteRender}
use Rattle.mentions_tables.specs.declared.tables.Told.{Told}
use Rattle.mentions_cites.specs.Arranging.{arranged_finally}
use Rattle.mentions_cites.specs.Cites.{ToldValue, told_cites}
use Rattle.mentions_cites.specs.Mentions.{told_mentions}
use Rattle.mentions_cites.specs.declared.mentions.ToldMention.{ToldMention}
use Rattle.driver_writers.specs.Writing.{Writing}
use Rattle.csl_driver.specs.Answer.{Job}
use Rattle.csl_driver.specs.AreCitesOf.{AreCitesOf}
use Rattle.csl_driver.specs.CslAnswer.{cite_notes, cites_in_order, known, ordered, same_locator}
use Rattle.csl_driver.specs.CslParts.{AreToldApart}
use Rattle.csl_driver.proofs.CslCounts.{ordered-once}
use Rattle.csl_driver.proofs.CslLocated.{arranged-seen, seen_in_order, told-seen}
use Rattle.csl_driver.proofs.CslRepeated.{cites-seen}
use Rattle.csl_driver.proofs.CslStanding.{told-stand}

-- what tells mentions apart, as it is known of cites
abbrev pub known_of : Told KeptOfMention → ToldValue
known_of t = record {
  states = t.states.items;
  mentions = told_mentions t.firsts.items t.again.items t.texts.items;
  suffixes = t.suffixes.items;
  numbers = [];
}

module _ {E P : Type 0} (eq : E → E → Bool) (job : Job E P) where
  known-then : (writing : Writing E P) (t : Told KeptOfMention) → AreToldApart eq job writing t → known_of t ≡ known eq job writing
  known-then writing t apart = λ i. record { states = apart.states i; mentions = apart.mentions i; suffixes = apart.suffixes i; numbers = [] }

  -- cites of the order whose locators are lent are those of the answer, before they are arranged
  pub before-lent : {L : Type 0} (f : L → LocatorValue P) (writing : Writing E P) (payload_eq : P → P → Bool) (t : Told KeptOfMention) → AreToldApart eq job writing t
      → (finals : List (Arranged (FinalCite L))) → map (seen_in_order f) finals ≡ ordered eq job writing payload_eq
      → (states : List MentionState) (mentions : List ToldMention) (suffixes : List (Option ℕ)) (notes : List (List CiteNotes)) (given : List (Arranged (FinalCite L))) (cites : List (CiteRender E P))
      → states ≡ (known_of t).states → mentions ≡ (known_of t).mentions → suffixes ≡ (known_of t).suffixes → notes ≡ cite_notes eq job → given ≡ finals
      → cites ≡ told_cites (record { states = states; mentions = mentions; suffixes = suffixes; numbers = [] }) job.requests notes given → cites ≡ cites_in_order eq job writing payload_eq
  before-lent f writing payload_eq t apart finals in_order states mentions suffixes notes given cites states_are mentions_are suffixes_are noted are made =
      made
      ∙ (λ i. told_cites (record { states = states_are i; mentions = mentions_are i; suffixes = suffixes_are i; numbers = [] }) job.requests (noted i) (are i))
      ∙ sym (told-seen f (known_of t) job.requests (cite_notes eq job) finals)
      ∙ (λ i. told_cites (known-then writing t apart i) job.requests (cite_notes eq job) (in_order i))

  -- they are cites of the requests
  pub before-stand : IsEquivalence eq → (table : Table E) → table ≡ table_of eq job.requests → (writing : Writing E P) (payload_eq : P → P → Bool) (cites : List (CiteRender E P))
      → cites ≡ cites_in_order eq job writing payload_eq → AreCitesOf eq table job.requests cites
  before-stand laws table is writing payload_eq cites before =
      subst (AreCitesOf eq table job.requests) (sym before)
      (told-stand eq job laws table is (known eq job writing) (ordered eq job writing payload_eq) (ordered-once eq job writing payload_eq))

-- cites are arranged alike where their locators are lent
pub arranged-lent : {E P L : Type 0} (f : L → LocatorValue P) (locator_eq : L → L → Bool) (payload_eq : P → P → Bool) → ((a b : L) → locator_eq a b ≡ same_locator payload_eq (f a) (f b)) → (numbers : List ℕ)
    (finals : List (Arranged (FinalCite L))) (arranged : List (List ArrangedCite)) (cites : List (CiteRender E P)) → arranged ≡ arranged_cites locator_eq numbers finals
    → arranged_finally numbers finals arranged cites
    ≡ arranged_finally numbers (map (seen_in_order f) finals) (arranged_cites (same_locator payload_eq) numbers (map (seen_in_order f) finals)) cites
arranged-lent f locator_eq payload_eq alike numbers finals arranged cites are =
    sym (arranged-seen f numbers finals arranged cites)
    ∙ ap (λ ways. arranged_finally numbers (map (seen_in_order f) finals) ways cites) (are ∙ sym (cites-seen f locator_eq (same_locator payload_eq) alike numbers finals))
