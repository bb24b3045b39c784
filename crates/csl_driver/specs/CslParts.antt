-- For the code: mentions that were told apart, and cites whose locators are lent by requests.
use Rattle.std.specs.Prelude.{◌≡◌, Bool, List, map}
use Rattle.std.specs.Borrow.{Bor}
use Rattle.mentions_arranging.specs.Requests.{Request as Arranged}
use Rattle.mentions_arranging.specs.declared.request.FinalCite.{FinalCite}
use Rattle.mentions_cited.specs.declared.kept.KeptOfMention.{KeptOfMention}
use Rattle.driver_lookup.specs.Properties.{LocatorValue}
use Rattle.driver_lookup.specs.declared.locator.SpecificLocator.{SpecificLocator}
use Rattle.mentions_tables.specs.declared.tables.Told.{Told}
use Rattle.mentions_groups.specs.declared.shown.ShownNames.{ShownNames}
use Rattle.mentions_cites.specs.Mentions.{first_with_names, kept_last, told_mentions}
use Rattle.mentions_cites.specs.NotedNames.{first_noted}
use Rattle.mentions_cites.specs.Requests.{located}
use Rattle.mentions_cites.specs.declared.repeats.MentionsTold.{MentionsTold}
use Rattle.driver_writers.specs.Writing.{Writing}
use Rattle.csl_driver.specs.Answer.{Job}
use Rattle.csl_driver.specs.CslAnswer.{entry_suffixes, last_kept, shown_mentions, states as told_states}

-- what tells the mentions of a job apart
pub record AreToldApart {E P : Type 0} (eq : E → E → Bool) (job : Job E P) (writing : Writing E P)
    (t : Told KeptOfMention) : Type 0 where
  pub states : t.states.items ≡ told_states eq job writing
  pub suffixes : t.suffixes.items ≡ entry_suffixes eq job writing
  pub mentions : told_mentions t.firsts.items t.again.items t.texts.items
      ≡ shown_mentions eq job writing
  pub lasts : kept_last t.firsts.items t.again.items ≡ last_kept eq job writing

-- what is known of mentions is what was told of them
pub record IsKnownOf (known : MentionsTold) : Type 0 where
  pub mentions : known.mentions.now
      ≡ told_mentions known.told.now.firsts.items known.told.now.again.items
      known.told.now.texts.items
  pub noted : (n : ShownNames) → first_noted known.noted.now n
      ≡ first_with_names (kept_last known.told.now.firsts.items known.told.now.again.items) n

-- cites in the final order with their locators as plain data
module _ {P : Type 0} where
  abbrev pub located_finally : FinalCite (Bor (SpecificLocator P)) → FinalCite (LocatorValue P)
  located_finally c = record { placed = c.placed; cite = located c.cite }

  abbrev pub all_located : List (Arranged (FinalCite (Bor (SpecificLocator P))))
      → List (Arranged (FinalCite (LocatorValue P)))
  all_located =
      map (λ r. record { facts = r.facts; cites = map located_finally r.cites })
