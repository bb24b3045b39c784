-- The properties of a cite of which nothing else is known.
use Rattle.std.specs.Prelude.{ℕ, false, Option, None}
use Rattle.driver_lookup.specs.declared.properties.CertainCiteProperties.{CertainCiteProperties}
use Rattle.driver_lookup.specs.declared.state.DisambiguateState.{DisambiguateState}
use Rattle.driver_lookup.specs.declared.state.IbidState.{IbidState}
use Rattle.driver_lookup.specs.declared.state.IdentifierUsage.{IdentifierUsage}
use Rattle.driver_lookup.specs.Means.{no_means}
use Rattle.driver_lookup.specs.Properties.{LocatorValue, Speculative}

-- no note, neither near nor first, place 0
abbrev pub nothing_certain : CertainCiteProperties
nothing_certain = record {
  note_number = None;
  first_note_number = None;
  is_near_note = false;
  is_first = false;
  initial_idx = 0;
}

-- nothing tells its entry apart, and no identifier is written yet
abbrev pub speculated : {P : Type 0} → Option (LocatorValue P) → ℕ → IbidState → Speculative P
speculated locator number ibid = record {
  locator = locator;
  citation_number = number;
  ibid = ibid;
  disambiguation = DisambiguateState.None;
  means = no_means;
  identifier_usage = IdentifierUsage.None;
}
