-- The properties of a cite as plain data: no capacity and no address is seen.
use Rattle.std.specs.Prelude.{ℕ, List, Option}
use Rattle.value_sources.specs.declared.taxonomy.Locator.{Locator}
use Rattle.driver_lookup.specs.declared.means.Means.{Means}
use Rattle.driver_lookup.specs.declared.properties.CertainCiteProperties.{CertainCiteProperties}
use Rattle.driver_lookup.specs.declared.state.DisambiguateState.{DisambiguateState}
use Rattle.driver_lookup.specs.declared.state.IbidState.{IbidState}
use Rattle.driver_lookup.specs.declared.state.IdentifierUsage.{IdentifierUsage}

-- where a locator points: a text, or a payload of the caller's own
pub data Payload (P : Type 0) : Type 0 where
  text_payload : List ℕ → Payload P
  own_payload : P → Payload P

pub record LocatorValue (P : Type 0) : Type 0 where
  pub kind : Locator
  pub payload : Payload P

-- what may change while cites are disambiguated and put in order
pub record Speculative (P : Type 0) : Type 0 where
  pub locator : Option (LocatorValue P)
  pub citation_number : ℕ
  pub ibid : IbidState
  pub disambiguation : DisambiguateState
  pub means : Means
  pub identifier_usage : IdentifierUsage

pub record Properties (P : Type 0) : Type 0 where
  pub certain : CertainCiteProperties
  pub speculative : Speculative P
