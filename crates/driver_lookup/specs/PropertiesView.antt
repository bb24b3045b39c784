-- The plain data that the properties of a cite stand for.
use Rattle.std.specs.Prelude.{option_map}
use Rattle.driver_lookup.specs.declared.locator.LocatorPayload.{LocatorPayload}
use Rattle.driver_lookup.specs.declared.locator.LocatorPayload.TheVariants as payloads
use Rattle.driver_lookup.specs.declared.locator.SpecificLocator.{SpecificLocator}
use Rattle.driver_lookup.specs.declared.properties.SpeculativeCiteProperties.{SpeculativeCiteProperties}
use Rattle.driver_lookup.specs.declared.properties.CiteProperties.{CiteProperties}
use Rattle.driver_lookup.specs.Properties.{Payload, text_payload, own_payload, LocatorValue, Speculative, Properties}

module _ {P : Type 0} where
  abbrev pub payload_view : LocatorPayload P → Payload P
  payload_view (payloads.Str text) = text_payload text.now
  payload_view (payloads.Transparent locator) = own_payload locator

  abbrev pub locator_view : SpecificLocator P → LocatorValue P
  locator_view l = record { kind = l.0; payload = payload_view l.1 }

  abbrev pub speculative_view : SpeculativeCiteProperties P → Speculative P
  speculative_view s = record {
    locator = option_map locator_view s.locator;
    citation_number = s.citation_number;
    ibid = s.ibid;
    disambiguation = s.disambiguation;
    means = s.means;
    identifier_usage = s.identifier_usage;
  }

  abbrev pub properties_view : CiteProperties P → Properties P
  properties_view p = record { certain = p.certain; speculative = speculative_view p.speculative }
