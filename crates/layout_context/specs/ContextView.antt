-- What a context knows of its cite, which writing leaves as it is.
use Rattle.std.specs.Prelude.{◌≡◌, Option, option_map}
use Rattle.value_sources.specs.declared.taxonomy.Locator.{Locator}
use Rattle.layout_context.specs.declared.context.Context.{Context}
use Rattle.driver_lookup.specs.Lookup.{Lookup}
use Rattle.driver_lookup.specs.SourceView.{lookup_view}

-- what terms are looked up in
abbrev pub words_of : {T P : Type 0} → Context T P → Lookup
words_of c = lookup_view c.style

-- what the cite's locator counts, where it has one
abbrev pub locator_of : {T P : Type 0} → Context T P → Option Locator
locator_of c = option_map (λ l. l.0) c.properties.speculative.locator

-- the same entry, properties and style
abbrev pub IsOfSameCite : {T P : Type 0} → Context T P → Context T P → Type 0
IsOfSameCite c d = (d.entry ≡ c.entry) × (d.properties ≡ c.properties) × (d.style ≡ c.style)
