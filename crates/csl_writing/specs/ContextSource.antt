-- The plain data that a style context stands for.
use Rattle.driver_lookup.specs.Lookup.{Source}
use Rattle.driver_lookup.specs.SourceView.{source_view}
use Rattle.csl_writing.specs.declared.lookup.StyleContext.{StyleContext}

abbrev pub context_source : StyleContext → Source
context_source c = source_view c.locales
