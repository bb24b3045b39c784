-- The plain data that a style with its locales stands for.
use Rattle.std.specs.Prelude.{map, option_map}
use Rattle.value_styles.specs.StyleView.{code_view, locale_view, style_view}
use Rattle.driver_lookup.specs.declared.lookup.StyleLocales.{StyleLocales}
use Rattle.driver_lookup.specs.Lookup.{Lookup, Source, lookup}

abbrev pub source_view : StyleLocales → Source
source_view c = record {
  style = style_view c.style.now;
  locale = option_map (λ code. code_view code.now) c.locale;
  files = map locale_view c.files.now;
}

abbrev pub lookup_view : StyleLocales → Lookup
lookup_view c = lookup (source_view c)
