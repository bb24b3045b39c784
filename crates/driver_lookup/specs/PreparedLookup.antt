-- A prepared style and prepared files as what is looked up in.
use Rattle.std.specs.Prelude.{ℕ, List, map}
use Rattle.value_styles.specs.StyleView.{locale_view}
use Rattle.driver_styles.specs.PreparedView.{prepared_view}
use Rattle.driver_styles.specs.TablesView.{locales_of}
use Rattle.driver_styles.specs.declared.prepared.PreparedSource.{PreparedSource}
use Rattle.driver_lookup.specs.Lookup.{Lookup}

-- where this code is in use
abbrev pub prepared_lookup : PreparedSource → List ℕ → Lookup
prepared_lookup p code = record {
  own = (prepared_view p.style.now).locale;
  files = map locale_view (locales_of p.files.now);
  code = code;
}
