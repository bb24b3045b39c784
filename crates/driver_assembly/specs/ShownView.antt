-- The plain data that a shown cite stands for.
use Rattle.std.specs.Prelude.{List, map, option_map}
use Rattle.driver_assembly.specs.Assembly.{Shown}
use Rattle.driver_assembly.specs.declared.assemble.ShownCite.{ShownCite}

abbrev pub shown_view : ShownCite → Shown
shown_view c = record { delimiter = option_map (λ d. d.now) c.delimiter; tree = c.tree }

abbrev pub shown_views : List ShownCite → List Shown
shown_views = map shown_view
