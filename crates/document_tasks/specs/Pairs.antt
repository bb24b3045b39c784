-- Lists of exactly two things.
use Rattle.std.specs.Prelude.{Option, Some, None, option_and_then}
use Rattle.serde_json.specs.Data.{Data, Items, no_items, item}
use Rattle.serde_json.specs.Find.{as_array}
use Rattle.document_values.specs.Words.{◌>>=◌}

module _ {A B : Type 0} (f : Data → Option A) (g : Data → Option B) where
  abbrev pub pair_of : Items → Option (A × B)
  pair_of (item d (item e no_items)) = do
    x ← f d
    y ← g e
    Some (x, y)
  pair_of _ = None

  -- a list of something of the form f, and of something of the form g
  abbrev pub pair_form : Data → Option (A × B)
  pair_form d = option_and_then pair_of (as_array d)
