-- What goes along a picking.
use Rattle.std.specs.Prelude.{Bool, true, false, None}
use Rattle.value_sources.specs.declared.taxonomy.NameVariable.{NameVariable}
use Rattle.layout_picking.specs.declared.notes.Called.{Called}
use Rattle.layout_picking.specs.declared.notes.Notes.{Notes}
use Rattle.layout_picking.specs.declared.notes.Suppressed.{Suppressed}
use Rattle.driver_lookup.specs.declared.state.IdentifierUsage.{IdentifierUsage}

-- what two parts called, one after the other
abbrev pub called_by_both : Called → Called → Called
called_by_both Called.Filled c = Called.Filled
called_by_both Called.Empty Called.Filled = Called.Filled
called_by_both Called.Empty Called.Empty = Called.Empty
called_by_both Called.Empty Called.None = Called.Empty
called_by_both Called.None c = c

abbrev pub is_suppressed : Suppressed → NameVariable → Bool
is_suppressed s NameVariable.Author = s.author
is_suppressed s NameVariable.Editor = s.editor
is_suppressed s NameVariable.Translator = s.translator

abbrev pub with_suppressed : NameVariable → Suppressed → Suppressed
with_suppressed NameVariable.Author s = record s { author = true }
with_suppressed NameVariable.Editor s = record s { editor = true }
with_suppressed NameVariable.Translator s = record s { translator = true }

-- before anything is picked
abbrev pub first_notes : IdentifierUsage → Notes
first_notes usage = record {
  first_date = true;
  suppressed = record { author = false; editor = false; translator = false };
  checked_disambiguate = false;
  first_name = None;
  usage = usage;
}
