-- What an element has that says nothing of how it looks.
use Rattle.std.specs.Prelude.{None}
use Rattle.value_styles.specs.Element.{Affix, Look, NameOptions}
use Rattle.value_sources.specs.declared.formatting.StyleFormatting.{StyleFormatting}
use Rattle.value_sources.specs.Formatting.{nothing_asked}

abbrev pub no_affix : Affix
no_affix = record { prefix = None; suffix = None }

abbrev pub no_formatting : StyleFormatting
no_formatting = nothing_asked

abbrev pub no_look : Look
no_look = record { affixes = no_affix; formatting = no_formatting; display = None }

-- no option of names is given
abbrev pub no_options : NameOptions
no_options = record {
  and = None;
  name_delimiter = None;
  names_delimiter = None;
  et_al_min = None;
  et_al_use_first = None;
  name_form = None;
  initialize_with = None;
}
