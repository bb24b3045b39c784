-- Formatting, and what a style's wish makes of it.
use Rattle.std.specs.Prelude.{None, unwrap_or}
use Rattle.value_sources.specs.declared.formatting.Formatting.{Formatting}
use Rattle.value_sources.specs.declared.formatting.StyleFormatting.{StyleFormatting}
use Rattle.value_sources.specs.declared.formatting.FontStyle.TheVariants as style
use Rattle.value_sources.specs.declared.formatting.FontVariant.TheVariants as variant
use Rattle.value_sources.specs.declared.formatting.FontWeight.TheVariants as weight
use Rattle.value_sources.specs.declared.formatting.TextDecoration.TheVariants as decoration
use Rattle.value_sources.specs.declared.formatting.VerticalAlign.TheVariants as align

-- neither slanted, small nor heavy, with no line below, of whose place nothing is said
abbrev pub normal : Formatting
normal = record {
  font_style = style.Normal;
  font_variant = variant.Normal;
  font_weight = weight.Normal;
  text_decoration = decoration.None;
  vertical_align = align.None;
}

-- a style that asks for nothing
abbrev pub nothing_asked : StyleFormatting
nothing_asked = record {
  font_style = None;
  font_variant = None;
  font_weight = None;
  text_decoration = None;
  vertical_align = None;
}

-- what is asked for stands in the place of what was there
abbrev pub applied : StyleFormatting → Formatting → Formatting
applied asked f = record {
  font_style = unwrap_or asked.font_style f.font_style;
  font_variant = unwrap_or asked.font_variant f.font_variant;
  font_weight = unwrap_or asked.font_weight f.font_weight;
  text_decoration = unwrap_or asked.text_decoration f.text_decoration;
  vertical_align = unwrap_or asked.vertical_align f.vertical_align;
}
