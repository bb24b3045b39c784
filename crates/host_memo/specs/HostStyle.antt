-- Styles of a host, which have a name in place of layouts.
use Rattle.std.specs.Prelude.{ℕ, List, [], None, false}
use Rattle.value_styles.specs.Element.{Elements, element, no_elements, text_element, value_target}
use Rattle.value_styles.specs.Style.{StyleValue}
use Rattle.value_sources.specs.Formatting.{nothing_asked}

-- the text with which elements begin
abbrev pub leading_text : Elements → List ℕ
leading_text (element (text_element (value_target name) quotes strip look) es) = name
leading_text _ = []

abbrev pub host_style_name : StyleValue → List ℕ
host_style_name style = leading_text style.citation.layout.elements

-- one text, without anything around it
abbrev pub one_text : List ℕ → Elements
one_text name = element (text_element (value_target name) false false (record {
  affixes = record { prefix = None; suffix = None };
  formatting = nothing_asked;
  display = None;
})) no_elements
