-- A bibliography of two cited entries.
use Rattle.std.specs.Prelude.{ℕ, pos, false, List, [], ◌∷◌, None, Some, map}
use Rattle.driver_assembly.specs.declared.rendered.BibliographyItem.{BibliographyItem}
use Rattle.driver_assembly.specs.declared.rendered.Rendered.{Rendered}
use Rattle.value_styles.specs.PlainLook.{no_options}
use Rattle.value_styles.specs.Style.{BibliographyValue}
use Rattle.value_styles.specs.declared.style.SubsequentAuthorSubstituteRule.{SubsequentAuthorSubstituteRule}
use Rattle.csl_driver.specs.Answer.{Job}
use Rattle.std.specs.declared.num.NonZeroI16.{NonZeroI16}
use Rattle.test_wrong_answers.specs.Cites.{each_its_own, two}
use Rattle.test_wrong_answers.specs.Letters.{letter}
use Rattle.test_wrong_answers.specs.Samples.{entry, style, words}
use Rattle.test_wrong_answers.specs.declared.sample.Sample.{Sample}

module _ (spacing : NonZeroI16) where
  -- a bibliography with these spaces between lines
  abbrev pub bibliography : BibliographyValue
  bibliography = record {
    layout = style.citation.layout;
    hanging_indent = false;
    second_field_align = None;
    line_spacing = spacing;
    entry_spacing = pos 1;
    subsequent_author_substitute = None;
    subsequent_author_substitute_rule = SubsequentAuthorSubstituteRule.CompleteAll;
    name_options = no_options;
  }

  -- requests for A and for B, and a bibliography
  abbrev pub two_listed : Job Sample ℕ
  two_listed = record two {
    wanted = record two.wanted { style = record style { bibliography = Some bibliography } };
  }

  -- the item of an entry
  abbrev pub item : ℕ → BibliographyItem
  item n = record {
    key = letter (entry n);
    first_field = None;
    content = words (letter (entry n)) ∷ [];
  }

  -- both citations, and a bibliography of these entries
  abbrev pub listing : List ℕ → Rendered
  listing entries = record each_its_own {
    bibliography = Some (record {
      hanging_indent = false;
      second_field_align = None;
      line_spacing = spacing;
      entry_spacing = pos 1;
      items = map item entries;
    });
  }
