-- The derived tests of equality on formattings, on what they are made of and on formatted texts.
use denote.Enum.Bare.{same_true, true_same}
use Rattle.value_sources.specs.Finds.{Finds, finds, both, and-true, texts_find, options_find}
use Rattle.value_sources.specs.contracts.formatting.FontStyle as font_style
use Rattle.value_sources.specs.contracts.formatting.FontVariant as font_variant
use Rattle.value_sources.specs.contracts.formatting.FontWeight as font_weight
use Rattle.value_sources.specs.contracts.formatting.TextDecoration as text_decoration
use Rattle.value_sources.specs.contracts.formatting.VerticalAlign as vertical_align
use Rattle.value_sources.specs.contracts.formatting.Display as display
use Rattle.value_sources.specs.contracts.formatting.FontStylePartialEq.TheImpl as font_style_eq
use Rattle.value_sources.specs.contracts.formatting.FontVariantPartialEq.TheImpl as font_variant_eq
use Rattle.value_sources.specs.contracts.formatting.FontWeightPartialEq.TheImpl as font_weight_eq
use Rattle.value_sources.specs.contracts.formatting.TextDecorationPartialEq.TheImpl as text_decoration_eq
use Rattle.value_sources.specs.contracts.formatting.VerticalAlignPartialEq.TheImpl as vertical_align_eq
use Rattle.value_sources.specs.contracts.formatting.DisplayPartialEq.TheImpl as display_eq
use Rattle.value_sources.specs.contracts.formatting.FormattingPartialEq.TheImpl as formatting_eq
use Rattle.value_sources.specs.contracts.formatting.FormattedPartialEq.TheImpl as formatted_eq
use Rattle.value_sources.specs.contracts.formatting.StyleFormattingPartialEq.TheImpl as style_formatting_eq

pub font_styles_find : Finds (font_style_eq.ghosts).eq
font_styles_find = finds (λ a b. (same_true font_style.the_type tt a b, true_same font_style.the_type a b))

pub font_weights_find : Finds (font_weight_eq.ghosts).eq
font_weights_find = finds (λ a b. (same_true font_weight.the_type tt a b, true_same font_weight.the_type a b))

pub font_variants_find : Finds (font_variant_eq.ghosts).eq
font_variants_find = finds (λ a b. (same_true font_variant.the_type tt a b, true_same font_variant.the_type a b))

pub text_decorations_find : Finds (text_decoration_eq.ghosts).eq
text_decorations_find = finds (λ a b. (same_true text_decoration.the_type tt a b, true_same text_decoration.the_type a b))

pub vertical_aligns_find : Finds (vertical_align_eq.ghosts).eq
vertical_aligns_find = finds (λ a b. (same_true vertical_align.the_type tt a b, true_same vertical_align.the_type a b))

pub displays_find : Finds (display_eq.ghosts).eq
displays_find = finds (λ a b. (same_true display.the_type tt a b, true_same display.the_type a b))

pub formattings_find : Finds (formatting_eq.ghosts).eq
formattings_find = record {
  equal = λ a b e. let p = both _ _ e in let q = both _ _ p.1 in let r = both _ _ q.1 in let s = both _ _ r.1 in
      λ i. record {
        font_style = font_styles_find.equal a.font_style b.font_style p.0 i;
        font_variant = font_variants_find.equal a.font_variant b.font_variant q.0 i;
        font_weight = font_weights_find.equal a.font_weight b.font_weight r.0 i;
        text_decoration = text_decorations_find.equal a.text_decoration b.text_decoration s.0 i;
        vertical_align = vertical_aligns_find.equal a.vertical_align b.vertical_align s.1 i;
      };
  self = λ a.
      and-true _ _ (font_styles_find.self a.font_style)
      (and-true _ _ (font_variants_find.self a.font_variant)
      (and-true _ _ (font_weights_find.self a.font_weight)
      (and-true _ _ (text_decorations_find.self a.text_decoration) (vertical_aligns_find.self a.vertical_align))));
}

pub formatted_find : Finds (formatted_eq.ghosts).eq
formatted_find = record {
  equal = λ a b e. let p = both _ _ e in
      λ i. record {
        text = texts_find.equal a.text b.text p.0 i;
        formatting = formattings_find.equal a.formatting b.formatting p.1 i;
      };
  self = λ a. and-true _ _ (texts_find.self a.text) (formattings_find.self a.formatting);
}

-- what is asked of a formatting: each part, where it is asked
pub style_formattings_find : Finds (style_formatting_eq.ghosts).eq
style_formattings_find = record {
  equal = λ a b e. let p = both _ _ e in let q = both _ _ p.1 in let r = both _ _ q.1 in let s = both _ _ r.1 in
      λ i. record {
        font_style = (options_find font_styles_find).equal a.font_style b.font_style p.0 i;
        font_variant = (options_find font_variants_find).equal a.font_variant b.font_variant q.0 i;
        font_weight = (options_find font_weights_find).equal a.font_weight b.font_weight r.0 i;
        text_decoration = (options_find text_decorations_find).equal a.text_decoration b.text_decoration s.0 i;
        vertical_align = (options_find vertical_aligns_find).equal a.vertical_align b.vertical_align s.1 i;
      };
  self = λ a.
      and-true _ _ ((options_find font_styles_find).self a.font_style)
      (and-true _ _ ((options_find font_variants_find).self a.font_variant)
      (and-true _ _ ((options_find font_weights_find).self a.font_weight)
      (and-true _ _ ((options_find text_decorations_find).self a.text_decoration) ((options_find vertical_aligns_find).self a.vertical_align))));
}
