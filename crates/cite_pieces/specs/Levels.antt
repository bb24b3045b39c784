-- How much an element opens around its content.
use Rattle.std.specs.Prelude.{ℕ, ◌+◌, Bool, true, false, ◌||◌, is_some}
use Rattle.cite_pieces.specs.declared.output.Element.{Element}
use Rattle.style_file.specs.declared.formatting.Formatting.{Formatting}

abbrev pub one_if : Bool → ℕ
one_if true = 1
one_if false = 0

abbrev pub asks : Formatting → Bool
asks f =
    is_some f.font_style || (is_some f.font_variant || (is_some f.font_weight
    || (is_some f.text_decoration || is_some f.vertical_align)))

-- the quotes, the mark and the formatting
abbrev pub levels_inside : Element → ℕ
levels_inside element =
    one_if element.has_quotes + one_if (is_some element.mark) + one_if (asks element.formatting)

-- these and what its display sets off
abbrev pub levels : Element → ℕ
levels element = one_if (is_some element.display) + levels_inside element
