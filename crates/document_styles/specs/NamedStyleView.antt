-- The plain data that named styles stand for.
use Rattle.std.specs.Prelude.{List, map, string_bytes}
use Rattle.value_styles.specs.StyleView.{style_view}
use Rattle.document_styles.specs.Styles as form
use Rattle.document_styles.specs.declared.styles.NamedStyle.{NamedStyle}

-- a style and its name
abbrev pub named_style_view : NamedStyle → form.NamedStyle
named_style_view s = (string_bytes s.name, style_view s.style)

-- styles and their names
abbrev pub named_styles_view : List NamedStyle → List form.NamedStyle
named_styles_view = map named_style_view
