-- The plain data that the styles of a document stand for, prepared or not.
use Rattle.std.specs.Prelude.{List, map}
use Rattle.value_styles.specs.Style.{StyleValue}
use Rattle.value_styles.specs.StyleView.{style_view}
use Rattle.document_requests.specs.declared.found.FoundStyle.{FoundStyle}
use Rattle.document_styles.specs.declared.styles.NamedStyle.{NamedStyle}

abbrev pub found_views : List FoundStyle → List StyleValue
found_views = map (λ f. style_view f.style.now)

-- the styles without their names
abbrev pub unnamed : List NamedStyle → List StyleValue
unnamed = map (λ s. style_view s.style)
