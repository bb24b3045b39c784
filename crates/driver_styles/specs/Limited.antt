-- Styles within limits, and beyond them.
use Rattle.std.specs.Prelude.{◌≡◌, ℕ, ◌+◌, ◌<◌, ◌≤◌, ◌⊎◌, List, true, false, Some, Result, Ok, Err, ⊤}
use Rattle.std.specs.Option.{ForSome}
use Rattle.value_styles.specs.Element.{Element, Macro}
use Rattle.value_styles.specs.Style.{BibliographyValue, StyleValue}
use Rattle.driver_styles.specs.declared.limits.Excess.{Excess}
use Rattle.driver_styles.specs.declared.limits.Excess.TheVariants as excess
use Rattle.driver_styles.specs.declared.limits.Limits.{Limits}
use Rattle.driver_styles.specs.Nesting.{items, nests_within, count_to}

-- the layout of citations is such, and that of the bibliography where there is one
abbrev pub EachLayout : (List Element → Type 0) → StyleValue → Type 0
EachLayout Such style =
    Such (items style.citation.layout.elements)
    × ForSome style.bibliography (λ b. Such (items b.layout.elements))

-- the layout of citations is such, or that of the bibliography
abbrev pub SomeLayout : (List Element → Type 0) → StyleValue → Type 0
SomeLayout Such style =
    Such (items style.citation.layout.elements)
    ⊎ ((b : BibliographyValue) × (style.bibliography ≡ Some b) × Such (items b.layout.elements))

-- elements nest no deeper than allowed, and are no more than allowed
abbrev pub AreWithinLimits : Limits → List Macro → List Element → Type 0
AreWithinLimits limits macros es =
    (nests_within macros limits.depth es ≡ true)
    × (count_to macros limits.depth es ≤ limits.elements)

-- elements exceed a limit
abbrev pub Exceed : Excess → Limits → List Macro → List Element → Type 0
Exceed excess.Depth limits macros es = nests_within macros limits.depth es ≡ false
Exceed excess.Elements limits macros es = limits.elements < count_to macros limits.depth es

-- each layout of a style is within the limits
abbrev pub IsWithinLimits : Limits → StyleValue → Type 0
IsWithinLimits limits style = EachLayout (AreWithinLimits limits style.macros) style

-- a layout of a style exceeds a limit
abbrev pub Exceeds : Excess → Limits → StyleValue → Type 0
Exceeds which limits style = SomeLayout (Exceed which limits style.macros) style

-- ---- for private clauses

-- a check of elements: they are within the limits, or exceed one
abbrev pub ChecksLayout : Limits → List Macro → List Element → Result ⊤ Excess → Type 0
ChecksLayout limits macros es (Ok done) = AreWithinLimits limits macros es
ChecksLayout limits macros es (Err which) = Exceed which limits macros es

-- of so many elements that are allowed, so many are left behind these
abbrev pub Counted : List Macro → ℕ → List Element → ℕ → Result ℕ Excess → Type 0
Counted macros depth es allowed (Ok left) =
    (nests_within macros depth es ≡ true) × (count_to macros depth es + left ≡ allowed)
Counted macros depth es allowed (Err which) =
    Exceed which (record { depth = depth; elements = allowed }) macros es
