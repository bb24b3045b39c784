-- Delimiters of cites that are collapsed.
use Rattle.std.specs.Prelude.{ℕ, List, Option}
use Rattle.std.specs.Option.{option_or}
use Rattle.value_styles.specs.Style.{CitationValue}

-- what stands before a cite that follows collapsed ones
abbrev pub after_collapse : CitationValue → Option (List ℕ)
after_collapse citation = option_or citation.after_collapse_delimiter citation.layout.delimiter
