-- The date text: the year of an entry alone.
use Rattle.std.specs.Prelude.{◌∷◌, [], ◌++◌, List, ℕ, Option, None, Some, false, codes}
use Rattle.value_sources.specs.Answers.{Answers}
use Rattle.value_trees.specs.Child.{Child, text}
use Rattle.value_sources.specs.Formatting.{normal}
use Rattle.value_sources.specs.declared.entry.Date.{Date}
use Rattle.value_sources.specs.declared.taxonomy.DateVariable.{DateVariable}
use Rattle.value_sources.specs.declared.taxonomy.OtherTerm.{OtherTerm}
use Rattle.driver_lookup.specs.Lookup.{Source, lookup, term_of, first_answer}
use Rattle.driver_lookup.specs.SuffixLetters.{suffix_letters}
use Rattle.layout_picking.specs.Variables.{words_for}
use Rattle.driver_lookup.specs.Years.{year_text}

-- the first that an entry has of the dates that stand for it
abbrev pub date_of_entry : Answers → Option Date
date_of_entry answers =
    first_answer answers.date (DateVariable.Issued ∷ DateVariable.EventDate ∷ DateVariable.Submitted
    ∷ DateVariable.OriginalDate ∷ [])

-- a term in its long form, or these words where no locale has it
abbrev pub long_term : Source → OtherTerm → List ℕ → List ℕ
long_term source = words_for (term_of (lookup source) None)

abbrev pub date_words : Source → Option Date → List ℕ
date_words source None = long_term source OtherTerm.NoDate (codes "n.d.")
date_words source (Some d) =
    year_text d.year false (long_term source OtherTerm.Ad (codes " AD"))
    (long_term source OtherTerm.Bc (codes " BC"))

-- a text, with the letters of a suffix behind it, if there is one
abbrev pub with_suffix : Option ℕ → List ℕ → List ℕ
with_suffix None words = words
with_suffix (Some suffix) words = words ++ suffix_letters suffix

-- the date text of an entry, with such a suffix: one text without formatting
unfoldable pub date_text : Source → Answers → Option ℕ → List Child
date_text source answers suffix =
    text (record {
      text = with_suffix suffix (date_words source (date_of_entry answers));
      formatting = normal;
    }) ∷ []
