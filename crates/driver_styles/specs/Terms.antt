-- Locales by language, and terms of a locale by name and form.
use Rattle.std.specs.Prelude.{ℕ, List, Bool, ◌&&◌, Option, find, bytes_eq}
use Rattle.std.specs.Option.{option_eq}
use Rattle.value_sources.specs.declared.taxonomy.Term.{Term}
use Rattle.value_sources.specs.declared.taxonomy.TermForm.{TermForm}
use Rattle.value_sources.specs.contracts.taxonomy.TermPartialEq.TheImpl as term_eq
use Rattle.value_sources.specs.contracts.taxonomy.TermFormPartialEq.TheImpl as form_eq
use Rattle.value_sources.specs.Found.{first_at}
use Rattle.value_styles.specs.Style.{TermValue, LocaleValue}

-- the first locale of a language, where none is the language of a locale that names none
abbrev pub locale_of : Option (List ℕ) → List LocaleValue → Option LocaleValue
locale_of language = find (λ l. option_eq bytes_eq l.lang language)

-- the term has this name and form
abbrev pub is_term : Term → TermForm → TermValue → Bool
is_term name form t = (term_eq.ghosts).eq t.name name && (form_eq.ghosts).eq t.form form

-- the first such term of a locale
abbrev pub term_in : Term → TermForm → LocaleValue → Option TermValue
term_in name form l = find (is_term name form) l.terms

-- and its place among the terms
abbrev pub place_of_term : Term → TermForm → LocaleValue → Option ℕ
place_of_term name form l = first_at (is_term name form) l.terms
