-- Look-up in locales: which are asked, in which order, and what they answer.
use Rattle.std.specs.Prelude.{ℕ, List, [], ◌∷◌, ◌++◌, Bool, false, ◌==◌, Option, None, Some, option_and_then, option_to_list, unwrap_or, bytes_eq, codes, if◌then◌else◌}
use Rattle.std.specs.List.{before_first}
use Rattle.std.specs.Option.{option_or}
use Rattle.value_sources.specs.declared.taxonomy.Locator.{Locator}
use Rattle.value_sources.specs.declared.taxonomy.NumberVariable.{NumberVariable}
use Rattle.value_sources.specs.declared.taxonomy.Term.{Term}
use Rattle.value_sources.specs.declared.taxonomy.TermForm.{TermForm}
use Rattle.value_sources.specs.Found.{first_value}
use Rattle.value_styles.specs.Style.{TermValue, LocaleValue, StyleValue}
use Rattle.driver_styles.specs.Terms.{locale_of, term_in}
use Prim.Native.Char.{code}

-- what is looked up in: the style's own locales, the locale files, and the code of the locale in
-- use
pub record Lookup : Type 0 where
  pub own : List LocaleValue
  pub files : List LocaleValue
  pub code : List ℕ

-- a style, the locale that is asked for in place of its own, and the locale files
pub record Source : Type 0 where
  pub style : StyleValue
  pub locale : Option (List ℕ)
  pub files : List LocaleValue

abbrev pub en_us : List ℕ
en_us = codes "en-US"

-- the locale that is asked for, else the style's default, else American English
abbrev pub locale_in_use : Source → List ℕ
locale_in_use s = unwrap_or (option_or s.locale s.style.default_locale) en_us

abbrev pub lookup : Source → Lookup
lookup s = record { own = s.style.locale; files = s.files; code = locale_in_use s }

-- the text before the first `-`
abbrev pub base_language : List ℕ → List ℕ
base_language = before_first (λ b. b == code "-")

-- the dialects that have another one as their primary dialect
abbrev pub primary_dialects : List (List ℕ × List ℕ)
primary_dialects =
    (codes "de-AT", codes "de-DE")
    ∷ (codes "de-CH", codes "de-DE")
    ∷ (codes "en-GB", codes "en-US")
    ∷ (codes "pt-BR", codes "pt-PT")
    ∷ (codes "zh-TW", codes "zh-CN")
    ∷ []

abbrev pub primary_dialect : List ℕ → Option (List ℕ)
primary_dialect code = first_value bytes_eq code primary_dialects

-- of the style's own locales those of the code, of its base language, and of no language are asked
abbrev pub asked_own : Lookup → List LocaleValue
asked_own k =
    option_to_list (locale_of (Some k.code) k.own)
    ++ option_to_list (locale_of (Some (base_language k.code)) k.own)
    ++ option_to_list (locale_of None k.own)

-- of the files those of the code, of its primary dialect, and of American English
abbrev pub asked_files : Lookup → List LocaleValue
asked_files k =
    option_to_list (locale_of (Some k.code) k.files)
    ++ option_to_list (option_and_then (λ dialect. locale_of (Some dialect) k.files)
    (primary_dialect k.code))
    ++ option_to_list (locale_of (Some en_us) k.files)

-- the locales that are asked, in their order
abbrev pub asked : Lookup → List LocaleValue
asked k = asked_own k ++ asked_files k

-- the first answer along a list
abbrev pub first_answer : {A R : Type 0} → (A → Option R) → List A → Option R
first_answer f [] = None
first_answer f (x ∷ xs) = option_or (f x) (first_answer f xs)

-- a form of a term, and then those that stand in for it
abbrev pub forms_from : TermForm → List TermForm
forms_from TermForm.Long = TermForm.Long ∷ []
forms_from TermForm.Short = TermForm.Short ∷ TermForm.Long ∷ []
forms_from TermForm.Verb = TermForm.Verb ∷ TermForm.Long ∷ []
forms_from TermForm.VerbShort = TermForm.VerbShort ∷ TermForm.Verb ∷ TermForm.Long ∷ []
forms_from TermForm.Symbol = TermForm.Symbol ∷ TermForm.Short ∷ TermForm.Long ∷ []

-- the first of some forms for which the look-up finds the term decides
abbrev pub found_along : Lookup → Term → List TermForm → Option TermValue
found_along k name = first_answer (λ form. first_answer (term_in name form) (asked k))

abbrev pub found_term : Lookup → Term → TermForm → Option TermValue
found_term k name form = found_along k name (forms_from form)

-- the locator variable means the term of what the cite's locator counts, where it has one
abbrev pub term_meant : Option Locator → Term → Term
term_meant (Some kind) (Term.NumberVariable NumberVariable.Locator) = Term.Locator kind
term_meant _ name = name

-- the words of a term in one of its numbers, which it may lack
abbrev pub in_number : Bool → TermValue → Option (List ℕ)
in_number plural t = if plural then t.multiple else t.single

-- what a term is in words, for a cite with such a locator
abbrev pub term_of : Lookup → Option Locator → Term → TermForm → Bool → Option (List ℕ)
term_of k locator name form plural =
    option_and_then (in_number plural) (found_term k (term_meant locator name) form)

-- whether `.` and `,` go before a closing quote
abbrev pub punctuation_in_quotes : Lookup → Bool
punctuation_in_quotes k = unwrap_or (first_answer (λ l. l.punctuation_in_quote) (asked k)) false
