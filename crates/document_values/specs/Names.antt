-- How a document names the values of enums.
use Rattle.std.specs.Prelude.{ℕ, List, [], ◌∷◌, Option, Some, None, option_map, map, nat_eq, codes, drop, if◌then◌else◌}
use Rattle.std.specs.Borrow.{Bor}
use Rattle.std.specs.Cmp.Lexicographic.{pointwise}
use Rattle.std.specs.List.{starts_with}
use Rattle.serde_json.specs.Data.{Data}
use Rattle.value_sources.specs.declared.taxonomy.Term.{Term}
use Rattle.value_sources.specs.declared.taxonomy.Variable.{Variable}
use Rattle.document_values.specs.Words.{first_of, name_form}
use Rattle.document_values.specs.Tables.{NameTable, name_variables, date_variables, standard_variables, number_variables, locators, other_terms}

-- the value of a name, by a table: that of the first row that has the name
abbrev pub value_named : {A : Type 0} → NameTable A → List ℕ → Option A
value_named [] name = None
value_named (row ∷ rows) name = if pointwise nat_eq row.0 name then Some row.1
    else value_named rows name

-- a text that names a value of the table
abbrev pub one_of : {A : Type 0} → NameTable A → Data → Option A
one_of rows = name_form (value_named rows)

-- the rows that code has, as plain data
abbrev pub rows_view : {A : Type 0} → List (Bor (List ℕ) × A) → NameTable A
rows_view = map (λ row. (row.0.now, row.1))

-- the variable of a name, of any kind
abbrev pub variable_named : List ℕ → Option Variable
variable_named name =
    first_of (option_map Variable.Name (value_named name_variables name))
    (first_of (option_map Variable.Date (value_named date_variables name))
    (first_of (option_map Variable.Standard (value_named standard_variables name))
    (option_map Variable.Number (value_named number_variables name))))

-- what a locator's term begins with
abbrev pub locator_prefix : List ℕ
locator_prefix = codes "locator-"

-- the term of a locator, named by `locator-` and the locator's name
abbrev pub locator_term_named : List ℕ → Option Term
locator_term_named name =
    if starts_with nat_eq name locator_prefix
    then option_map Term.Locator (value_named locators (drop 8 name))
    else None

-- the term of a name: one that is named after nothing else, or a locator's, or a number variable's
abbrev pub term_named : List ℕ → Option Term
term_named name =
    first_of (option_map Term.Other (value_named other_terms name))
    (first_of (locator_term_named name)
    (option_map Term.NumberVariable (value_named number_variables name)))
