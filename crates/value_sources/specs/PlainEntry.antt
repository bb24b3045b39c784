-- What an entry answers that is a value: the first pair of a variable decides.
use Rattle.std.specs.Prelude.{Bool, [], unwrap_or}
use Rattle.value_sources.specs.declared.taxonomy.NameVariable.{NameVariable}
use Rattle.value_sources.specs.declared.taxonomy.DateVariable.{DateVariable}
use Rattle.value_sources.specs.declared.taxonomy.StandardVariable.{StandardVariable}
use Rattle.value_sources.specs.declared.taxonomy.NumberVariable.{NumberVariable}
use Rattle.value_sources.specs.declared.entry.PlainEntry.{PlainEntry}
use Rattle.value_sources.specs.contracts.taxonomy.NameVariablePartialEq.TheImpl as name_variable_eq
use Rattle.value_sources.specs.contracts.taxonomy.DateVariablePartialEq.TheImpl as date_variable_eq
use Rattle.value_sources.specs.contracts.taxonomy.StandardVariablePartialEq.TheImpl as standard_variable_eq
use Rattle.value_sources.specs.contracts.taxonomy.NumberVariablePartialEq.TheImpl as number_variable_eq
use Rattle.value_sources.specs.Answers.{Answers}
use Rattle.value_sources.specs.Found.{first_value}

-- whether two variables are equal, by their derived tests
abbrev pub same_name_variable : NameVariable → NameVariable → Bool
same_name_variable = (name_variable_eq.ghosts).eq

abbrev pub same_date_variable : DateVariable → DateVariable → Bool
same_date_variable = (date_variable_eq.ghosts).eq

abbrev pub same_standard_variable : StandardVariable → StandardVariable → Bool
same_standard_variable = (standard_variable_eq.ghosts).eq

abbrev pub same_number_variable : NumberVariable → NumberVariable → Bool
same_number_variable = (number_variable_eq.ghosts).eq

abbrev pub plain_answers : PlainEntry → Answers
plain_answers e = record {
  key = e.key;
  label = e.label;
  names = λ v. unwrap_or (first_value same_name_variable v e.names) [];
  date = λ v. first_value same_date_variable v e.dates;
  text = λ v. first_value same_standard_variable v e.texts;
  number = λ v. first_value same_number_variable v e.numbers;
}
