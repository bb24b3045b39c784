-- What an entry answers, call by call.
use Rattle.std.specs.Prelude.{ℕ, List, Option}
use Rattle.value_sources.specs.declared.taxonomy.NameVariable.{NameVariable}
use Rattle.value_sources.specs.declared.taxonomy.DateVariable.{DateVariable}
use Rattle.value_sources.specs.declared.taxonomy.StandardVariable.{StandardVariable}
use Rattle.value_sources.specs.declared.taxonomy.NumberVariable.{NumberVariable}
use Rattle.value_sources.specs.declared.entry.Person.{Person}
use Rattle.value_sources.specs.declared.entry.Date.{Date}
use Rattle.value_sources.specs.declared.entry.ChunkedString.{ChunkedString}

pub record Answers : Type 0 where
  pub key : List ℕ
  pub label : Option (List ℕ)
  pub names : NameVariable → List Person
  pub date : DateVariable → Option Date
  pub text : StandardVariable → Option ChunkedString
  pub number : NumberVariable → Option (List ℕ)
