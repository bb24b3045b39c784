-- What was found is written as its text says.
use Rattle.document_answer.proofs.faults.push_found.Goals as goal

pub returns-in-UnknownKey : goal.returns-in-UnknownKey
returns-in-UnknownKey c = rw (c.in-UnknownKey.is, ← c.as_str.ensures.value) c.push_named.ensures

pub returns-in-MissingKey : goal.returns-in-MissingKey
returns-in-MissingKey c = rw (c.in-MissingKey.is, ← c.as_str-in-MissingKey.ensures.value) c.push_named-in-MissingKey.ensures

pub returns-in-NoUtf8 : goal.returns-in-NoUtf8
returns-in-NoUtf8 c = rw c.in-NoUtf8.is c.push_counted-in-NoUtf8.ensures
