use Rattle.value_sources.specs.EqualEntries.{chunked_strings_find, plain_entries_find}
use Rattle.value_sources.specs.Finds.{decides}
use Rattle.value_sources.proofs.laws.entry_equality_decides.Goals as goal

pub returns-clause-text : goal.returns-clause-text
returns-clause-text c = decides chunked_strings_find

pub returns-clause-entry : goal.returns-clause-entry
returns-clause-entry c = decides plain_entries_find
