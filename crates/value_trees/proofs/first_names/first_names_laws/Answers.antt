-- The laws of the first element of meta Names.
use Rattle.value_trees.proofs.FirstNamesLaws.{read_after_write, write_what_is_read, no_names_no_change}
use Rattle.value_trees.proofs.first_names.first_names_laws.Goals as goal

pub returns : goal.returns
returns c = record { read_after_write = read_after_write; write_what_is_read = write_what_is_read; no_names_no_change = no_names_no_change }
