-- The laws of the last text.
use Rattle.value_trees.proofs.LastTextLaws.{read_after_write, write_what_is_read, no_text_no_change}
use Rattle.value_trees.proofs.last_text.last_text_laws.Goals as goal

pub returns : goal.returns
returns c = record { read_after_write = read_after_write; write_what_is_read = write_what_is_read; no_text_no_change = no_text_no_change }
