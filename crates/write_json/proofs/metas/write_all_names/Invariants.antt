-- What is left is yet to be written.
use Rattle.std.proofs.Common.{◌≡◌, ◌++◌, drop, map, string_bytes}
use Rattle.serde_json.specs.Data.{array}
use Rattle.serde_json.specs.View.{items_of}
use Rattle.serde_json.specs.Written.{compact_text}
use Rattle.write_json.specs.MetaData.{names_data}
use Rattle.write_json.proofs.Items.{rest_text}
use Rattle.write_json.proofs.metas.write_all_names.Given as goal

abbrev pub invariant-loop-names : goal.invariant-loop-names
invariant-loop-names l = string_bytes l.out ++ rest_text names_data l.later (drop l.names-index l.all) ≡ string_bytes l.fn.out ++ compact_text (array (items_of (map names_data l.all)))
