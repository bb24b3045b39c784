-- What is left is yet to be written.
use Rattle.std.proofs.Common.{◌≡◌, ◌++◌, drop, map, string_bytes}
use Rattle.serde_json.specs.Data.{array}
use Rattle.serde_json.specs.View.{items_of}
use Rattle.serde_json.specs.Written.{compact_text}
use Rattle.write_json.specs.MetaData.{person_data}
use Rattle.write_json.proofs.Items.{rest_text}
use Rattle.write_json.proofs.metas.write_persons.Given as goal

abbrev pub invariant-loop-person : goal.invariant-loop-person
invariant-loop-person l = string_bytes l.out ++ rest_text person_data l.later (drop l.person-index l.persons) ≡ string_bytes l.fn.out ++ compact_text (array (items_of (map person_data l.persons)))
