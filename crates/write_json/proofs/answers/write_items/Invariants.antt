-- What is left is yet to be written.
use Rattle.std.proofs.Common.{◌≡◌, ◌++◌, drop, map, string_bytes}
use Rattle.serde_json.specs.Data.{array}
use Rattle.serde_json.specs.View.{items_of}
use Rattle.serde_json.specs.Written.{compact_text}
use Rattle.write_json.specs.AnswerData.{item_data}
use Rattle.write_json.proofs.Items.{rest_text}
use Rattle.write_json.proofs.answers.write_items.Given as goal

abbrev pub invariant-loop-item : goal.invariant-loop-item
invariant-loop-item l = string_bytes l.out ++ rest_text item_data l.later (drop l.item-index l.items) ≡ string_bytes l.fn.out ++ compact_text (array (items_of (map item_data l.items)))
