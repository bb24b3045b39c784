-- What is left is yet to be written.
use Rattle.std.proofs.Common.{◌≡◌, ◌++◌, drop, map, string_bytes}
use Rattle.serde_json.specs.Data.{array}
use Rattle.serde_json.specs.View.{items_of}
use Rattle.serde_json.specs.Written.{compact_text}
use Rattle.write_json.specs.AnswerData.{citation_data}
use Rattle.write_json.proofs.Items.{rest_text}
use Rattle.write_json.proofs.answers.write_citations.Given as goal

abbrev pub invariant-loop-citation : goal.invariant-loop-citation
invariant-loop-citation l = string_bytes l.out ++ rest_text citation_data l.later (drop l.citation-index l.citations) ≡ string_bytes l.fn.out ++ compact_text (array (items_of (map citation_data l.citations)))
