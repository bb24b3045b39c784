use Rattle.std.proofs.Common.{append_assoc, lit<, map, string_bytes}
use Rattle.serde_json.specs.Data.{array}
use Rattle.serde_json.specs.View.{items_of}
use Rattle.write_json.specs.AnswerData.{bibliography_data, citation_data}
use Rattle.write_json.proofs.AnswerObjects.{answer_after, bare_answer_text}
use Rattle.write_json.proofs.Closing.{closed}
use Rattle.write_json.proofs.answers.write_answer.Goals as goal

pub returns-in_ok-write_citations-in-None : goal.returns-in_ok-write_citations-in-None
returns-in_ok-write_citations-in-None c =
    let citations = array (items_of (map citation_data c.args.answer.now.citations)) in
    closed c.push.result _ _ _ _ (lit< tt) c.push.ensures.bytes
    (rw (c.in-None.is, c.in_ok-write_citations-in-None.ensures, c.as_slice.ensures, c.in_ok-push_str-in-None.ensures.bytes, bare_answer_text citations) (simp append_assoc))

pub returns-in_ok-write_citations-in-Some : goal.returns-in_ok-write_citations-in-Some
returns-in_ok-write_citations-in-Some c =
    let citations = array (items_of (map citation_data c.args.answer.now.citations)) in
    closed c.push-in-Some.result _ _ _ _ (lit< tt) c.push-in-Some.ensures.bytes
    (rw (c.in-Some.is, c.in_ok-write_citations-in-Some.ensures, c.as_slice-in-Some.ensures, c.in_ok-push_str-in-Some-2.ensures.bytes, c.in_ok-write_bibliography-in-Some.ensures, c.in_ok-push_str-in-Some.ensures.bytes) (answer_after (string_bytes c.args.out.now) (bibliography_data c.in-Some.bibliography) citations))
