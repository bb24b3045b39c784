use Rattle.std.proofs.Common.{append_assoc, lit<}
use Rattle.write_json.proofs.AnswerObjects.{citation_text}
use Rattle.write_json.proofs.Closing.{closed}
use Rattle.write_json.proofs.answers.write_citation.Goals as goal

pub returns : goal.returns
returns c =
    closed c.push.result _ _ _ _ (lit< tt) c.push.ensures.bytes
    (rw (c.in_ok-write_note.ensures, c.in_ok-write_children.ensures, c.in_ok-push_str.ensures.bytes, citation_text c.args.citation.now) (simp append_assoc))
