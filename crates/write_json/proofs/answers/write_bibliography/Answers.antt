use Rattle.std.proofs.Common.{lit<, string_bytes, w16, rules}
use Rattle.std.specs.Int.RustNames.{FitsSigned}
use Rattle.std.proofs.lemmas.Int.{to_z-of_z}
use Rattle.write_json.proofs.AnswerObjects.{bibliography_after}
use Rattle.write_json.proofs.Closing.{closed}
use Rattle.write_json.proofs.answers.write_bibliography.Goals as goal

pub returns : goal.returns
returns c =
    let b = c.args.bibliography.now in
    let entry : FitsSigned w16 b.entry_spacing = search rules in
    let line : FitsSigned w16 c.get.result = search rules in
    closed c.push.result _ _ _ _ (lit< tt) c.push.ensures.bytes
    (rw (c.in_ok-write_align.ensures, c.in_ok-write_short-2.ensures, to_z-of_z w16 c.get.result line, c.get.ensures.value, c.in_ok-push_str-5.ensures.bytes, c.in_ok-write_items.ensures, c.as_slice.ensures, c.in_ok-push_str-4.ensures.bytes, c.in_ok-push_str-3.ensures.bytes, c.indent_text.ensures, c.in_ok-push_str-2.ensures.bytes, c.in_ok-write_short.ensures, to_z-of_z w16 b.entry_spacing entry, c.in_ok-push_str.ensures.bytes) (bibliography_after (string_bytes c.args.out.now) b))
