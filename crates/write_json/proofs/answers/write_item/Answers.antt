use Rattle.std.proofs.Common.{lit<, string_bytes}
use Rattle.write_json.proofs.AnswerObjects.{item_after}
use Rattle.write_json.proofs.Closing.{closed}
use Rattle.write_json.proofs.answers.write_item.Goals as goal

pub returns : goal.returns
returns c =
    closed c.push.result _ _ _ _ (lit< tt) c.push.ensures.bytes
    (rw (c.in_ok-write_string.ensures, c.as_str.ensures, c.in_ok-push_str-2.ensures.bytes, c.in_ok-write_field.ensures, c.in_ok-write_children.ensures, c.in_ok-push_str.ensures.bytes) (item_after (string_bytes c.args.out.now) c.args.item.now))
