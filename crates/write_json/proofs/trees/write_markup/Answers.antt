use Rattle.std.proofs.Common.{append_assoc, lit<}
use Rattle.write_json.proofs.Closing.{closed}
use Rattle.write_json.proofs.Objects.{markup_text}
use Rattle.write_json.proofs.trees.write_markup.Goals as goal

pub returns : goal.returns
returns c =
    closed c.push.result _ _ _ _ (lit< tt) c.push.ensures.bytes
    (rw (c.in_ok-write_string.ensures, c.in_ok-push_str.ensures.bytes, markup_text c.args.markup.now) (simp append_assoc))
