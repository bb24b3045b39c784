use Rattle.std.proofs.Common.{append_assoc, lit<}
use Rattle.write_json.proofs.Closing.{closed}
use Rattle.write_json.proofs.Objects.{name_text}
use Rattle.write_json.proofs.metas.write_name.Goals as goal

pub returns : goal.returns
returns c =
    closed c.push.result _ _ _ _ (lit< tt) c.push.ensures.bytes
    (rw (c.in_ok-push_str-3.ensures.bytes, c.variable_text.ensures, c.in_ok-push_str-2.ensures.bytes, c.in_ok-write_count.ensures, c.in_ok-push_str.ensures.bytes, name_text c.args.variable c.args.place) (simp append_assoc))
