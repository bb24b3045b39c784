use Rattle.std.proofs.Common.{append_assoc, lit<}
use Rattle.write_json.proofs.Closing.{closed}
use Rattle.write_json.proofs.Objects.{names_text}
use Rattle.write_json.proofs.metas.write_names.Goals as goal

pub returns : goal.returns
returns c =
    closed c.push.result _ _ _ _ (lit< tt) c.push.ensures.bytes
    (rw (c.in_ok-push_str-3.ensures.bytes, c.variable_text.ensures, c.in_ok-push_str-2.ensures.bytes, c.in_ok-write_persons.ensures, c.as_slice.ensures, c.in_ok-push_str.ensures.bytes, names_text c.args.names.now) (simp append_assoc))
