use Rattle.std.proofs.Common.{append_assoc}
use Rattle.json.specs.Print.{escape_byte}
use Rattle.write_json.proofs.answers.write_field.Goals as goal

pub returns-in_ok-push_str-in-Some : goal.returns-in_ok-push_str-in-Some
unfolding escape_byte
returns-in_ok-push_str-in-Some c = rw c.in-Some.is (rw (c.in_ok-push_str-in-Some.ensures.bytes, append_assoc) at c.write_child.ensures)
