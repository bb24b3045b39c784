use Rattle.write_json.proofs.Escaped.{plain_unless_backslash}
use Rattle.write_json.proofs.strings.is_plain_byte.Goals as goal

pub returns-then-byte-ne34 : goal.returns-then-byte-ne34
returns-then-byte-ne34 c = plain_unless_backslash c.args.byte c.if-byte-ne34.true.0 c.if-byte-ne34.true.1
