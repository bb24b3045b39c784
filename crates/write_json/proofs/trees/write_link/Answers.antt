use Rattle.std.proofs.Common.{append_assoc, lit<}
use Rattle.std.proofs.lemmas.Str.{encode_ascii}
use Rattle.write_json.proofs.Closing.{closed}
use Rattle.write_json.proofs.Objects.{link_text}
use Rattle.write_json.proofs.trees.write_link.Goals as goal

pub returns : goal.returns
returns c =
    closed c.push-2.result _ _ _ _ (lit< tt) c.push-2.ensures.bytes
    (rw (c.in_ok-write_string-2.ensures, c.in_ok-push_str-2.ensures.bytes, c.in_ok-write_string.ensures, c.as_str.ensures, c.in_ok-push_str.ensures.bytes, c.in_ok-write_formatting.ensures, c.in_ok-push.ensures.bytes, encode_ascii 123 (lit< tt), link_text c.args.text.now c.args.url.now) (simp append_assoc))
