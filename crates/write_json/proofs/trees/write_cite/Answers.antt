use Rattle.std.proofs.Common.{append_assoc, lit<}
use Rattle.std.proofs.lemmas.Str.{encode_ascii}
use Rattle.write_json.proofs.Closing.{closed}
use Rattle.write_json.proofs.Objects.{cite_text}
use Rattle.write_json.proofs.trees.write_cite.Goals as goal

pub returns : goal.returns
returns c =
    closed c.push-2.result _ _ _ _ (lit< tt) c.push-2.ensures.bytes
    (rw (c.in_ok-write_formatting.ensures, c.in_ok-push.ensures.bytes, encode_ascii 44 (lit< tt), c.in_ok-write_count.ensures, c.in_ok-push_str.ensures.bytes, cite_text c.args.cite c.args.format) (simp append_assoc))
