-- A character is written, and then those after it.
use Rattle.std.proofs.Common.{append_assoc}
use Rattle.std.proofs.lemmas.Str.{IsUtf8-past_char}
use Rattle.write_json.proofs.Escaped.{escape-append}
use Rattle.write_json.proofs.strings.write_escaped.Goals as goal

pub loop-c-preserved : goal.loop-c-preserved
loop-c-preserved c =
    let held = c.loop-c.invariant in
    let parts = c.in-Some.ensures.steps.0 in
    record {
      valid = IsUtf8-past_char _ _ c.in-Some.c held.valid parts;
      rest = rw (c.in_ok-write_char.ensures, append_assoc) (rw (parts, escape-append) at held.rest);
    }
