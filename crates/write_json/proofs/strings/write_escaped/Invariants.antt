-- What is left of the text is yet to be written.
use Rattle.std.proofs.Common.{◌≡◌, ◌++◌, string_bytes}
use Rattle.std.specs.Str.{IsUtf8}
use Rattle.json.specs.Print.{escape}
use Rattle.write_json.proofs.strings.write_escaped.Given as goal

abbrev pub invariant-loop-c : goal.invariant-loop-c
invariant-loop-c l = record {
  valid : IsUtf8 (l.c-iterator.rest.now);
  rest : string_bytes l.out ++ escape (l.c-iterator.rest.now) ≡ string_bytes l.initial.out ++ escape l.text;
}
