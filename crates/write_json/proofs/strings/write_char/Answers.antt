use Rattle.std.proofs.Common.{refl, sym, arith}
use Rattle.std.proofs.lemmas.Grind.{common_steps}
use Rattle.write_json.proofs.Escaped.{no_letter, escape_short, escape_control, escape_plain}
use Rattle.write_json.proofs.strings.write_char.Goals as goal

pub returns-in-Some : goal.returns-in-Some
returns-in-Some c =
    let told = c.in-Some.ensures in
    rw (escape_short c.args.c (told.has_letter.0 refl), sym told.escape) (grind (arith, common_steps))

pub returns-then-c-lt32 : goal.returns-then-c-lt32
returns-then-c-lt32 c = rw (escape_control c.args.c (no_letter _ c.in_default.ensures.has_letter.1) c.if-c-lt32.true) c.write_control.ensures

pub returns : goal.returns
returns c = rw (escape_plain c.args.c (no_letter _ c.in_default.ensures.has_letter.1) c.if-c-lt32.false) (grind (arith, common_steps))
