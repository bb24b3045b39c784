use Rattle.std.proofs.Common.{refl, sym}
use Rattle.write_html.proofs.Bases.{none_below}
use Rattle.write_html.specs.declared.superscripts.TheConstants.{SUPERSCRIPTS}
use Rattle.write_html.proofs.superscripts.base_of.Goals as goal

pub returns-then-c-lt170 : goal.returns-then-c-lt170
returns-then-c-lt170 c = sym (none_below SUPERSCRIPTS.now c.args.c 170 c.if-c-lt170.true refl)
