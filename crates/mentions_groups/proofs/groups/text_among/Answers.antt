use Rattle.std.proofs.Common.{None, ap, cond, sym, ◌∙◌}
use Rattle.mentions_groups.specs.Groups.{first_with}
use Rattle.mentions_groups.proofs.Classing.{text-is}
use Rattle.mentions_groups.proofs.groups.text_among.Goals as goal

pub returns-then-has_text : goal.returns-then-has_text
returns-then-has_text c = λ ms h. c.first_of.ensures ∙ text-is c.args.classes.now ms c.args.mention.now h (sym c.has_text.ensures ∙ c.if-has_text.true)

pub returns-else-has_text : goal.returns-else-has_text
returns-else-has_text c = λ ms h. sym (ap (λ b. cond b (first_with ms c.args.mention.now.text) None) (sym c.has_text.ensures ∙ c.if-has_text.false))
