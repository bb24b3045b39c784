use Rattle.std.proofs.Common.{None, ap, cond, sym, ◌&&◌, ◌∙◌}
use Rattle.std.specs.List.{list_any}
use Rattle.mentions_groups.specs.Groups.{is_rival, leader}
use Rattle.mentions_groups.proofs.Classing.{group-is}
use Rattle.mentions_groups.proofs.groups.group_among.Goals as goal

pub returns-then-has_text : goal.returns-then-has_text
returns-then-has_text c = λ ms h g.
    c.group_found.ensures ∙ group-is c.args.classes.now c.args.occurring.now ms c.args.mention.now h g (sym c.has_text.ensures ∙ c.if-has_text.true)

pub returns-else-has_text : goal.returns-else-has_text
returns-else-has_text c = λ ms h g.
    let m = c.args.mention.now in
    sym (ap (λ b. cond (b && list_any (is_rival m) ms) (leader ms m.text) None) (sym c.has_text.ensures ∙ c.if-has_text.false))
