use Rattle.std.proofs.Common.{ap, sym, ◌&&◌, ◌∙◌}
use Rattle.std.specs.List.{list_any}
use Rattle.mentions_groups.specs.Classes.{class_at, several_in}
use Rattle.mentions_groups.specs.Groups.{is_rival, occurring, same_text}
use Rattle.mentions_groups.proofs.Classing.{asked-is}
use Rattle.mentions_groups.proofs.groups.is_asked_among.Goals as goal

pub returns-then-has_text : goal.returns-then-has_text
returns-then-has_text c = λ ms g.
    let m = c.args.mention.now in
    let there = sym c.has_text.ensures ∙ c.if-has_text.true in
    c.are_several.ensures ∙ ap (λ b. b && several_in (class_at c.args.occurring.now m.text)) (sym there) ∙ asked-is c.args.occurring.now ms m g

pub returns-else-has_text : goal.returns-else-has_text
returns-else-has_text c = λ ms g.
    let m = c.args.mention.now in
    c.if-has_text.false ∙ sym (ap (λ b. b && list_any (λ x. same_text m x && list_any (is_rival x) (occurring ms)) (occurring ms)) (sym c.has_text.ensures ∙ c.if-has_text.false))
