use Rattle.std.proofs.Common.{refl, ap, cond, Some, ◌∙◌}
use Rattle.layout_picking.specs.Quiet.{told}
use Rattle.layout_picking.proofs.QuietMacros.{named_at, one_more}
use Rattle.layout_picking.proofs.quiet.QuietMacros.add.Goals as goal

pub returns : goal.returns
returns c call h quiet =
    let q = c.renew.new.self in
    let name = c.args.name in
    one_more call q (record q { macros = c.insert.new.self }) c.args.notes.now name.now c.args.depth c.args.called
    (c.renew.ensures.quiet call h) c.renew.ensures.at refl
    (λ m d. c.in_ok-insert.ensures.updates.0 (record name { now = m }, d) ∙ ap (λ b. cond b (Some c.args.called) (told q m d)) (named_at name.now m c.args.depth d)) quiet
