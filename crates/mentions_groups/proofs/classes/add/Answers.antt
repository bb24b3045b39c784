use Rattle.std.proofs.Common.{Some, cond, sym, ◌∙◌}
use Rattle.std.specs.Cmp.Lexicographic.{texts_ties}
use Rattle.mentions_groups.specs.Classes.{class_at}
use Rattle.mentions_groups.proofs.Classing.{one-more}
use Rattle.mentions_groups.proofs.classes.add.Goals as goal

pub returns : goal.returns
returns c =
    one-more c.args.classes.now c.insert.new.self c.args.k c.args.mention.now
    (λ q. c.in_ok-insert.ensures.updates.0 q
    ∙ (λ t. cond (sym (texts_ties (c.in_ok-clone.ensures.cases t) q) t) (Some (c.class_with-class.ensures t)) (class_at c.args.classes.now q)))
