use Rattle.std.proofs.Common.{subst, sym, take}
use Rattle.std.specs.List.{enumerate_from}
use Rattle.mentions_groups.specs.Classes.{AreClassesOf}
use Rattle.mentions_groups.proofs.Classing.{none-yet}
use Rattle.list_lemmas.proofs.Stepping.{enumerate-all, enumerate-next}
use Rattle.mentions_groups.proofs.groups.classes_of.Goals as goal

pub loop-k-init : goal.loop-k-init
loop-k-init c = none-yet c.new-classes.result c.new-classes.ensures.empty

pub loop-k-preserved : goal.loop-k-preserved
loop-k-preserved c =
    let ms = c.args.mentions.now in
    let k = c.loop-k.k in
    subst (AreClassesOf c.add.new.classes) (sym (enumerate-next ms k c.index-mentions-k.result c.loop-k-test.true c.index-mentions-k.is))
    (c.in_ok-add.ensures (take k (enumerate_from 0 ms)) c.loop-k.invariant)

pub returns : goal.returns
returns c = subst (AreClassesOf c.loop-k.classes) (enumerate-all c.args.mentions.now c.loop-k.k c.loop-k-test.false) c.loop-k.invariant
