use Rattle.std.proofs.Common.{[], ap, subst, sym, take, ◌∙◌, ◌∷◌}
use Rattle.std.specs.Prelude.{filter}
use Rattle.std.specs.List.{enumerate_from}
use Rattle.std.proofs.lemmas.List.Elements.{filter-append}
use Rattle.mentions_groups.specs.Classes.{AreClassesOf, does_occur}
use Rattle.mentions_groups.proofs.Classing.{none-yet}
use Rattle.list_lemmas.proofs.Stepping.{enumerate-all, enumerate-next}
use Rattle.mentions_groups.proofs.groups.occurring_of.Goals as goal

pub loop-k-init : goal.loop-k-init
loop-k-init c = none-yet c.new-classes.result c.new-classes.ensures.empty

pub loop-k-preserved : goal.loop-k-preserved
loop-k-preserved c =
    let ms = c.args.mentions.now in
    let k = c.loop-k.k in
    let m = c.index-mentions-k.result in
    subst (AreClassesOf c.add_if_it_occurs.new.classes)
    (sym (ap (filter does_occur) (enumerate-next ms k m c.loop-k-test.true c.index-mentions-k.is) ∙ filter-append does_occur (take k (enumerate_from 0 ms)) ((k, m) ∷ [])))
    (c.in_ok-add_if_it_occurs.ensures (filter does_occur (take k (enumerate_from 0 ms))) c.loop-k.invariant)

pub returns : goal.returns
returns c =
    subst (λ ps. AreClassesOf c.loop-k.classes (filter does_occur ps)) (enumerate-all c.args.mentions.now c.loop-k.k c.loop-k-test.false) c.loop-k.invariant
