use Rattle.std.proofs.Common.{ap, get_or, refl, subst, map, ◌∙◌}
use Rattle.rounds_names.proofs.Keys.{key_of, keys-more, next-classes, same_key}
use Rattle.rounds_names.proofs.Marking.{zip-past}
use Rattle.rounds_names.proofs.Numbers.{AreNumbers}
use Rattle.rounds_names.specs.Classes.{kept_at}
use Rattle.rounds_names.proofs.classes.next_classes.Goals as goal

pub loop-k-preserved : goal.loop-k-preserved
loop-k-preserved c =
    let rule = c.args.rule in
    let k = c.loop-k.k in
    let x = c.index-group-k.result in
    let own = get_or c.args.classes.now k 0 in
    keys-more rule c.args.i c.args.group.now c.args.classes.now k x own c.in_ok-insert.field-0
    (record { class = own; person = c.in_ok-person.person }) c.loop-k.keys.keys c.insert.new.self.keys c.loop-k.found.items c.push.new.self.items
    c.loop-k-test.true c.requires.long c.index-group-k.is refl
    (λ j. record { class = own; person = (c.in_ok-person.ensures ∙ ap (kept_at rule c.args.i) c.as_slice.ensures) j })
    c.in_ok-insert.ensures.index c.in_ok-insert.ensures.keys c.in_ok-push.ensures.items c.loop-k.invariant

pub returns : goal.returns
returns c =
    next-classes c.args.rule c.args.i c.args.group.now c.args.classes.now c.loop-k.keys.keys c.loop-k.found.items c.requires
    (subst (λ l. AreNumbers same_key c.loop-k.keys.keys (map (key_of c.args.rule c.args.i) l) c.loop-k.found.items)
    (zip-past c.args.group.now c.args.classes.now c.loop-k.k c.loop-k-test.false c.requires.long) c.loop-k.invariant)
