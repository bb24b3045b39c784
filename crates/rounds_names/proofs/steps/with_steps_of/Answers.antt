use Rattle.std.proofs.Common.{◌≡◌, arith, ap, sym, length, ◌∙◌}
use Rattle.std.specs.List.{list_any, zip}
use Rattle.rounds_names.specs.Classes.{waits_for_step}
use Rattle.rounds_names.proofs.Keys.{first-classes}
use Rattle.rounds_names.proofs.Waiting.{steps-all, steps-first, steps-long, steps-next, steps_to}
use Rattle.rounds_names.proofs.steps.with_steps_of.Goals as goal

pub loop-i-init : goal.loop-i-init
loop-i-init c = record {
  classes = first-classes c.args.rule c.args.group.now c.in_ok-classes.classes.items (c.in_ok-classes.ensures.items_if_clones_equal (λ y e. e));
  steps = steps-first c.args.rule c.args.group.now c.args.steps.items c.requires.long;
}

pub some_waits-requires : goal.some_waits-requires
some_waits-requires c =
    ap length c.deref.ensures.value ∙ steps-long c.args.rule c.args.group.now c.args.steps.items c.requires.long c.loop-i.i c.loop-i.steps.items c.loop-i.invariant.steps

pub returns-then-not-some_waits : goal.returns-then-not-some_waits
returns-then-not-some_waits c =
    steps-all c.args.rule c.args.group.now c.args.steps.items c.requires.long c.loop-i.i c.args.greatest c.loop-i.steps.items (omega arith) c.loop-i.invariant.steps
    (ap (λ l. list_any (λ p. waits_for_step c.args.rule p.0 p.1) (zip c.args.group.now l)) (sym c.deref.ensures.value) ∙ sym c.some_waits.ensures ∙ c.if-not-some_waits.true)

pub steps_after-requires-clause-long : goal.steps_after-requires-clause-long
steps_after-requires-clause-long c =
    ap length c.deref-in-loop-i-3.ensures.value
    ∙ steps-long c.args.rule c.args.group.now c.args.steps.items c.requires.long c.loop-i.i c.loop-i.steps.items c.loop-i.invariant.steps

pub loop-i-preserved : goal.loop-i-preserved
loop-i-preserved c = record {
  classes = c.in_ok-classes-2.ensures;
  steps = steps-next c.args.rule c.args.group.now c.args.steps.items c.requires.long c.loop-i.i c.deref-in-loop-i-3.result.now c.in_ok-steps.steps.items
      (c.deref-in-loop-i-3.ensures.value ∙ c.loop-i.invariant.steps) c.in_ok-steps.ensures;
}

pub returns : goal.returns
returns c =
    let e : c.loop-i.i ≡ c.args.greatest = omega arith in
    c.loop-i.invariant.steps ∙ ap (steps_to c.args.rule c.args.group.now c.args.steps.items c.requires.long) e
