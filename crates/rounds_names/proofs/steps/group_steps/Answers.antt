use Rattle.std.proofs.Common.{ap, sym, ◌∙◌}
use Rattle.std.specs.List.{list_any}
use Rattle.rounds_names.specs.Steps.{is_own_step}
use Rattle.rounds_names.proofs.Telling.{numbers-more, numbers-same}
use Rattle.rounds_names.proofs.steps.group_steps.Goals as goal
use Rattle.rounds_names.proofs.steps.group_steps.Goals.{then-is_step+in_ok-push, else-is_step}

pub loop-k-preserved : goal.loop-k-preserved
loop-k-preserved c =
    elim c.if-is_step.branch [
      | then-is_step+in_ok-push w ↦
          numbers-more (λ i. list_any (is_own_step i) c.args.own_steps.now) c.loop-k.k (sym c.is_step.ensures ∙ w.if-is_step.true) c.loop-k.invariant
          (ap (λ v. v.items) w.found-is ∙ w.in_ok-push.ensures.items)
      | else-is_step w ↦
          ap (λ v. v.items) w.found-is
          ∙ numbers-same (λ i. list_any (is_own_step i) c.args.own_steps.now) c.loop-k.k (sym c.is_step.ensures ∙ w.if-is_step.false) c.loop-k.invariant
    ]
