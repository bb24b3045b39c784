use Rattle.std.proofs.Common.{◌≡◌, ℕ, Option, None, Some, refl, ap, get_or, length, ◌∙◌}
use Rattle.std.proofs.Math.ListN.{length-map}
use Rattle.rounds_names.proofs.Marking.{same-default}
use Rattle.rounds_names.proofs.Rules.{by-more, by-none}
use Rattle.rounds_names.proofs.steps.steps_by.Goals as goal

no-other : (Q : Option ℕ → Type 0) → ((n : ℕ) → Q (Some n) → ⊥) → (y : Option ℕ) → Q y → y ≡ None
no-other Q h None e = refl
no-other Q h (Some n) e = absurd (h n e)

pub loop-rule-init : goal.loop-rule-init
loop-rule-init c = by-none c.args.group.now c.args.greatest c.in_ok-found.found.items (c.in_ok-found.ensures.items_if_clones_equal (no-other _ (λ n e. e)))

pub with_steps_of-requires-clause-long : goal.with_steps_of-requires-clause-long
with_steps_of-requires-clause-long c = ap length c.loop-rule.invariant ∙ length-map c.args.group.now _

pub loop-rule-preserved : goal.loop-rule-preserved
loop-rule-preserved c =
    let rules = c.args.rules.now in
    let k = c.loop-rule.rule-index in
    let rule = get_or rules k None in
    by-more c.args.group.now c.args.greatest rules k rule c.loop-rule.found.items c.in_ok-found-2.found.items c.loop-rule-test.true
    (same-default rules k None rule c.loop-rule-test.true) c.loop-rule.invariant c.in_ok-found-2.ensures
