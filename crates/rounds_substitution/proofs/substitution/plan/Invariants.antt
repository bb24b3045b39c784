-- What is done to the items so far, and to those from the next one on.
use Rattle.std.proofs.Common.{◌≡◌, ◌++◌, None, map, drop, option_map}
use Rattle.rounds_substitution.specs.Changes.{plan}
use Rattle.rounds_substitution.proofs.substitution.plan.Given as goal

abbrev pub invariant-loop-item : goal.invariant-loop-item
invariant-loop-item l =
    l.changes.items ++ plan l.rule (option_map (λ n. n.elem.now) l.base) (map (λ p. p.0) (drop l.item-index l.items))
    ≡ plan l.rule None (map (λ p. p.0) l.items)
