-- The tokens so far, and those of the children from the next one on.
use Rattle.std.proofs.Common.{◌≡◌, ◌++◌, map, drop}
use Rattle.value_trees.specs.ChildView.{child_view}
use Rattle.rounds_grouping.specs.TokenView.{tokens_view}
use Rattle.rounds_grouping.specs.Tokens.{tree_tokens}
use Rattle.rounds_grouping.proofs.tokens.+tokens.Given as goal

abbrev pub invariant-add_tree_tokens-loop-child : goal.invariant-add_tree_tokens-loop-child
invariant-add_tree_tokens-loop-child l =
    tokens_view l.tokens.items ++ tree_tokens (map child_view (drop l.child-index l.child-items))
    ≡ tokens_view l.initial.tokens.items ++ tree_tokens (map child_view l.child-items)
