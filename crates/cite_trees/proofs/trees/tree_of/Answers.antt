use Rattle.std.proofs.Common.{[], ◌∷◌, ◌++◌, ap, sym, ◌∙◌, arith}
use Rattle.value_trees.specs.Tree.{plain}
use Rattle.cite_trees.specs.Plain.{texts}
use Rattle.cite_trees.proofs.Written.{all_closed, texts-append}
use Rattle.cite_trees.proofs.trees.tree_of.Goals as goal

pub loop-piece-preserved : goal.loop-piece-preserved
loop-piece-preserved c =
    c.in_ok-read.ensures
    ∙ (ap (λ t. t ++ texts (c.in-Some.piece ∷ [])) c.loop-piece.invariant
    ∙ sym (texts-append c.loop-piece.yielded (c.in-Some.piece ∷ [])))

pub returns : goal.returns
returns c =
    ap plain c.exact.ensures
    ∙ (c.in_ok-end_text.ensures.children
    ∙ all_closed c.loop.builder.«open».items _ _
    (omega (arith, c.loop.invariant.1, c.loop-test.false, c.loop.auto.counter-end)) c.loop.invariant.0)
