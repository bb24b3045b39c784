use Rattle.std.proofs.Common.{rules, ◌≡◌, ◌∙◌, ◌++◌, ◌∷◌, List, ap, sym, map, drop, append_assoc, ◌+◌, slice_index_or}
use Rattle.std.proofs.lemmas.List.{at_drop_more}
use Rattle.value_sources.specs.declared.taxonomy.NameVariable.{NameVariable}
use Rattle.value_sources.specs.declared.entry.Person.{Person}
use Rattle.layout_picking.specs.Names.{block_persons}
use Rattle.layout_picking.proofs.names.names_meta.Goals as goal

pub loop-variable-preserved : goal.loop-variable-preserved
loop-variable-preserved g c =
    let answers = g.T.EntryLike.answers c.args.entry.now in
    let same : c.in_ok-block.block.items ≡ c.resolve_name_variable.result.now = c.in_ok-block.ensures.items_if_clones_equal (λ x y h. search rules) in
    let pushed = c.in_ok-push.ensures.items in
    let persons = c.loop-variable.persons.items in
    let i = c.loop-variable.variable-index in
    let rest = map (block_persons answers) (drop (i + 1) c.args.blocks.now) in
    ap (λ ps. ps ++ rest) pushed
    ∙ append_assoc persons _ rest
    ∙ ap (λ (ps : List Person). persons ++ ((ps, slice_index_or c.args.blocks.now i NameVariable.Author) ∷ rest)) (c.new.ensures ∙ same ∙ c.resolve_name_variable.ensures)
    ∙ sym (at_drop_more (λ vs. persons ++ map (block_persons answers) vs) c.args.blocks.now i NameVariable.Author c.loop-variable-test.true)
    ∙ c.loop-variable.invariant
