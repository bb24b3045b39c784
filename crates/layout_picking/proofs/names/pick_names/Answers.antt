use Rattle.std.proofs.Common.{◌≡◌, ◌∙◌, ◌++◌, ◌∷◌, [], List, length, ap, sym, Some, false}
use Rattle.value_sources.specs.declared.taxonomy.NameVariable.{NameVariable}
use Rattle.value_trees.specs.declared.elem.ElemMeta.{ElemMeta}
use Rattle.value_styles.specs.ElementView.{options_view}
use Rattle.layout_picking.specs.Notes.{called_by_both}
use Rattle.layout_picking.specs.InputView.{env_of}
use Rattle.layout_picking.specs.NameRulesView.{rules_view}
use Rattle.layout_picking.specs.Names.{author_variable, blocks, stand_in, written_blocks, blocks_parts, names_node}
use Rattle.layout_picking.specs.NamesView.{variables_view}
use Rattle.layout_picking.specs.Pieces.{NodeValue, opening, plain_node}
use Rattle.layout_picking.specs.PiecesView.{shape_look, token_of, tokens_of}
use Rattle.layout_picking.proofs.NameParts.{length-mapped}
use Rattle.layout_picking.proofs.NameBlocks.{node_closed, names_picked}
use Rattle.layout_picking.proofs.names.pick_names.Goals as goal

pub returns : goal.returns
returns g c =
    let answers = g.T.EntryLike.answers c.args.input.now.entry.now in
    let setting = c.args.input.now.setting in
    let env = env_of answers setting in
    let n = c.args.picking.now.notes in
    let look = shape_look c.args.shape in
    let old = tokens_of c.args.picking.now.pieces.items in
    let r = rules_view c.new-rules.result in
    let vs = c.as_slice-blocks.result.now in
    let ps = blocks_parts env r n vs in
    let kept : vs ≡ written_blocks setting.form (author_variable answers) (blocks answers n c.args.variables.now c.args.substitute.now) =
    c.as_slice-blocks.ensures ∙ c.in_ok-written.ensures
    ∙ ap (λ (a : NameVariable). written_blocks setting.form a (variables_view c.in_ok-chosen.chosen.variables)) c.author_variable-author.ensures
    ∙ ap (λ (bs : List NameVariable). written_blocks setting.form (author_variable answers) bs) c.in_ok-chosen.ensures.variables in
    let stands : c.in_ok-chosen.chosen.stand_in ≡ stand_in answers n c.args.variables.now c.args.substitute.now = c.in_ok-chosen.ensures.stand_in in
    let opened : tokens_of c.push_opening.new.pieces.items ≡ old ++ opening (names_node answers look vs) ∷ [] =
    c.in_ok-push_opening.ensures
    ∙ ap (λ (m : NodeValue). old ++ opening m ∷ []) c.names_node.ensures
    ∙ ap (λ (m : ElemMeta). old ++ opening (plain_node look false false (Some m)) ∷ []) c.in_ok-meta.ensures in
    let start : c.len-start.result ≡ length old = c.len-start.ensures ∙ c.args.picking.now.pieces.ok.0 ∙ sym (length-mapped token_of c.args.picking.now.pieces.items) in
    let closed = node_closed (names_node answers look vs) ps c.in_ok-given.given c.len-start.result old (tokens_of c.push_opening.new.pieces.items) (tokens_of c.push_blocks.new.picking.pieces.items)
    (tokens_of c.close_node.new.pieces.items) c.in_ok-given.ensures.given start opened c.in_ok-given.ensures.pieces c.in_ok-close_node.ensures in
    names_picked env c.args.variables.now c.args.substitute.now (options_view c.args.options.now) look n old c.args.picking.now.called
    r vs c.in_ok-chosen.chosen.stand_in c.in_ok-given.given (tokens_of c.close_node.new.pieces.items) c.push_blocks.new.picking.called c.and-picking.result
    c.push_blocks.new.picking.notes c.note_stand_in.new.self
    c.new-rules.ensures kept stands c.in_ok-given.ensures.given closed c.in_ok-given.ensures.called
    (c.and-picking.ensures ∙ ap (λ x. called_by_both c.push_blocks.new.picking.called x) c.called_with.ensures) c.in_ok-given.ensures.noted c.note_stand_in.ensures
