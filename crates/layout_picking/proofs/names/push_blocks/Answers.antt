use Rattle.std.proofs.Common.{◌≡◌, ◌∙◌, ◌++◌, ◌∷◌, ◌||◌, Bool, List, ap, sym, map, false}
use Rattle.std.proofs.lemmas.Result.{on_ok_weaker, IfOk-weaker}
use Rattle.value_sources.specs.declared.taxonomy.NameVariable.{NameVariable}
use Rattle.layout_picking.specs.InputView.{env_of}
use Rattle.layout_picking.specs.NameRulesView.{rules_view}
use Rattle.layout_picking.specs.Names.{blocks_parts, first_block, plain_block}
use Rattle.layout_picking.specs.BlockRun.{blocks_after}
use Rattle.layout_picking.specs.Picked.{gives}
use Rattle.layout_picking.specs.Pieces.{tokens}
use Rattle.layout_picking.specs.PiecesView.{tokens_of}
use Rattle.layout_picking.proofs.NameBlocks.{blocks_further, given_further, blocks_joined}
use Rattle.layout_picking.proofs.names.push_blocks.Goals as goal

pub returns-clause-pieces : goal.returns-clause-pieces
returns-clause-pieces g c =
    let r = rules_view c.args.rules.now in
    let env = env_of (g.T.EntryLike.answers c.args.input.now.entry.now) c.args.input.now.setting in
    let n = c.args.picking.now.notes in
    let first = first_block env r n c.in-Some.split.0.now in
    let rest = map (plain_block env r) c.in-Some.split.1.now in
    let old = tokens_of c.args.picking.now.pieces.items in
    let between = tokens_of c.push_first_block.new.picking.pieces.items in
    on_ok_weaker c.push_others.result (λ e.
    e
    ∙ ap (λ (t : Bool). between ++ tokens (blocks_after r.names_delimiter t rest)) c.in_ok-given.ensures.given
    ∙ blocks_further r.names_delimiter false first rest old between c.in_ok-given.ensures.pieces
    ∙ ap (λ ps. old ++ tokens ps) (blocks_joined r.names_delimiter (first ∷ rest))
    ∙ ap (λ (vs : List NameVariable). old ++ tokens (blocks_parts env r n vs)) (sym c.in-Some.ensures.cases.0)) c.push_others.ensures.pieces

pub returns-clause-given : goal.returns-clause-given
returns-clause-given g c =
    let r = rules_view c.args.rules.now in
    let env = env_of (g.T.EntryLike.answers c.args.input.now.entry.now) c.args.input.now.setting in
    let n = c.args.picking.now.notes in
    let first = first_block env r n c.in-Some.split.0.now in
    let rest = map (plain_block env r) c.in-Some.split.1.now in
    IfOk-weaker c.push_others.result _ (λ b. b ≡ gives (blocks_parts env r n c.args.blocks.now)) (λ b e.
    e
    ∙ ap (λ (t : Bool). t || gives (blocks_after r.names_delimiter t rest)) c.in_ok-given.ensures.given
    ∙ given_further r.names_delimiter false first rest
    ∙ ap gives (blocks_joined r.names_delimiter (first ∷ rest))
    ∙ ap (λ (vs : List NameVariable). gives (blocks_parts env r n vs)) (sym c.in-Some.ensures.cases.0)) c.push_others.ensures.given
