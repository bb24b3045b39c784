use Rattle.std.proofs.Common.{◌≡◌, ◌∙◌, ◌++◌, ◌||◌, Bool, true, false, length, ap, sym, map, option_map}
use Rattle.std.proofs.lemmas.List.{take-map}
use Rattle.layout_picking.specs.InputView.{term_for}
use Rattle.layout_picking.specs.NameRulesView.{rules_view}
use Rattle.layout_picking.specs.Names.{joined_names, joined_parts, last_words, name_part, written_names}
use Rattle.layout_picking.specs.BlockRun.{preceded}
use Rattle.layout_picking.specs.Picked.{gives}
use Rattle.layout_picking.specs.Pieces.{tokens}
use Rattle.layout_picking.specs.PiecesView.{token_of, tokens_of}
use Rattle.layout_picking.proofs.NameParts.{block_written, block_unwritten, block_gives, length-mapped}
use Rattle.layout_picking.proofs.name_pieces.push_block.Goals as goal

pub returns-then-is_cut-some_names-clause-pieces : goal.returns-then-is_cut-some_names-clause-pieces
returns-then-is_cut-some_names-clause-pieces c =
    let r = rules_view c.args.rules.now in
    let terms = term_for c.args.setting.now in
    let names = written_names r.initial_end c.args.block.forms.now c.args.block.persons.now in
    let before = option_map (λ t. t.now) c.args.before in
    let old = tokens_of c.args.pieces.now.items in
    let part = name_part c.args.block.variable in
    let cut = c.are_cut-is_cut.result in
    let some : gives (joined_names terms r cut (map part names)) ≡ true
    = block_gives part terms r cut names ∙ ap (λ b. cut || b) (sym c.in_ok-some_names.ensures.given) ∙ c.if-is_cut-some_names.true in
    block_written part terms r cut before old (tokens_of c.push_before.new.pieces.items) (tokens_of c.push_names.new.pieces.items) (tokens_of c.push_et_al.new.pieces.items)
    names some c.in_ok-push_before.ensures c.in_ok-some_names.ensures.pieces c.in_ok-push_et_al.ensures
    ∙ ap (λ (b : Bool). old ++ tokens (preceded before (joined_names terms r b (map part names)))) c.are_cut-is_cut.ensures

pub returns-clause-pieces : goal.returns-clause-pieces
returns-clause-pieces c =
    let r = rules_view c.args.rules.now in
    let terms = term_for c.args.setting.now in
    let names = written_names r.initial_end c.args.block.forms.now c.args.block.persons.now in
    let before = option_map (λ t. t.now) c.args.before in
    let items = c.args.pieces.now in
    let old = tokens_of items.items in
    let part = name_part c.args.block.variable in
    let cut = c.are_cut-is_cut.result in
    let joined = joined_parts r.name_delimiter (last_words terms r cut (length names)) (map part names) in
    let none : gives (joined_names terms r cut (map part names)) ≡ false
    = block_gives part terms r cut names ∙ ap (λ b. cut || b) (sym c.in_ok-some_names.ensures.given) ∙ c.if-is_cut-some_names.false in
    let start : length old ≡ c.len-start.result = length-mapped token_of items.items ∙ sym items.ok.0 ∙ sym c.len-start.ensures in
    block_unwritten before (joined_names terms r cut (map part names)) c.len-start.result old (tokens_of c.push_before.new.pieces.items) (tokens joined)
    (tokens_of c.push_names.new.pieces.items) (tokens_of c.truncate.new.self.items) none start c.in_ok-push_before.ensures c.in_ok-some_names.ensures.pieces
    (ap tokens_of c.truncate.ensures.items ∙ sym (take-map token_of c.len-start.result c.push_names.new.pieces.items))
    ∙ ap (λ (b : Bool). old ++ tokens (preceded before (joined_names terms r b (map part names)))) c.are_cut-is_cut.ensures
