use Rattle.std.proofs.Common.{◌≡◌, ◌≤◌, ◌+◌, ◌++◌, map, length, drop, option_map, option_to_list}
use Rattle.layout_picking.specs.InputView.{term_for}
use Rattle.layout_picking.specs.NameRulesView.{rules_view}
use Rattle.layout_picking.specs.Names.{joined_parts, last_words, name_part, written_names}
use Rattle.layout_picking.specs.NamesView.{name_view}
use Rattle.layout_picking.specs.Picked.{gives}
use Rattle.layout_picking.specs.Pieces.{tokens}
use Rattle.layout_picking.specs.PiecesView.{tokens_of}
use Rattle.layout_picking.proofs.WrittenNames.{names_left, joined_after}
use Rattle.layout_picking.proofs.name_pieces.push_names.Given as goal

abbrev pub invariant-loop-place : goal.invariant-loop-place
invariant-loop-place l =
    let r = rules_view l.rules in
    let part = name_part l.block.variable in
    let waits = option_to_list (option_map (λ name. part (name_view name)) l.waiting) in
    let left = names_left r.initial_end l.place (drop l.place l.block.forms.now) (drop l.place l.block.persons.now) in
    let all = written_names r.initial_end l.block.forms.now l.block.persons.now in
    record {
      written : tokens_of l.pieces.items ++ tokens (joined_after r.name_delimiter (last_words (term_for l.setting) r l.is_cut (length all)) l.count (waits ++ map part left))
          ≡ tokens_of l.initial.pieces.items ++ tokens (joined_parts r.name_delimiter (last_words (term_for l.setting) r l.is_cut (length all)) (map part all));
      given : gives (waits ++ map part left) ≡ gives (map part all);
      counted : l.count + (length (option_to_list l.waiting) + length left) ≡ length all;
      fits : l.count + length (option_to_list l.waiting) ≤ l.place;
    }
