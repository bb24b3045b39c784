use Rattle.std.proofs.Common.{◌≡◌, ◌++◌, ◌||◌, map, drop}
use Rattle.layout_picking.specs.InputView.{env_of}
use Rattle.layout_picking.specs.NameRulesView.{rules_view}
use Rattle.layout_picking.specs.Names.{plain_block}
use Rattle.layout_picking.specs.BlockRun.{blocks_after}
use Rattle.layout_picking.specs.Picked.{gives}
use Rattle.layout_picking.specs.Pieces.{tokens}
use Rattle.layout_picking.specs.PiecesView.{tokens_of}
use Rattle.layout_picking.proofs.names.push_others.Given as goal

abbrev pub invariant-loop-variable : goal.invariant-loop-variable
invariant-loop-variable g l =
    let r = rules_view l.rules in
    let env = env_of (g.T.EntryLike.answers l.input.entry.now) l.input.setting in
    let left = blocks_after r.names_delimiter l.is_behind (map (plain_block env r) (drop l.variable-index l.others)) in
    let all = blocks_after r.names_delimiter l.initial.is_behind (map (plain_block env r) l.others) in
    record {
      written : tokens_of l.pieces.items ++ tokens left ≡ tokens_of l.initial.pieces.items ++ tokens all;
      given : (l.is_behind || gives left) ≡ (l.initial.is_behind || gives all);
    }
