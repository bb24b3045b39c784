use Rattle.std.proofs.Common.{◌∙◌, ◌++◌, ◌||◌, ◌+◌, Bool, List, ℕ, Option, ap, sym, map, drop, slice_index_or}
use Rattle.std.proofs.lemmas.List.{at_drop_more}
use Rattle.value_sources.specs.declared.taxonomy.NameVariable.{NameVariable}
use Rattle.layout_picking.specs.InputView.{env_of}
use Rattle.layout_picking.specs.NameRulesView.{rules_view}
use Rattle.layout_picking.specs.Names.{plain_block}
use Rattle.layout_picking.specs.BlockRun.{blocks_after, preceded}
use Rattle.layout_picking.specs.Picked.{gives}
use Rattle.layout_picking.specs.Pieces.{tokens}
use Rattle.layout_picking.specs.PiecesView.{tokens_of}
use Rattle.layout_picking.proofs.NameBlocks.{blocks_further, given_further}
use Rattle.layout_picking.proofs.names.push_others.Goals as goal

pub loop-variable-preserved : goal.loop-variable-preserved
loop-variable-preserved g c =
    let r = rules_view c.args.rules.now in
    let block = plain_block (env_of (g.T.EntryLike.answers c.args.input.now.entry.now) c.args.input.now.setting) r in
    let words = r.names_delimiter in
    let l = c.loop-variable in
    let b = block (slice_index_or c.args.others.now l.variable-index NameVariable.Author) in
    let rest = map block (drop (l.variable-index + 1) c.args.others.now) in
    let before = tokens_of l.pieces.items in
    let after = tokens_of c.push_plain_block.new.pieces.items in
    let given = c.in_ok-given.ensures.given in
    let pieces = c.in_ok-given.ensures.pieces ∙ ap (λ (o : Option (List ℕ)). before ++ tokens (preceded o b)) c.delimiter_behind-before.ensures in
    record {
      written = ap (λ (t : Bool). after ++ tokens (blocks_after words (l.is_behind || t) rest)) given
          ∙ blocks_further words l.is_behind b rest before after pieces
          ∙ sym (at_drop_more (λ vs. before ++ tokens (blocks_after words l.is_behind (map block vs))) c.args.others.now l.variable-index NameVariable.Author c.loop-variable-test.true)
          ∙ l.invariant.written;
      given = ap (λ (t : Bool). (l.is_behind || t) || gives (blocks_after words (l.is_behind || t) rest)) given
          ∙ given_further words l.is_behind b rest
          ∙ sym (at_drop_more (λ vs. l.is_behind || gives (blocks_after words l.is_behind (map block vs))) c.args.others.now l.variable-index NameVariable.Author c.loop-variable-test.true)
          ∙ l.invariant.given;
    }
