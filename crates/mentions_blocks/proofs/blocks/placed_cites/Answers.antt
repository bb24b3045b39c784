use Rattle.std.proofs.Common.{ap, map, refl, ◌∙◌}
use Rattle.mentions_blocks.specs.Blocks.{placed_cite}
use Rattle.mentions_blocks.proofs.Placing.{before-next, block-next, none-known, noted-next, part-kept, part-next, placed-next}
use Rattle.list_lemmas.proofs.Stepping.{enumerate-all}
use Rattle.mentions_blocks.proofs.blocks.placed_cites.Goals as goal

pub loop-place-init : goal.loop-place-init
loop-place-init c = record {
  part = refl;
  before = refl;
  firsts = none-known c.new-firsts.result c.args.cites.now c.new-firsts.ensures.empty;
  placed = c.in_ok-placed.ensures.items;
}

pub loop-place-preserved : goal.loop-place-preserved
loop-place-preserved c =
    let cites = c.args.cites.now in
    let k = c.loop-place.place in
    let within = c.loop-place-test.true in
    let before = c.loop-place.invariant in
    let part = c.part_at-part.result in
    let is_part = c.part_at-part.ensures ∙ part-next cites k _ _ within refl c.loop-place.part c.loop-place.before before.part before.before in
    record {
      part = part-kept cites k part is_part;
      before = before-next cites k _ _ within refl;
      firsts = noted-next cites k _ _ within refl c.loop-place.firsts part before.firsts is_part c.block_at.new.firsts c.in_ok-block_at.ensures.noted;
      placed = placed-next cites k _ _ within refl c.loop-place.placed.items c.push.new.self.items c.in_ok-block_at.field-0 before.placed
          (c.in_ok-block_at.ensures.block ∙ block-next cites k _ _ within refl c.loop-place.firsts part before.firsts is_part) c.in_ok-push.ensures.items;
    }

pub returns : goal.returns
returns c =
    c.loop-place.invariant.placed ∙ ap (map (placed_cite c.args.cites.now)) (enumerate-all c.args.cites.now c.loop-place.place c.loop-place-test.false)
