use Rattle.std.proofs.Common.{◌≡◌, ap, arith, length, map, refl, ◌∙◌}
use Rattle.std.specs.List.{range_with_len}
use Rattle.mentions_blocks.specs.Parts.{part_at}
use Rattle.mentions_blocks.proofs.Parting.{begins-is, begins-next, names-next, parts-next}
use Rattle.mentions_blocks.proofs.Placing.{before-next}
use Rattle.mentions_blocks.proofs.parts.parts_of_blocks.Goals as goal

pub loop-place-preserved : goal.loop-place-preserved
loop-place-preserved c =
    let cites = c.args.cites.now in
    let k = c.loop-place.place in
    let within = c.loop-place-test.true in
    let so_far = c.loop-place.invariant in
    let part = c.part_of-part.result in
    let begins = begins-is cites k _ _ within refl c.loop-place.part.begins c.loop-place.part.names c.loop-place.before so_far.names so_far.before part.begins so_far.begins
    c.part_of-part.ensures.begins in
    record {
      begins = begins-next cites k part.begins begins;
      names = names-next cites k _ _ within refl c.loop-place.part.begins c.loop-place.part.names c.loop-place.before so_far.names so_far.before part.names
          c.part_of-part.ensures.names;
      before = before-next cites k _ _ within refl;
      parts = parts-next cites k c.loop-place.parts.items c.push.new.self.items part.begins so_far.parts begins c.in_ok-push.ensures.items;
    }

pub returns : goal.returns
returns c =
    let all : c.loop-place.place ≡ length c.args.cites.now = omega arith in
    c.loop-place.invariant.parts ∙ ap (λ n. map (part_at c.args.cites.now) (range_with_len 0 n)) all
