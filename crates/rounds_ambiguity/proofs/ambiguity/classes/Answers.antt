use Rattle.std.proofs.Common.{ap, map, ◌∙◌}
use Rattle.rounds_ambiguity.specs.Ambiguity.{classes, without_suffix}
use Rattle.rounds_ambiguity.specs.Members.{place_of}
use Rattle.rounds_ambiguity.proofs.Document.{all-added, cites_upto, request-added}
use Rattle.rounds_ambiguity.proofs.ambiguity.classes.Goals as goal

pub loop-r-init : goal.loop-r-init
loop-r-init g c = record { groups = c.new-classes.ensures.groups; at = c.new-classes.ensures.at }

pub loop-r-preserved : goal.loop-r-preserved
loop-r-preserved g c =
    request-added c.args.cites.now c.loop-r.r c.index-cites-r.result c.add_cites.new.classes c.loop-r-test.true c.index-cites-r.is
    (c.in_ok-add_cites.ensures (cites_upto c.args.cites.now c.loop-r.r) c.loop-r.invariant)

pub returns : goal.returns
returns g c =
    c.loop-r.invariant.groups ∙ ap (λ ms. map (map place_of) (classes (without_suffix ms))) (all-added c.args.cites.now c.loop-r.r c.loop-r-test.false)
