use Rattle.std.proofs.Common.{None, ap, arith, get_or, length, sym, ◌≡◌, ◌++◌, ◌∷◌, [], map, ◌∙◌}
use Rattle.std.specs.List.{zip}
use Rattle.rounds_names.specs.Classes.{is_alone, step_after}
use Rattle.rounds_names.proofs.Alone.{alone-by-size}
use Rattle.rounds_names.proofs.Marking.{same-default, zip-at, zip-long, zip-past}
use Rattle.rounds_names.proofs.Zipped.{map-more}
use Rattle.rounds_names.proofs.steps.steps_after.Goals as goal

pub loop-k-preserved : goal.loop-k-preserved
loop-k-preserved c =
    let rule = c.args.rule in
    let i = c.args.i in
    let group = c.args.group.now in
    let steps = c.args.steps.now in
    let k = c.loop-k.k in
    let x = c.index-group-k.result in
    let own = get_or steps k None in
    let here = zip-at group steps k x own c.loop-k-test.true c.requires.long c.index-group-k.is (same-default steps k None own (omega (arith, c.requires.long))) in
    let sizes = c.in_ok-sizes.sizes in
    let many : length sizes.items ≡ length c.args.classes.now = sym sizes.ok.0 ∙ c.in_ok-sizes.ensures.long in
    let alone = alone-by-size rule i k c.index.result.now group c.args.classes.now sizes.items x c.requires.apart c.requires.classes many c.in_ok-sizes.ensures.sizes c.loop-k-test.true
    c.index-group-k.is c.index.ensures in
    map-more (λ p. step_after rule i p.0 p.1 (is_alone rule group i p.0)) (zip group steps) k (x, own) (zip-long group steps k c.loop-k-test.true c.requires.long) here c.loop-k.invariant
    (c.in_ok-push.ensures.items ∙ ap (λ y. c.loop-k.found.items ++ y ∷ []) (c.step_after.ensures ∙ ap (step_after rule i x own) alone))

pub returns : goal.returns
returns c =
    c.loop-k.invariant
    ∙ ap (map (λ p. step_after c.args.rule c.args.i p.0 p.1 (is_alone c.args.rule c.args.group.now c.args.i p.0)))
    (zip-past c.args.group.now c.args.steps.now c.loop-k.k c.loop-k-test.false c.requires.long)
