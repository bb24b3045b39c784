use Rattle.std.proofs.Common.{None, arith, get_or, sym, ◌∙◌}
use Rattle.std.specs.List.{zip}
use Rattle.rounds_names.specs.Classes.{waits_for_step}
use Rattle.rounds_names.proofs.Marking.{same-default, zip-at, zip-long}
use Rattle.rounds_names.proofs.Zipped.{any-here, any-past, any-rest}
use Rattle.rounds_names.proofs.steps.some_waits.Goals as goal

pub returns-then-waits : goal.returns-then-waits
returns-then-waits c =
    let group = c.args.group.now in
    let steps = c.args.steps.now in
    let k = c.loop-k.k in
    let own = get_or steps k None in
    let here = zip-at group steps k c.index-group-k.result own c.loop-k-test.true c.requires c.index-group-k.is (same-default steps k None own (omega (arith, c.requires))) in
    sym (any-here (λ p. waits_for_step c.args.rule p.0 p.1) (zip group steps) k (c.index-group-k.result, own) (zip-long group steps k c.loop-k-test.true c.requires) here
    (sym c.waits.ensures ∙ c.if-waits.true))
    ∙ c.loop-k.invariant

pub loop-k-preserved : goal.loop-k-preserved
loop-k-preserved c =
    let group = c.args.group.now in
    let steps = c.args.steps.now in
    let k = c.loop-k.k in
    let own = get_or steps k None in
    let here = zip-at group steps k c.index-group-k.result own c.loop-k-test.true c.requires c.index-group-k.is (same-default steps k None own (omega (arith, c.requires))) in
    sym (any-past (λ p. waits_for_step c.args.rule p.0 p.1) (zip group steps) k (c.index-group-k.result, own) (zip-long group steps k c.loop-k-test.true c.requires) here
    (sym c.waits.ensures ∙ c.if-waits.false))
    ∙ c.loop-k.invariant

pub returns : goal.returns
returns c = any-rest (λ p. waits_for_step c.args.rule p.0 p.1) c.args.group.now c.args.steps.now c.loop-k.k c.loop-k-test.false c.requires ∙ c.loop-k.invariant
