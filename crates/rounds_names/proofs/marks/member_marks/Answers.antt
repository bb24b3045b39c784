use Rattle.std.proofs.Common.{None, ap, arith, get_or, sym, ◌∙◌}
use Rattle.std.specs.List.{filter_map, zip}
use Rattle.rounds_names.specs.NameMarks.{mark}
use Rattle.rounds_names.proofs.Marking.{filter_map-more, filter_map-same, same-default, zip-at, zip-long, zip-past}
use Rattle.rounds_names.proofs.marks.member_marks.Goals as goal
use Rattle.rounds_names.proofs.marks.member_marks.Goals.{in-Some+in_ok-push, in_default}

pub loop-k-preserved : goal.loop-k-preserved
loop-k-preserved c =
    let group = c.args.group.now in
    let steps = c.args.own_steps.now in
    let k = c.loop-k.k in
    let own = get_or steps k None in
    let long = zip-long group steps k c.loop-k-test.true c.requires.long in
    let here = zip-at group steps k c.index-group-k.result own c.loop-k-test.true c.requires.long c.index-group-k.is (same-default steps k None own (omega (arith, c.requires.long))) in
    elim c.match-branch-2.branch [
      | in-Some+in_ok-push w ↦
          filter_map-more (λ p. mark group c.args.steps.now p.0 p.1) (zip group steps) k (c.index-group-k.result, own) w.in-Some.mark long here
          (sym c.in_ok-mark.ensures ∙ w.in-Some.is) c.loop-k.invariant (ap (λ v. v.items) w.found-is ∙ w.in_ok-push.ensures.items)
      | in_default w ↦
          ap (λ v. v.items) w.found-is
          ∙ filter_map-same (λ p. mark group c.args.steps.now p.0 p.1) (zip group steps) k (c.index-group-k.result, own) long here
          (sym c.in_ok-mark.ensures ∙ w.in_default.is) c.loop-k.invariant
    ]

pub returns : goal.returns
returns c =
    c.loop-k.invariant
    ∙ ap (filter_map (λ p. mark c.args.group.now c.args.steps.now p.0 p.1)) (zip-past c.args.group.now c.args.own_steps.now c.loop-k.k c.loop-k-test.false c.requires.long)
