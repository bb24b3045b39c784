use Rattle.std.proofs.Common.{append-nil, subst, sym, take, ◌++◌}
use Rattle.std.specs.List.{flat_map}
use Rattle.rounds_names.specs.ByName.{AreByName, names_of}
use Rattle.rounds_names.proofs.Holders.{persons-next}
use Rattle.rounds_names.proofs.by_name.add_member.Goals as goal

pub loop-person-init : goal.loop-person-init
loop-person-init c = λ so_far h. subst (AreByName c.args.by_name.now) (sym (append-nil so_far)) h

pub loop-person-preserved : goal.loop-person-preserved
loop-person-preserved c = λ so_far h.
    let place = c.args.member.now.place in
    let k = c.loop-person.person-index in
    subst (AreByName c.add_person.new.by_name) (persons-next so_far place c.as_slice-person-items.result.now k c.person-item.result c.loop-person-test.true c.person-item.is)
    (c.in_ok-add_person.ensures (so_far ++ flat_map (names_of place) (take k c.as_slice-person-items.result.now)) (c.loop-person.invariant so_far h))
