use Rattle.std.proofs.Common.{◌<◌, ◌≤◌, ap, arith, length, map, min, refl, ◌∙◌}
use Rattle.mentions_groups.specs.Written.{named_as}
use Rattle.mentions_groups.proofs.Naming.{all-named, names-next}
use Rattle.mentions_groups.proofs.written.names_in.Goals as goal

pub loop-k-preserved : goal.loop-k-preserved
loop-k-preserved c =
    let persons = c.args.persons.now in
    let forms = c.args.forms.now in
    let v : c.loop-k.k < length persons = omega arith in
    let w : c.loop-k.k < length forms = omega arith in
    names-next persons forms c.loop-k.k c.index-persons-k.result _ _ _ c.loop-k.names.items c.push.new.self.items v w c.in_ok-copied.ensures c.index-persons-k.is refl c.loop-k.invariant
    c.in_ok-push.ensures.items

pub returns : goal.returns
returns c =
    let persons = c.args.persons.now in
    let forms = c.args.forms.now in
    let past : min (length persons) (length forms) ≤ c.loop-k.k = omega arith in
    c.loop-k.invariant ∙ ap (map named_as) (all-named persons forms c.loop-k.k past)
