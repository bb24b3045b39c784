use Rattle.std.proofs.Common.{Ok, None, [], ap, ◌∙◌, arith}
use Rattle.cite_sorting.proofs.Runs.{after_one_key, same_indexes}
use Rattle.cite_sorting.specs.Ties.{runs}
use Rattle.cite_sorting.proofs.ties.parts_of.Given as given
use Rattle.cite_sorting.proofs.ties.parts_of.Goals as goal

pub returns-clause-same : goal.returns-clause-same
returns-clause-same g c =
    same_indexes g.V.Ord.cmp g.V.PartialEq.eq c.args.tied.items c.in_ok-rows.rows.items c.in_ok-parts_in_order.field-0.items
    (c.in_ok-parts_in_order.ensures ∙ ap (runs g.V.PartialEq.eq None []) c.as_slice.ensures.value) c.in_ok-rows.ensures.same

pub returns-clause-order : goal.returns-clause-order
returns-clause-order g c =
    after_one_key g.V.Ord.cmp g.met.V.Ord.total (λ k i v. given.F-post g c.args.value.now k i (Ok v)) g.V.PartialEq.eq g.met.V.Ord.matches_eq c.args.key c.args.tied.items c.in_ok-rows.rows.items c.in_ok-parts_in_order.field-0.items
    (c.in_ok-parts_in_order.ensures ∙ ap (runs g.V.PartialEq.eq None []) c.as_slice.ensures.value)
    c.in_ok-rows.ensures.same c.in_ok-rows.ensures.values c.in_ok-rows.ensures.sorted
    (omega (arith, c.if-len-lt2.false, c.len.ensures, c.args.tied.ok.0))
