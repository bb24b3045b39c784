use Rattle.std.proofs.Common.{◌∙◌, ◌<◌, ℕ, Vec, Global, sym, ap, subst, length, get_or, arith}
use Rattle.std.proofs.lemmas.List.{length-set}
use Rattle.value_styles.specs.Places.{IsWithin}
use Rattle.value_styles.proofs.Reached.{place_within}
use Rattle.value_styles.proofs.Rows.{one_more}
use Rattle.value_styles.proofs.order.take_away.Goals as goal
use Rattle.value_styles.proofs.order.take_away.Goals.{then-left-eq0+in_ok-push, else-left-eq0}

pub index-requires : goal.index-requires
index-requires c =
    let l = c.loop-place in
    omega (arith, place_within (length c.args.counts.now.items) c.args.row.now l.place-index c.requires.row c.loop-place-test.true, l.invariant.0, l.counts.ok.0)

pub index_mut-requires : goal.index_mut-requires
index_mut-requires c =
    let l = c.loop-place in
    omega (arith, place_within (length c.args.counts.now.items) c.args.row.now l.place-index c.requires.row c.loop-place-test.true, l.invariant.0, l.counts.ok.0)

pub loop-place-preserved : goal.loop-place-preserved
loop-place-preserved c =
    let l = c.loop-place in
    let n = length c.args.counts.now.items in
    let p = get_or c.args.row.now l.place-index 0 in
    let below : p < n = place_within n c.args.row.now l.place-index c.requires.row c.loop-place-test.true in (
      length-set l.counts.items p _ ∙ l.invariant.0,
      elim c.if-left-eq0.branch [
        | then-left-eq0+in_ok-push w ↦
            let free = ap (λ (v : Vec ℕ Global). v.items) w.free-is ∙ w.in_ok-push.ensures.items in
            subst (IsWithin n) (sym free) (one_more n p l.free.items l.invariant.1 below)
        | else-left-eq0 w ↦ subst (IsWithin n) (sym (ap (λ (v : Vec ℕ Global). v.items) w.free-is)) l.invariant.1
      ],
    )
