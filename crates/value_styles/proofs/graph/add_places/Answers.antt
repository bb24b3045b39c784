use Rattle.std.proofs.Common.{◌≡◌, ◌<◌, ◌+◌, ◌∙◌, ℕ, Vec, Global, sym, ap, subst, length, drop, set, slice_index_or, Bool, true, false, arith}
use Rattle.std.proofs.lemmas.List.{length-set}
use Rattle.value_styles.specs.Places.{has_place, add_each, IsMarked}
use Rattle.value_styles.proofs.Reached.{place_within, mark_read, mark_new, add_next, new_is, old_is}
use Rattle.value_styles.proofs.graph.add_places.Goals as goal
use Rattle.value_styles.proofs.graph.add_places.Goals.{then-not-index+in_ok-push, else-not-index}

pub index-requires : goal.index-requires
index-requires c =
    let l = c.loop-place in
    let ps = c.args.places.now in
    let within = c.requires.within in
    let lt = place_within (length c.args.marks.now.items) ps l.place-index within c.loop-place-test.true in
    omega (arith, lt, l.invariant.2, l.marks.ok.0)

pub index_mut-requires : goal.index_mut-requires
index_mut-requires c =
    let l = c.loop-place in
    let ps = c.args.places.now in
    let within = c.requires.within in
    let lt = place_within (length c.args.marks.now.items) ps l.place-index within c.loop-place-test.true in
    omega (arith, lt, l.invariant.2, l.marks.ok.0)

pub loop-place-preserved : goal.loop-place-preserved
loop-place-preserved c =
    let l = c.loop-place in
    let ps = c.args.places.now in
    let p = slice_index_or ps l.place-index 0 in
    let within = c.requires.within in
    let lt = place_within (length c.args.marks.now.items) ps l.place-index within c.loop-place-test.true in
    let below : p < length l.marks.items = omega (arith, lt, l.invariant.2) in
    let next = add_next ps l.found.items l.place-index c.loop-place-test.true in
    let rest = drop (l.place-index + 1) ps in
    let mark = mark_read l.marks.items l.found.items p c.index.result.now l.invariant.1 below c.index.ensures in
    elim c.if-not-index.branch [
      | then-not-index+in_ok-push w ↦
          let out : has_place p l.found.items ≡ false = sym mark ∙ w.if-not-index.true in
          let found = ap (λ (v : Vec ℕ Global). v.items) w.found-is ∙ w.in_ok-push.ensures.items in
          let marks = ap (λ (v : Vec Bool Global). v.items) w.marks-is in
          let marked = mark_new l.marks.items l.found.items p l.invariant.1 below in (
            ap (add_each rest) (found ∙ sym (new_is p l.found.items out)) ∙ sym next ∙ l.invariant.0,
            subst (λ ms. IsMarked ms c.if-not-index.found.items) (sym marks) (subst (IsMarked (set l.marks.items p true)) (sym found) marked),
            ap length marks ∙ length-set l.marks.items p true ∙ l.invariant.2,
          )
      | else-not-index w ↦
          let there : has_place p l.found.items ≡ true = sym mark ∙ w.if-not-index.false in
          let found = ap (λ (v : Vec ℕ Global). v.items) w.found-is in
          let marks = ap (λ (v : Vec Bool Global). v.items) w.marks-is in (
            ap (add_each rest) (found ∙ sym (old_is p l.found.items there)) ∙ sym next ∙ l.invariant.0,
            subst (λ ms. IsMarked ms c.if-not-index.found.items) (sym marks) (subst (IsMarked l.marks.items) (sym found) l.invariant.1),
            ap length marks ∙ l.invariant.2,
          )
    ]
