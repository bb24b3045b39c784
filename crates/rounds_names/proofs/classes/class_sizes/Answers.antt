use Rattle.std.proofs.Common.{◌<◌, arith, get_or, length, nat_eq, refl, take, ◌∙◌}
use Rattle.std.proofs.lemmas.List.{length-take-le}
use Rattle.std.proofs.lemmas.List.Sums.{count_by-le-length}
use Rattle.rounds_names.proofs.Marking.{same-default}
use Rattle.rounds_names.proofs.Sizes.{size-more}
use Rattle.rounds_names.proofs.classes.class_sizes.Goals as goal

pub overflow_add-index_mut : goal.overflow_add-index_mut
overflow_add-index_mut c =
    let cs = c.args.classes.now in
    let k = c.loop-class.class-index in
    let own = get_or cs k 0 in
    let below : own < length cs = c.requires k 0 c.loop-class-test.true in
    let count = c.loop-class.invariant.sizes own below in
    let few = count_by-le-length (nat_eq own) (take k cs) in
    let whole = length-take-le k cs (omega arith) in
    let long = c.loop-class.invariant.long in
    let all = c.loop-class.sizes.ok.0 in
    let value = c.index_mut.ensures.value ∙ same-default c.loop-class.sizes.items own c.index_mut.result.now 0 (omega (arith, below, long, all)) in
    omega (arith, count, few, whole, value)

pub loop-class-preserved : goal.loop-class-preserved
loop-class-preserved c = record {
  long = c.loop-class.invariant.long;
  sizes = λ n h.
      let cs = c.args.classes.now in
      let k = c.loop-class.class-index in
      let own = get_or cs k 0 in
      let sizes = c.loop-class.sizes.items in
      let below : own < length cs = c.requires k 0 c.loop-class-test.true in
      let long = c.loop-class.invariant.long in
      let all = c.loop-class.sizes.ok.0 in
      let there : own < length sizes = omega (arith, below, long, all) in
      size-more sizes cs k own c.index_mut.result.now n c.loop-class-test.true refl there
      (c.index_mut.ensures.value ∙ same-default sizes own c.index_mut.result.now 0 there) c.loop-class.invariant.sizes h;
}
