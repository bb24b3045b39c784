use Rattle.std.proofs.Common.{◌≡◌, ◌+◌, ◌-◌, ◌<◌, ◌∙◌, length, take, drop, false, refl, subst, sym, ap, arith}
use Rattle.std.specs.List.{All}
use Rattle.value_lists.specs.Stack.{topmost, Gave}
use Rattle.value_lists.proofs.Tops.{topmost_here, topmost_below, refused_below, accepted_here}
use Rattle.value_lists.proofs.stack.topmost.Given as given
use Rattle.value_lists.proofs.stack.topmost.Goals as goal

pub returns-then-f-clause-exact : goal.returns-then-f-clause-exact
returns-then-f-clause-exact g c p k =
    let l = c.loop-height in
    let xs = c.args.items.now in
    let i = l.height - 1 in
    let up : i + 1 ≡ l.height = omega (arith, c.loop-height-test.true) in
    let lt : i < length xs = omega (arith, l.invariant.0, c.loop-height-test.true) in
    sym (topmost_here p xs i c.index-items-height.result lt c.index-items-height.is (sym (k _ _ c.f.ensures) ∙ c.if-f.true)) ∙ ap (λ n. topmost p (take n xs)) up ∙ l.invariant.1 p k

pub loop-height-preserved : goal.loop-height-preserved
loop-height-preserved g c =
    let l = c.loop-height in
    let xs = c.args.items.now in
    let i = l.height - 1 in
    let up : i + 1 ≡ l.height = omega (arith, c.loop-height-test.true) in
    let gives = given.F-post g c.args.f.now in
    let lt : i < length xs = omega (arith, l.invariant.0, c.loop-height-test.true) in (
      omega (arith, lt),
      λ p k. sym (topmost_below p xs i c.index-items-height.result lt c.index-items-height.is (sym (k _ _ c.f.ensures) ∙ c.if-f.false)) ∙ ap (λ n. topmost p (take n xs)) up ∙ l.invariant.1 p k,
      refused_below gives xs i l.height c.index-items-height.result up lt c.index-items-height.is (_, refl, subst (gives _) c.if-f.false c.f.ensures) l.invariant.2,
    )

pub returns-then-f-clause-accepted : goal.returns-then-f-clause-accepted
returns-then-f-clause-accepted g c =
    let l = c.loop-height in
    let gives = given.F-post g c.args.f.now in
    let xs = c.args.items.now in
    let i = l.height - 1 in
    let up : i + 1 ≡ l.height = omega (arith, c.loop-height-test.true) in
    let lt : i < length xs = omega (arith, l.invariant.0, c.loop-height-test.true) in
    accepted_here gives xs i l.height c.index-items-height.result up lt c.index-items-height.is (_, refl, subst (gives _) c.if-f.true c.f.ensures) l.invariant.2

pub returns-clause-refused : goal.returns-clause-refused
returns-clause-refused g c =
    λ none. let bottom : c.loop-height.height ≡ 0 = omega (arith, c.loop-height-test.false) in
    subst (λ n. All (Gave (given.F-post g c.args.f.now) false) (drop n c.args.items.now)) bottom c.loop-height.invariant.2
