use Rattle.std.proofs.Common.{◌≡◌, ◌+◌, ◌-◌, [], ◌∷◌, ◌++◌, ap, sym, ◌∙◌, arith}
use Rattle.std.specs.List.{range_with_len}
use Rattle.driver_entries.proofs.Numbers.{range-more}
use Rattle.test_callers.proofs.clients.numbers_between.Goals as goal

pub loop-number-init : goal.loop-number-init
loop-number-init c =
    let none : c.args.first + 1 - (c.args.first + 1) ≡ 0 = omega arith in
    (c.new-numbers.ensures.items ∙ sym (ap (range_with_len (c.args.first + 1)) none), omega arith)

pub loop-number-preserved : goal.loop-number-preserved
loop-number-preserved c =
    let low = c.loop-number.invariant.1 in
    let reached : c.args.first + 1 + (c.loop-number.number - (c.args.first + 1)) ≡ c.loop-number.number = omega (arith, low) in
    let more : c.loop-number.number - (c.args.first + 1) + 1 ≡ c.loop-number.number + 1 - (c.args.first + 1) = omega (arith, low) in (
      c.in_ok-push.ensures.items ∙ ap (λ l. l ++ c.loop-number.number ∷ []) c.loop-number.invariant.0
          ∙ sym (range-more (c.args.first + 1) (c.loop-number.number - (c.args.first + 1)) c.loop-number.number reached) ∙ ap (range_with_len (c.args.first + 1)) more,
      omega (arith, low),
    )
