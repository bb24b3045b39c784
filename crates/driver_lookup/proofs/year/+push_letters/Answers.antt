use Rattle.std.proofs.Common.{◌≡◌, arith, ap, ◌∙◌, string_bytes}
use Rattle.driver_lookup.specs.SuffixLetters.{letter}
use Rattle.driver_lookup.proofs.Letters.{pushed_alone, pushed_behind}
use Rattle.driver_lookup.proofs.year.+push_letters.Goals as goal
use Rattle.driver_lookup.proofs.year.+push_letters.Goals.{then-suffix-ge26+in_ok-push_letters, else-suffix-ge26}

pub returns : goal.returns
returns t c =
    let is : c.from.result ≡ letter c.args.suffix = omega (arith, c.from.ensures) in
    let last = c.push.ensures.ascii (omega (arith, is)) in
    elim c.if-suffix-ge26.branch [
      | then-suffix-ge26+in_ok-push_letters w ↦ pushed_behind c.args.suffix c.from.result _ _ _ _ w.if-suffix-ge26.true (ap string_bytes w.text-is ∙ w.in_ok-push_letters.ensures) is last c.in_ok-push.ensures.bytes
      | else-suffix-ge26 w ↦ pushed_alone c.args.suffix c.from.result _ _ _ _ w.if-suffix-ge26.false (ap string_bytes w.text-is) is last c.in_ok-push.ensures.bytes
    ]
