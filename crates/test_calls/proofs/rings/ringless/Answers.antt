use Rattle.std.proofs.Common.{subst, sym}
use Rattle.value_styles.specs.Ring.{HasNoRing}
use Rattle.test_calls.proofs.rings.ringless.Goals as goal

pub returns-in-None : goal.returns-in-None
returns-in-None c =
    subst (λ s. HasNoRing s.style.macros) (sym c.of_locales.ensures) (c.in_ok-ring.ensures.none c.in-None.is)
