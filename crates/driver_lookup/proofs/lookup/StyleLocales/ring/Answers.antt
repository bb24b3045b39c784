-- A prepared style has no ring.
use Rattle.std.proofs.Common.{subst}
use Rattle.value_styles.specs.Ring.{HasNoRing}
use Rattle.value_styles.specs.StyleView.{style_view}
use Rattle.driver_lookup.proofs.lookup.StyleLocales.ring.Goals as goal

pub returns-in-Some-clause-first : goal.returns-in-Some-clause-first
returns-in-Some-clause-first c =
    let prepared = c.in-Some.field-0 in
    let no_ring = subst (λ style. HasNoRing (style_view style).macros) (c.args.self.now.same prepared c.in-Some.is).0 prepared.style.now.no_ring in
    λ i r. no_ring r.0.name r.3

pub returns-in-Some-clause-none : goal.returns-in-Some-clause-none
returns-in-Some-clause-none c =
    let prepared = c.in-Some.field-0 in
    let no_ring = subst (λ style. HasNoRing (style_view style).macros) (c.args.self.now.same prepared c.in-Some.is).0 prepared.style.now.no_ring in
    λ _. no_ring
