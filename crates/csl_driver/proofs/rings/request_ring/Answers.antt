use Rattle.std.proofs.Common.{Some, subst}
use Rattle.std.proofs.Math.ListN.{length-map}
use Rattle.value_styles.specs.Ring.{HasNoRing, IsFirstRing}
use Rattle.driver_lookup.specs.Lookup.{Source}
use Rattle.driver_passes.specs.RequestView.{request_view, requests_view}
use Rattle.csl_driver.proofs.RingLemmas.{no_ring-more, first_ring, no_ring-all}
use Rattle.csl_driver.proofs.rings.request_ring.Goals as goal

pub loop-k-preserved : goal.loop-k-preserved
loop-k-preserved g c =
    no_ring-more request_view c.args.requests.now c.loop-k.k c.index-requests-k.result c.loop-k-test.true c.index-requests-k.is
    (subst (λ (s : Source). HasNoRing s.style.macros) c.source.ensures (c.in_ok-macro_index.ensures.none c.in_default.is)) c.loop-k.invariant

pub returns-in-Some-clause-found : goal.returns-in-Some-clause-found
returns-in-Some-clause-found g c =
    let request = c.index-requests-k.result in
    first_ring request_view c.args.requests.now c.loop-k.k request c.loop-k-test.true c.index-requests-k.is c.in-Some.macro_index
    (subst (λ (s : Source). IsFirstRing s.style.macros (Some c.in-Some.macro_index)) c.source.ensures
    (subst (IsFirstRing _) c.in-Some.is c.in_ok-macro_index.ensures.first)) c.loop-k.invariant

pub returns-clause-none : goal.returns-clause-none
returns-clause-none g c = λ _.
    no_ring-all (requests_view c.args.requests.now) c.loop-k.k (simp length-map c.loop-k-test.false) c.loop-k.invariant
