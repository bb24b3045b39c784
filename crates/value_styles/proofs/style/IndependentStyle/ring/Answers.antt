-- Where an order was found, and where the first ring was looked for.
use Rattle.std.proofs.Common.{◌≡◌, ◌∙◌, ℕ, List, Option, None, Some, Result, Ok, Err, IfOk, ap, sym, subst}
use Rattle.value_styles.specs.Element.{Macro}
use Rattle.value_styles.specs.ElementView.{macros_view}
use Rattle.value_styles.specs.Ring.{IsFirstRing, IsRingAt, HasNoRing, call_places}
use Rattle.value_styles.specs.Places.{Places, IsClosed, IsOnRound}
use Rattle.value_styles.proofs.Rows.{rows_of}
use Rattle.value_styles.proofs.Rings.{place_found, calls_closed, round_of_ring, no_ring}
use Rattle.value_styles.proofs.style.IndependentStyle.ring.Goals as goal

-- macros whose places lie on no round lie on no ring
none_at : (ms : List Macro) (rows : List Places) → rows ≡ call_places ms → ((i : ℕ) → IsOnRound rows i → ⊥) → (i : ℕ) → IsRingAt ms i → ⊥
none_at ms rows e none i r = none i (subst (λ xs. IsOnRound xs i) (sym e) (round_of_ring ms r.0.name i (place_found ms i r.0 r.1 r.2) r.3))

first_is_none : {E : Type 0} (r : Result (Option ℕ) E) (ms : List Macro) → IfOk r (IsFirstRing ms) → IfOk r (λ o. o ≡ None → HasNoRing ms)
first_is_none (Ok None) ms h = λ _. no_ring ms h
first_is_none (Ok (Some i)) ms h = λ e. cc
first_is_none (Err e) ms h = tt

pub has_order-requires : goal.has_order-requires
has_order-requires c =
    let rows = ap rows_of c.deref-2.ensures.value ∙ c.in_ok-rows.ensures in
    subst IsClosed (sym rows) (calls_closed (macros_view c.deref.result.now))

pub returns-then-branch-clause-first : goal.returns-then-branch-clause-first
returns-then-branch-clause-first c =
    let rows = ap rows_of c.deref-2.ensures.value ∙ c.in_ok-rows.ensures in
    subst (λ ms. (i : ℕ) → IsRingAt (macros_view ms) i → ⊥) c.deref.ensures.value
    (none_at (macros_view c.deref.result.now) _ rows (c.in_ok-has_order.ensures c.if-branch.true))

pub returns-then-branch-clause-none : goal.returns-then-branch-clause-none
returns-then-branch-clause-none c = λ _.
    let rows = ap rows_of c.deref-2.ensures.value ∙ c.in_ok-rows.ensures in
    subst (λ ms. HasNoRing (macros_view ms)) c.deref.ensures.value
    (no_ring (macros_view c.deref.result.now) (none_at (macros_view c.deref.result.now) _ rows (c.in_ok-has_order.ensures c.if-branch.true)))

pub returns-clause-none : goal.returns-clause-none
returns-clause-none c =
    first_is_none c.first_ring.result (macros_view c.args.self.now.macros.items)
    (subst (λ ms. IfOk c.first_ring.result (IsFirstRing (macros_view ms))) c.deref-3.ensures.value c.first_ring.ensures)
