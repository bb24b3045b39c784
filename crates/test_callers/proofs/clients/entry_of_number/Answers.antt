use Rattle.std.proofs.Common.{◌≡◌, ℕ, Option, Some, None, ap, length, map, sym, ◌∙◌, arith}
use Rattle.std.specs.Prelude.{nat_eq, option_map, position}
use Rattle.std.proofs.Math.ListN.{length-map}
use Rattle.std.proofs.lemmas.Option.{slice_get-get_or, slice_get-map}
use Rattle.test_callers.proofs.Found.{below, is-found, stands, there}
use Rattle.test_callers.proofs.clients.entry_of_number.Goals as goal

pub returns-in_err-place-clause-each : goal.returns-in_err-place-clause-each
returns-in_err-place-clause-each g c = λ offset law low high.
    let entries = map (λ e. e.now) c.args.account.now.entries.items in
    let many = length-map c.args.account.now.entries.items (λ e. e.now) in
    let found = is-found g.T.PartialEq.eq offset entries c.args.account.now.numbers.items c.args.number law low (omega (arith, high, many)) in
    let at = there c.args.number c.args.account.now.numbers.items found.within in
    let none = c.in_err-place.ensures in
    let value = c.deref.ensures.value in
    absurd (clash at (none ∙ ap (position (nat_eq c.args.number)) value))
  where
    clash : {x : ℕ} {o : Option ℕ} → o ≡ Some x → None ≡ o → ⊥
    clash p q = cc

pub returns-then-place-len-clause-own : goal.returns-then-place-len-clause-own
returns-then-place-len-clause-own g c = record {
  place = c.in_ok-place.place;
  entry = slice_get-map (λ e. e.now) c.args.account.now.entries.items c.in_ok-place.place
      ∙ ap (option_map (λ e. e.now)) (slice_get-get_or c.args.account.now.entries.items c.in_ok-place.place c.index.result.now (omega arith) ∙ ap Some (sym c.index.ensures));
  numbered = stands c.args.number c.args.account.now.numbers.items c.in_ok-place.place (c.in_ok-place.ensures ∙ ap (position (nat_eq c.args.number)) c.deref.ensures.value);
}

pub returns-clause-each : goal.returns-clause-each
returns-clause-each g c = λ offset law low high.
    let entries = map (λ e. e.now) c.args.account.now.entries.items in
    let many = length-map c.args.account.now.entries.items (λ e. e.now) in
    let found = is-found g.T.PartialEq.eq offset entries c.args.account.now.numbers.items c.args.number law low (omega (arith, high, many)) in
    let inside = below c.args.number (length entries) c.args.account.now.numbers.items c.in_ok-place.place found
    (c.in_ok-place.ensures ∙ ap (position (nat_eq c.args.number)) c.deref.ensures.value) in
    absurd (omega (arith, inside, many))
