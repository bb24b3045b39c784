-- The item that is lent, and none.
use Rattle.std.proofs.Common.{◌≡◌, Bool, false, Some, None, option_and_then, slice_get, refl, sym, ap, ◌∙◌, subst}
use Rattle.std.specs.List.{All}
use Rattle.value_lists.specs.Stack.{topmost, AnswersAs, Gave, IsTopmostAccepted}
use Rattle.value_lists.proofs.stack.NonEmptyStack.last_mut_predicate.Given as given
use Rattle.value_lists.proofs.stack.NonEmptyStack.last_mut_predicate.Goals as goal

pub returns-in-Some : goal.returns-in-Some
returns-in-Some g c =
    let gives = given.F-post g c.args.f in
    let held = c.deref.ensures.value ∙ c.self.view_is in
    let i = c.in-Some.place in
    let accepted : IsTopmostAccepted gives c.args.self.now i = subst (λ xs. IsTopmostAccepted gives xs i) held c.in-Some.ensures.accepted in
    let top : (p : g.row.T.Denot → Bool) → AnswersAs gives p → topmost p c.args.self.now ≡ Some i = λ p k. ap (topmost p) (sym held) ∙ sym (c.in-Some.ensures.exact p k) in (
      (refl, λ w. (λ _. (i, accepted, refl), λ p k. rw (top p k)), refl),
      record {
        writes_back = tt;
        value = λ p k. sym (ap (option_and_then (slice_get c.args.self.now)) (top p k) ∙ c.item_mut.ensures.value);
        accepted = (i, accepted, c.item_mut.ensures.value);
        refused = λ e. cc;
      },
    )

pub returns : goal.returns
returns g c =
    let gives = given.F-post g c.args.f in
    let held = c.deref.ensures.value ∙ c.self.view_is in
    let refused = subst (All (Gave gives false)) held (c.in-None.ensures.refused refl) in
    let top : (p : g.row.T.Denot → Bool) → AnswersAs gives p → topmost p c.args.self.now ≡ None = λ p k. ap (topmost p) (sym held) ∙ sym (c.in-None.ensures.exact p k) in (
      (refl, λ w. (λ h. cc, λ p k. rw (top p k)), refl),
      record {
        writes_back = tt;
        value = λ p k. sym (ap (option_and_then (slice_get c.args.self.now)) (top p k));
        accepted = tt;
        refused = λ e. refused;
      },
    )
