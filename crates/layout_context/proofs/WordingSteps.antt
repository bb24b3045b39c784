-- Steps of writing with the terms of a style's locales.
use Rattle.std.proofs.Common.{◌≡◌, ℕ, false, List, ap, ◌∙◌}
use Rattle.std.specs.Prelude.{Result, Ok, Err, OnOk}
use Rattle.std.specs.declared.alloc.AllocError.{AllocError}
use Rattle.driver_lookup.specs.Lookup.{Lookup}
use Rattle.layout_context.specs.Steps.{ClosingQuotes}
use Rattle.layout_context.specs.WritingState.{State, may_pull, written, after_push_str}
use Rattle.layout_context.specs.Wording.{closing_quotes, pushed}

-- where nothing may be pulled
pub written_pushed : (r : Result (Unit {0}) AllocError) (k : Lookup) (s : List ℕ) (a b : State) → may_pull s a ≡ false → OnOk r (b ≡ written s a) → OnOk r (b ≡ pushed k s a)
unfolding pushed after_push_str
written_pushed (Err e) k s a b p h = tt
written_pushed (Ok u) k s a b p h = rw p h

pub pulled_pushed : (r : Result (Unit {0}) AllocError) (k : Lookup) (q : ClosingQuotes) (s : List ℕ) (a b : State) → q ≡ closing_quotes k → OnOk r (b ≡ after_push_str q s a) → OnOk r (b ≡ pushed k s a)
unfolding pushed
pulled_pushed (Err e) k q s a b p h = tt
pulled_pushed (Ok u) k q s a b p h = h ∙ ap (λ x. after_push_str x s a) p
