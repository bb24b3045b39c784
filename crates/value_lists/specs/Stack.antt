-- The topmost item of a stack that passes a test, and what a write through a borrowed item leaves.
use Rattle.std.specs.Prelude.{◌≡◌, ℕ, suc, ◌+◌, List, [], ◌∷◌, Bool, true, false, Option, Some, None, All, IsSome, drop, option_map, slice_get, slice_set}
use Rattle.std.specs.Bool.{if◌then◌else◌}
use Rattle.std.specs.Option.{option_or}
use Rattle.std.specs.Borrow.{Lends, LendsSo, Bor, MutBor, Fml, RattleType}
use Rattle.value_lists.specs.contracts.stack.NonEmptyStack.{the_row}

-- the place of the last item that passes
abbrev pub topmost : {T : Type 0} → (T → Bool) → List T → Option ℕ
topmost p [] = None
topmost p (x ∷ xs) = option_or (option_map (λ i. suc i) (topmost p xs)) (if p x
    then Some 0 else None)

-- the list with that item replaced, if there is one
abbrev pub put_topmost : {T : Type 0} → (T → Bool) → List T → T → List T
put_topmost p xs w = put_at (topmost p xs) xs w
  where
    put_at : {T : Type 0} → Option ℕ → List T → T → List T
    put_at None xs w = xs
    put_at (Some i) xs w = slice_set xs i w

-- a closure, known by what it may give at a reference, answers as p does
abbrev pub AnswersAs : {T : Type 0} → (Bor T → Bool → Type 0) → (T → Bool) → Type 0
AnswersAs {T} may_give p = (x : Bor T) (b : Bool) → may_give x b → b ≡ p x.now

-- a closure, known by what it may give at a reference, gave that answer at an item
abbrev pub Gave : {T : Type 0} → (Bor T → Bool → Type 0) → Bool → T → Type 0
Gave {T} may_give answer x = (r : Bor T) × (r.now ≡ x) × may_give r answer

-- the closure accepted the item at that place, and refused those above it
abbrev pub IsTopmostAccepted : {T : Type 0} → (Bor T → Bool → Type 0) → List T → ℕ → Type 0
IsTopmostAccepted {T} may_give xs i = (x : T) × (slice_get xs i ≡ Some x) × Gave may_give true x
    × All (Gave may_give false) (drop (i + 1) xs)

-- the stack ends as it was, with item i set to the last value behind r
abbrev pub LendsItem : (T : RattleType) → MutBor (List T.Denot) → ℕ → MutBor T.Denot → Fml
LendsItem T stack i r = Lends (the_row T) T stack r (slice_set stack.now i)

-- the same with the topmost item that a closure accepts, whatever the closure does, and at whatever
-- test it computes; without one the stack ends as it was
abbrev pub LendsTopmost : (T : RattleType) → (Bor T.Denot → Bool → Type 0) → MutBor (List T.Denot)
    → Option (MutBor T.Denot) → Fml
LendsTopmost T may_give stack r =
    LendsSo (the_row T) T stack r
    (λ left w.
    (IsSome r → (i : ℕ) × IsTopmostAccepted may_give stack.now i × (left ≡ slice_set stack.now i w))
    × ((p : T.Denot → Bool) → AnswersAs may_give p → left ≡ put_topmost p stack.now w))
    (λ left. left ≡ stack.now)
