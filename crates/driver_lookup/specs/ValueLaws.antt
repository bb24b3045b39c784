-- Laws of operations on small values.
use Rattle.std.specs.Prelude.{◌≡◌, false}
use Rattle.std.specs.Ordering.{is_gt}
use Rattle.std.specs.declared.cmp.Ordering.{Ordering}

module _ {A : Type 0} where
  abbrev pub IsCommutative : (A → A → A) → Type 0
  IsCommutative join = (a b : A) → join a b ≡ join b a

  abbrev pub IsAssociative : (A → A → A) → Type 0
  IsAssociative join = (a b c : A) → join (join a b) c ≡ join a (join b c)

  abbrev pub IsIdempotent : (A → A → A) → Type 0
  IsIdempotent join = (a : A) → join a a ≡ a

  -- neither of the two is greater than what they are joined to
  abbrev pub IsNeverBelow : (A → A → Ordering) → (A → A → A) → Type 0
  IsNeverBelow cmp join = (a b : A)
      → (is_gt (cmp a (join a b)) ≡ false) × (is_gt (cmp b (join a b)) ≡ false)

  -- twice is as good as once
  abbrev pub IsOnce : (A → A) → Type 0
  IsOnce change = (a : A) → change (change a) ≡ change a

  -- in either order
  abbrev pub Commute : (A → A) → (A → A) → Type 0
  Commute change other = (a : A) → change (other a) ≡ other (change a)
