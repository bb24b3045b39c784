-- What a test of equality tells.
use Rattle.std.specs.Prelude.{◌≡◌, Bool}
use Rattle.std.specs.Bool.{Decides}

module _ {A : Type 0} where
  -- the test is true exactly of equal values
  abbrev pub TellsEqual : (A → A → Bool) → Type 0
  TellsEqual test = (a b : A) → Decides (test a b) (a ≡ b)

  -- the test is true exactly of values that are seen as equal
  abbrev pub TellsSeen : {V : Type 0} → (A → V) → (A → A → Bool) → Type 0
  TellsSeen view test = (a b : A) → Decides (test a b) (view a ≡ view b)
