-- Two numbers of which one is smaller aren't equal.
use Rattle.std.proofs.Common.{◌≡◌, ℕ, ◌<◌, arith}

pub below : (a b : ℕ) → a < b → a ≡ b → ⊥
below a b h e = absurd (omega (arith, h, e))

pub above : (a b : ℕ) → b < a → a ≡ b → ⊥
above a b h e = absurd (omega (arith, h, e))
