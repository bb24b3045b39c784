-- Why the driver refuses: a style whose macros call each other in a ring, or numbers that grow too
-- large.
use Rattle.std.specs.Prelude.{◌≡◌, ℕ, ◌+◌, ◌≤◌, ◌^◌, Bool, List, length, take, slice_get, Some, All}
use Rattle.value_styles.specs.Ring.{HasNoRing, IsFirstRing}
use Rattle.value_styles.specs.Style.{StyleValue}
use Rattle.driver_entries.specs.Entries.{distinct}
use Rattle.driver_passes.specs.Request.{Request, cited}
use Rattle.csl_driver.specs.declared.error.DriverError.{DriverError}
use Rattle.csl_driver.specs.declared.error.DriverError.TheVariants as errors
use Rattle.csl_driver.specs.declared.error.RingLocation.{RingLocation}
use Rattle.csl_driver.specs.declared.error.RingLocation.TheVariants as places

module _ {E P : Type 0} where
  -- no request's style has a ring
  abbrev pub NoRingIn : List (Request E P) → Type 0
  NoRingIn requests = All (λ r. HasNoRing r.style.macros) requests

  -- neither a request's style nor that of the bibliography has a ring
  abbrev pub NoRingAtAll : List (Request E P) → StyleValue → Type 0
  NoRingAtAll requests style = NoRingIn requests × HasNoRing style.macros

  -- the style of the k-th request is the first of a request that has a ring, and the i-th is its
  -- first macro on one
  abbrev pub IsFirstRingAt : List (Request E P) → ℕ → ℕ → Type 0
  IsFirstRingAt requests k i =
      (r : Request E P) × (slice_get requests k ≡ Some r) × NoRingIn (take k requests)
      × IsFirstRing r.style.macros (Some i)

  -- the style at this place is the first that has a ring, the requests' in order and then that of
  -- the bibliography, and the i-th is its first macro on a ring
  abbrev pub IsFirstRingOf : List (Request E P) → StyleValue → RingLocation → ℕ → Type 0
  IsFirstRingOf requests style (places.Request k) i = IsFirstRingAt requests k i
  IsFirstRingOf requests style places.Bibliography i = NoRingIn requests
      × IsFirstRing style.macros (Some i)

  -- a refusal for a ring names the first one, and none is for the numbers; memory may run out
  -- anywhere
  abbrev pub RefusesRing : List (Request E P) → StyleValue → DriverError → Type 0
  RefusesRing requests style (errors.MacroRing place i) = IsFirstRingOf requests style place i
  RefusesRing requests style errors.NumberOverflow = ⊥
  RefusesRing requests style (errors.OutOfMemory a) = Unit {0}

  -- the offset and the number of distinct entries are above the greatest usize
  abbrev pub Overflows : (E → E → Bool) → List (Request E P) → ℕ → Type 0
  Overflows eq requests offset = 2 ^ 64 ≤ offset + length (distinct eq (cited requests))

  -- each refusal has its reason: too large a number where no style has a ring, and otherwise a ring
  -- or memory
  abbrev pub Refuses : (E → E → Bool) → List (Request E P) → StyleValue → ℕ → DriverError → Type 0
  Refuses eq requests style offset errors.NumberOverflow = NoRingAtAll requests style
      × Overflows eq requests offset
  Refuses eq requests style offset refusal = RefusesRing requests style refusal

-- a citation that stands for itself is refused for the first macro on a ring, at the place of a
-- first request, and for nothing else but want of memory
abbrev pub RefusesAlone : StyleValue → DriverError → Type 0
RefusesAlone style (errors.MacroRing place i) = (place ≡ places.Request 0)
    × IsFirstRing style.macros (Some i)
RefusesAlone style errors.NumberOverflow = ⊥
RefusesAlone style (errors.OutOfMemory a) = Unit {0}
