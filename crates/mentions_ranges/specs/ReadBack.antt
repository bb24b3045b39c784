-- What a caller may rely on where cites collapse to ranges, without reading how ranges are found.
use Rattle.std.specs.Prelude.{◌≡◌, ℕ, ◌+◌, ◌<◌, ◌≤◌, All, Bool, true, false, ◌||◌, List, Option, Some, is_some, length, map, option_and_then, option_map, slice_get, slice_range}
use Rattle.std.specs.Option.{option_map_or}
use Rattle.driver_lookup.specs.Between.{between}
use Rattle.mentions_ranges.specs.NumberRanges.{number_ranges}
use Rattle.mentions_ranges.specs.SuffixStretches.{suffix_stretches}
use Rattle.mentions_ranges.specs.declared.collapsed.CollapsedCite.{CollapsedCite}
use Rattle.mentions_ranges.specs.declared.collapsed.Delimiter.{Delimiter}
use Rattle.mentions_ranges.specs.declared.numbers.NumberedCite.{NumberedCite}
use Rattle.mentions_ranges.specs.declared.suffixes.SuffixedCite.{SuffixedCite}

-- k stands between two that follow each other in this way
pub record IsBetweenShown (AreNextShown : ℕ → ℕ → Type 0) (k : ℕ) : Type 0 where
  pub first : ℕ
  pub last : ℕ
  pub next_shown : AreNextShown first last
  pub is_between : (first < k) × (k < last)

-- the test holds of the cite at k
abbrev pub holds_at : {X : Type 0} → (X → Bool) → List X → ℕ → Bool
holds_at test xs k = option_map_or test (slice_get xs k) false

-- what is read of the cite at k, if anything
abbrev pub read_at : {X Y : Type 0} → (X → Option Y) → List X → ℕ → Option Y
read_at read xs k = option_and_then read (slice_get xs k)

-- of the cites of a request, what collapsing made of them, and which of them their caller hides
module _ {X : Type 0} (cites : List X) (collapsed : List CollapsedCite) (hidden : X → Bool) where
  -- collapsing hid the cite at k
  abbrev pub WasHid : ℕ → Type 0
  WasHid k = (holds_at hidden cites k ≡ false) × (holds_at (λ c. c.is_inner) collapsed k ≡ true)

  -- its caller hides it, or it is inside a range
  abbrev pub is_hidden : ℕ → Bool
  is_hidden k = holds_at hidden cites k || holds_at (λ c. c.is_inner) collapsed k

  -- p and q are shown, and all cites between them are hidden
  pub record AreNextShown (p q : ℕ) : Type 0 where
    pub in_order : p < q
    pub in_request : q < length cites
    pub first_shown : is_hidden p ≡ false
    pub last_shown : is_hidden q ≡ false
    pub between_hidden : (k : ℕ) → p < k → k < q → is_hidden k ≡ true

  -- of cites with numbers, each of a class
  module _ (class number : X → Option ℕ) where
    -- the cites between p and q: collapsing hid them all, they are of the class of p and q, their
    -- numbers in order are exactly those strictly between the numbers of p and q, and a dash
    -- stands before q
    pub record AreReadBack (p q : ℕ) : Type 0 where
      pub all_were_hid : (k : ℕ) → p < k → k < q → WasHid k
      pub one_class : (k : ℕ) → p ≤ k → k ≤ q → read_at class cites k ≡ read_at class cites p
      pub first_number : ℕ
      pub last_number : ℕ
      pub is_first : read_at number cites p ≡ Some first_number
      pub is_last : read_at number cites q ≡ Some last_number
      pub numbers_between : slice_range (map number cites) (p + 1) q
          ≡ map Some (between first_number last_number)
      pub dash : option_map (λ c. c.delimiter) (slice_get collapsed q) ≡ Some Delimiter.Dash

    -- the law
    pub record CanBeReadBack : Type 0 where
      -- what collapsing hid stands between two shown cites
      pub hidden_between_shown : (k : ℕ) → WasHid k → IsBetweenShown AreNextShown k
      -- where collapsing hid one of the cites between two shown ones, what is hidden there can be
      -- read back
      pub hidden_can_be_read_back : (p q k : ℕ) → AreNextShown p q → p < k → k < q → WasHid k
          → AreReadBack p q

-- no cite with a number is hidden by its caller. Else the law is false: a hidden cite may end a
-- range, and then its last number isn't shown
abbrev pub RangedAreShown : List NumberedCite → Type 0
RangedAreShown cites = All (λ c. is_some c.number ≡ true → c.hidden ≡ false) cites

-- the law for citation numbers, which are all of one class
abbrev pub NumberRangesCanBeReadBack : List NumberedCite → Type 0
NumberRangesCanBeReadBack cites =
    CanBeReadBack cites (number_ranges cites) (λ c. c.hidden) (λ c. Some 0) (λ c. c.number)

-- the law for suffixes of years
pub record SuffixRangesCanBeReadBack (ranges : Bool) (cites : List SuffixedCite) : Type 0 where
  -- nothing is hidden but by ranges
  pub only_ranges_hide : (k : ℕ) → WasHid cites (suffix_stretches ranges cites) (λ c. c.hidden) k
      → ranges ≡ true
  -- and what they hide can be read back
  pub ranges_can_be_read_back : CanBeReadBack cites (suffix_stretches ranges cites)
      (λ c. c.hidden)
      (λ c. option_map (λ s. s.class) c.suffix)
      (λ c. option_map (λ s. s.number) c.suffix)
