-- Stretches of members that are linked, each to the next.
use Rattle.std.specs.Prelude.{ℕ, ◌+◌, ◌-◌, Bool, false, ◌&&◌, List, Option, Some, length, nat_le, slice_get}
use Rattle.std.specs.List.{list_all, list_any}
use Rattle.std.specs.Option.{option_map_or}
use Rattle.list_lemmas.specs.Places.{is_maximal, places}

-- both are there, and the test holds of them
abbrev pub both : {X : Type 0} → (X → X → Bool) → Option X → Option X → Bool
both link (Some x) (Some y) = link x y
both link _ _ = false

-- of members that may be in a stretch, where each is linked to the next
module _ {X : Type 0} (fits : X → Bool) where
  -- the member at a place may
  abbrev pub fits_at : List X → ℕ → Bool
  fits_at xs k = option_map_or fits (slice_get xs k) false

module _ {X : Type 0} (link : X → X → Bool) where
  -- the members at a place and behind it are linked
  abbrev pub linked_at : List X → ℕ → Bool
  linked_at xs k = both link (slice_get xs k) (slice_get xs (k + 1))

module _ {X : Type 0} (fits : X → Bool) (link : X → X → Bool) (xs : List X) where
  -- those from a to b may, and each is linked to the next
  abbrev pub is_chain : ℕ → ℕ → Bool
  is_chain a b = nat_le a b && list_all (fits_at fits xs) (places a (b + 1))
      && list_all (linked_at link xs) (places a b)

  -- as many as can be
  abbrev pub is_stretch : ℕ → ℕ → Bool
  is_stretch = is_maximal is_chain

  -- the member at k stands in a stretch behind its first one
  abbrev pub is_later : ℕ → Bool
  is_later k = list_any (λ a. list_any (λ b. is_stretch a b) (places k (length xs))) (places 0 k)

  -- a stretch begins before k and ends behind it
  abbrev pub is_inner : ℕ → Bool
  is_inner k =
      list_any (λ a. list_any (λ b. is_stretch a b) (places (k + 1) (length xs))) (places 0 k)

  -- a stretch of three or more ends at k
  abbrev pub ends_long : ℕ → Bool
  ends_long k = list_any (λ a. is_stretch a k) (places 0 (k - 1))
