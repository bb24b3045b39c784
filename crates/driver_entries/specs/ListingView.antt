-- The plain data that a listing stands for.
use Rattle.std.specs.Prelude.{◌≡◌, length, map, nat_eq, unwrap_or}
use Rattle.std.specs.List.{position, range_with_len}
use Rattle.driver_entries.specs.Listed.{Listed}
use Rattle.driver_entries.specs.declared.listing.Listing.{Listing}

abbrev pub listing_view : Listing → Listed
listing_view l = record {
  order = l.order.items;
  numbers = map (λ n. unwrap_or n (length l.order.items)) l.numbers.items;
}

-- for the code: each place has its number in the order so far, or none
abbrev pub IsListing : Listing → Type 0
IsListing l = l.numbers.items
    ≡ map (λ p. position (nat_eq p) l.order.items) (range_with_len 0 (length l.numbers.items))
