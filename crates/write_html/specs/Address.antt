-- Addresses to which links lead, as they stand in an attribute.
use Rattle.std.specs.Prelude.{ℕ, Bool, List, [], ◌∷◌, ◌&&◌, ◌==◌, not, map, codes, nat_eq}
use Rattle.std.specs.Char.{to_ascii_lowercase}
use Rattle.std.specs.List.{list_all, list_any, starts_with}
use Rattle.std.specs.Str.{byte}

-- no byte ends the value of an attribute, or is one of those of tags
abbrev pub is_of_value : ℕ → Bool
is_of_value b = not (b == byte "\"") && not (b == byte "<") && not (b == byte ">")

-- the schemes of addresses, and with what one begins that is in the same page
abbrev pub beginnings : List (List ℕ)
beginnings = codes "http:" ∷ codes "https:" ∷ codes "mailto:" ∷ codes "#" ∷ []

-- an address begins with one of them, in any case
abbrev pub is_allowed : List ℕ → Bool
is_allowed value = list_any (λ s. starts_with nat_eq (map to_ascii_lowercase value) s) beginnings

abbrev pub is_address : List ℕ → Bool
is_address value = list_all is_of_value value && is_allowed value
