-- Requests as plain data: no capacity and no address is seen.
use Rattle.std.specs.Prelude.{ℕ, ◌+◌, Bool, List, [], ◌∷◌, Option, map}
use Rattle.std.specs.List.{flat_map}
use Rattle.value_styles.specs.Style.{StyleValue, LocaleValue}
use Rattle.driver_lookup.specs.Lookup.{Source}
use Rattle.driver_lookup.specs.Properties.{LocatorValue}
use Rattle.driver_lookup.specs.declared.apart.Apart.{Apart}
use Rattle.driver_lookup.specs.declared.purpose.CitePurpose.{CitePurpose}

-- a cite: what is cited and how, and the place that it had in its request
pub record RequestedCite (E P : Type 0) : Type 0 where
  pub entry : E
  pub locator : Option (LocatorValue P)
  pub locale : Option (List ℕ)
  pub hidden : Bool
  pub purpose : Option CitePurpose
  pub apart : Option Apart
  pub place : ℕ

pub record Request (E P : Type 0) : Type 0 where
  pub cites : List (RequestedCite E P)
  pub style : StyleValue
  pub locale : Option (List ℕ)
  pub locales : List LocaleValue
  pub note_number : Option ℕ

-- a request for a bibliography
pub record Wanted (E : Type 0) : Type 0 where
  pub style : StyleValue
  pub locale : Option (List ℕ)
  pub locales : List LocaleValue
  pub order : Option (List E)

module _ {E P : Type 0} where
  -- the cites with the places k, k + 1 and on
  abbrev pub placed_from : ℕ → List (RequestedCite E P) → List (RequestedCite E P)
  placed_from k [] = []
  placed_from k (c ∷ cs) = record c { place = k } ∷ placed_from (k + 1) cs

  -- the request with each cite's place set to where it stands
  abbrev pub with_places : Request E P → Request E P
  with_places r = record r { cites = placed_from 0 r.cites }

  -- what is cited, in order
  abbrev pub entries_of : List (RequestedCite E P) → List E
  entries_of = map (λ c. c.entry)

  -- the cited entries of all requests, in order
  abbrev pub cited : List (Request E P) → List E
  cited requests = flat_map (λ r. entries_of r.cites) requests

  -- the cites of all requests, in order
  abbrev pub cites_of : List (Request E P) → List (RequestedCite E P)
  cites_of requests = flat_map (λ r. r.cites) requests

  -- the style that a request's cites are written in, with its locales
  abbrev pub source_of : Request E P → Source
  source_of r = record { style = r.style; locale = r.locale; files = r.locales }

-- the style that a bibliography is written in, with its locales
abbrev pub wanted_source : {E : Type 0} → Wanted E → Source
wanted_source w = record { style = w.style; locale = w.locale; files = w.locales }
