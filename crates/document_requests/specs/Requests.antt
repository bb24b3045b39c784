-- The form of what is asked for, with styles looked up by name and entries by key.
use Rattle.std.specs.Prelude.{ℕ, List, [], ◌∷◌, Option, Some, None, option_and_then, codes}
use Rattle.std.specs.declared.convert.Infallible.{Infallible}
use Rattle.serde_json.specs.Data.{Data, Items, no_items, item}
use Rattle.serde_json.specs.Find.{as_array, as_str}
use Rattle.driver_lookup.specs.Properties.{text_payload, LocatorValue}
use Rattle.driver_lookup.specs.declared.apart.Apart.{Apart}
use Rattle.driver_passes.specs.Request.{RequestedCite}
use Rattle.document_values.specs.Words.{◌>>=◌, object_with, required, where_present, flag, list_form, items_of_key, whole, name_form}
use Rattle.document_values.specs.Names.{one_of}
use Rattle.document_values.specs.Tables.{aparts, locators, purposes}
use Rattle.document_requests.specs.declared.rounds.Rounds.{Rounds}

-- a locator: what it counts, and its text
abbrev pub locator_of_items : Items → Option (LocatorValue Infallible)
locator_of_items (item kind (item text no_items)) = do
  counted ← one_of locators kind
  place ← as_str text
  Some (record { kind = counted; payload = text_payload place })
locator_of_items _ = None

abbrev pub locator_form : Data → Option (LocatorValue Infallible)
locator_form d = option_and_then locator_of_items (as_array d)

-- where a caller's own words stand around a cite, which is said only where works are told apart as
-- CSL has it
abbrev pub apart_form : Rounds → Data → Option Apart
apart_form Rounds.Csl d = one_of aparts d
apart_form _ d = None

-- a cite of an entry
unfoldable pub item_form : {E : Type 0} → (List ℕ → Option E) → Rounds → Data
    → Option (RequestedCite E Infallible)
item_form entry rounds d = do
  o ← object_with (codes "entry" ∷ codes "locator" ∷ codes "locale" ∷ codes "hidden"
      ∷ codes "purpose" ∷ codes "apart" ∷ []) d
  cited ← required (name_form entry) (codes "entry") o
  locator ← where_present locator_form (codes "locator") o
  locale ← where_present as_str (codes "locale") o
  hidden ← flag (codes "hidden") o
  purpose ← where_present (one_of purposes) (codes "purpose") o
  apart ← where_present (apart_form rounds) (codes "apart") o
  Some (record {
    entry = cited;
    locator = locator;
    locale = locale;
    hidden = hidden;
    purpose = purpose;
    apart = apart;
    place = 0;
  })

-- a request for a citation, of a style and entries, or of their indexes
pub record RequestOf (S E : Type 0) : Type 0 where
  pub style : S
  pub locale : Option (List ℕ)
  pub note_number : Option ℕ
  pub cites : List (RequestedCite E Infallible)

-- a request for a bibliography, of a style and entries, or of their indexes
pub record WantedOf (S E : Type 0) : Type 0 where
  pub style : S
  pub locale : Option (List ℕ)
  pub order : Option (List E)

module _ {S E : Type 0} (style : List ℕ → Option S) (entry : List ℕ → Option E) where
  -- a request for a citation
  unfoldable pub request_form : Rounds → Data → Option (RequestOf S E)
  request_form rounds d = do
    o ← object_with (codes "style" ∷ codes "locale" ∷ codes "note" ∷ codes "items" ∷ []) d
    by ← required (name_form style) (codes "style") o
    locale ← where_present as_str (codes "locale") o
    note ← where_present whole (codes "note") o
    cites ← items_of_key (item_form entry rounds) (codes "items") o
    Some (record { style = by; locale = locale; note_number = note; cites = cites })

  -- what is asked of the bibliography: its style, its locale, and the order of its entries
  unfoldable pub wanted_form : Data → Option (WantedOf S E)
  wanted_form d = do
    o ← object_with (codes "style" ∷ codes "locale" ∷ codes "order" ∷ []) d
    by ← required (name_form style) (codes "style") o
    locale ← where_present as_str (codes "locale") o
    order ← where_present (list_form (name_form entry)) (codes "order") o
    Some (record { style = by; locale = locale; order = order })
