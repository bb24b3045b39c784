-- The position of a cite against the one before it.
use Rattle.std.specs.Prelude.{Bool, true, false, not, ◌&&◌, Option, Some, None, if◌then◌else◌, nat_eq, is_some}
use Rattle.std.specs.Cmp.Lexicographic.{pointwise}
use Rattle.value_sources.specs.contracts.taxonomy.LocatorPartialEq.TheImpl as locator_eq
use Rattle.driver_lookup.specs.Properties.{LocatorValue, Payload, own_payload, text_payload}
use Rattle.driver_lookup.specs.declared.state.IbidState.{IbidState}
use Rattle.driver_passes.specs.Request.{RequestedCite}

module _ {P : Type 0} (eq : P → P → Bool) where
  -- the same text, or equal payloads
  abbrev pub same_payload : Payload P → Payload P → Bool
  same_payload (text_payload a) (text_payload b) = pointwise nat_eq a b
  same_payload (own_payload a) (own_payload b) = eq a b
  same_payload _ _ = false

  -- the same locator: of one kind and with one payload; or none on both sides
  abbrev pub same_locators : Option (LocatorValue P) → Option (LocatorValue P) → Bool
  same_locators None None = true
  same_locators (Some a) (Some b) = (locator_eq.ghosts).eq a.kind b.kind
      && same_payload a.payload b.payload
  same_locators _ _ = false

  -- the position of a cite with this locator that repeats the last one, or doesn't
  abbrev pub position_by : Bool → Option (LocatorValue P) → Option (LocatorValue P) → IbidState
  position_by repeats this last =
      if not repeats then IbidState.Different
      else if same_locators this last then IbidState.Ibid
      else if is_some this then IbidState.IbidWithLocator
      else IbidState.Different

module _ {E P : Type 0} (entry_eq : E → E → Bool) (payload_eq : P → P → Bool) where
  -- a cite repeats the last one before it where that is shown and has an equal entry
  abbrev pub repeats : RequestedCite E P → RequestedCite E P → Bool
  repeats this last = not last.hidden && entry_eq this.entry last.entry

  -- the position of a cite against the last one before it
  abbrev pub with_last : RequestedCite E P → Option (RequestedCite E P) → IbidState
  with_last this None = IbidState.Different
  with_last this (Some last) = position_by payload_eq (repeats this last) this.locator last.locator
