-- The renders of cites as plain data: no capacity and no address is seen.
use Rattle.std.specs.Prelude.{ℕ, Bool, List, Option}
use Rattle.value_trees.specs.Child.{Child}
use Rattle.value_sources.specs.declared.names.NameDisambiguationProperties.{NameDisambiguationProperties}
use Rattle.driver_lookup.specs.Properties.{LocatorValue, Properties}
use Rattle.driver_lookup.specs.declared.apart.Apart.{Apart}
use Rattle.driver_lookup.specs.declared.purpose.CitePurpose.{CitePurpose}
use Rattle.driver_lookup.specs.declared.state.CollapseVerdict.{CollapseVerdict}
use Rattle.driver_passes.specs.Request.{Request}

-- a cite as it was rendered last, and what is known of it
pub record ItemRender (E P : Type 0) : Type 0 where
  pub rendered : List Child
  pub entry : E
  pub properties : Properties P
  pub checked_disambiguate : Bool
  pub first_name : Option NameDisambiguationProperties
  pub delimiter_override : Option (List ℕ)
  pub group : Option ℕ
  pub locator : Option (LocatorValue P)
  pub hidden : Bool
  pub locale : Option (List ℕ)
  pub purpose : Option CitePurpose
  pub apart : Option Apart
  pub verdict : Option CollapseVerdict

-- the cites of a request
pub record CiteRender (E P : Type 0) : Type 0 where
  pub items : List (ItemRender E P)
  pub request : Request E P

-- the place of a cite: that of its request, and its own there
abbrev pub Place : Type 0
Place = ℕ × ℕ
