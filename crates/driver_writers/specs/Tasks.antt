-- What a writer is asked to write, as plain data.
use Rattle.std.specs.Prelude.{ℕ, Option}
use Rattle.driver_lookup.specs.Lookup.{Source}
use Rattle.driver_lookup.specs.Properties.{Properties}
use Rattle.driver_lookup.specs.declared.purpose.CitePurpose.{CitePurpose}
use Rattle.driver_lookup.specs.declared.state.CollapseVerdict.{CollapseVerdict}

-- where a cite stands that is written for the last time: the index of its request, and its own
-- there
abbrev pub LastPlace : Type 0
LastPlace = Option (ℕ × ℕ)

-- a cite, for its purpose and as its verdict cuts it; cites that are compared have no place
pub record CiteTaskValue (E P : Type 0) : Type 0 where
  pub source : Source
  pub entry : E
  pub properties : Properties P
  pub purpose : Option CitePurpose
  pub verdict : Option CollapseVerdict
  pub place : LastPlace

-- an item of the bibliography, by what is known of the first cite of its entry
pub record ItemTaskValue (E P : Type 0) : Type 0 where
  pub source : Source
  pub entry : E
  pub properties : Properties P

-- a date, with the suffix that means have, in place of a cite that is for the year alone
pub record DateTaskValue (E : Type 0) : Type 0 where
  pub source : Source
  pub entry : E
  pub suffix : Option ℕ
  pub place : LastPlace

pub data TaskValue (E P : Type 0) : Type 0 where
  cite_task : CiteTaskValue E P → TaskValue E P
  item_task : ItemTaskValue E P → TaskValue E P
  date_task : DateTaskValue E → TaskValue E P
