-- The purposes of cites.
use Rattle.std.specs.Prelude.{Bool, List, is_none}
use Rattle.std.specs.List.{list_all}
use Rattle.driver_passes.specs.Renders.{ItemRender}

-- no cite is written for a purpose of its own
abbrev pub has_no_purpose : {E P : Type 0} → List (ItemRender E P) → Bool
has_no_purpose = list_all (λ i. is_none i.purpose)
