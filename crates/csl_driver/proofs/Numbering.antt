-- By which entries the final numbers go.
use Rattle.std.proofs.Common.{◌≡◌, Bool, List, Option, Some, None, refl}
use Rattle.csl_driver.specs.Answer.{numbered_finally}
use Rattle.driver_entries.specs.Entries.{bibliography_order, distinct}
use Rattle.driver_passes.specs.Renders.{CiteRender}
use Rattle.driver_passes.specs.Request.{Request, cited}
use Rattle.driver_positions.specs.FinalProperties.{cited_finally}

module _ {E P : Type 0} (eq : E → E → Bool) (requests : List (Request E P)) (cites : List (CiteRender E P)) (order : Option (List E)) where
  -- the bibliography's where an order is used
  pub by-order : (handed : List E) → Some handed ≡ order → bibliography_order eq order (cited requests) ≡ numbered_finally eq order requests cites
  by-order handed used = by order used
    where
      by : (o : Option (List E)) → Some handed ≡ o → bibliography_order eq o (cited requests) ≡ numbered_finally eq o requests cites
      by None q = cc
      by (Some x) q = refl

  -- else those of the cites in their final order
  pub by-cites : None ≡ order → distinct eq (cited_finally cites) ≡ numbered_finally eq order requests cites
  by-cites unused = by order unused
    where
      by : (o : Option (List E)) → None ≡ o → distinct eq (cited_finally cites) ≡ numbered_finally eq o requests cites
      by None q = refl
      by (Some x) q = cc
