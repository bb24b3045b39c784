-- The first renders of cites aren't disambiguated.
use Rattle.std.proofs.Common.{◌≡◌, List, [], ◌∷◌, map, refl}
use Rattle.std.specs.Prelude.{flat_map, zip}
use Rattle.std.proofs.lemmas.List.Elements.{All-append, All-map, All-nil}
use Rattle.driver_writers.specs.Writing.{Writing}
use Rattle.driver_lookup.specs.declared.state.DisambiguateState.{DisambiguateState}
use Rattle.driver_passes.specs.Renders.{ItemRender}
use Rattle.driver_passes.specs.Request.{Request}
use Rattle.driver_passes.specs.declared.first.FirstProperties.{FirstProperties}
use Rattle.rounds_runs.specs.FirstRenders.{AreBegun, first_render, first_renders, first_renders_of}

module _ {E P : Type 0} (writing : Writing E P) where
  abbrev IsUntold : ItemRender E P → Type 0
  IsUntold i = i.properties.speculative.disambiguation ≡ DisambiguateState.None

  rows-begun : (ps : List (Request E P × List FirstProperties)) → AreBegun (map (λ r. first_renders_of writing r.0 r.1) ps)
  rows-begun [] = All-nil IsUntold
  rows-begun (p ∷ ps) =
      All-append IsUntold (first_renders_of writing p.0 p.1).items (flat_map (λ c. c.items) (map (λ r. first_renders_of writing r.0 r.1) ps))
      (All-map IsUntold (λ c. first_render writing p.0 c.0 c.1) (zip p.0.cites p.1) (λ k d w. refl)) (rows-begun ps)

  pub first-begun : (requests : List (Request E P)) (firsts : List (List FirstProperties)) → AreBegun (first_renders writing requests firsts)
  first-begun requests firsts = rows-begun (zip requests firsts)
