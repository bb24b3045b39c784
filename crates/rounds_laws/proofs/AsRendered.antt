-- As they are rendered, cites have no overrides, no blocks and no cuts.
use Rattle.std.proofs.Common.{List, [], ◌∷◌, Option, Some, None, map, refl}
use Rattle.std.specs.Prelude.{All, zip}
use Rattle.std.proofs.lemmas.List.Elements.{All-cons, All-nil}
use Rattle.csl_driver.proofs.Standing.{all-mapped}
use Rattle.driver_lookup.specs.declared.state.DisambiguateState.{DisambiguateState}
use Rattle.driver_passes.specs.Renders.{CiteRender, ItemRender}
use Rattle.driver_passes.specs.Request.{Request, RequestedCite}
use Rattle.driver_passes.specs.declared.first.FirstProperties.{FirstProperties}
use Rattle.rounds_runs.specs.FirstRenders.{first_render, first_renders, first_renders_of}
use Rattle.rounds_runs.specs.Rounds.{StateTable, at_table, request_at, with_any}
use Rattle.driver_writers.specs.Writing.{Writing}
use Rattle.rounds_laws.specs.FurtherLaws.{IsAsRendered}

module _ {E P : Type 0} (writing : Writing E P) where
  abbrev pub AreAsRendered : CiteRender E P → Type 0
  AreAsRendered c = All IsAsRendered c.items

  first-items : (r : Request E P) (ps : List (RequestedCite E P × FirstProperties)) → All IsAsRendered (map (λ c. first_render writing r c.0 c.1) ps)
  first-items r [] = All-nil IsAsRendered
  first-items r (p ∷ ps) =
      All-cons IsAsRendered (first_render writing r p.0 p.1) (map (λ c. first_render writing r c.0 c.1) ps)
      (record { no_override = refl; no_block = refl; not_cut = refl }) (first-items r ps)

  first-rows : (ps : List (Request E P × List FirstProperties)) → All AreAsRendered (map (λ r. first_renders_of writing r.0 r.1) ps)
  first-rows [] = All-nil AreAsRendered
  first-rows (p ∷ ps) =
      All-cons AreAsRendered (first_renders_of writing p.0 p.1) (map (λ r. first_renders_of writing r.0 r.1) ps)
      (first-items p.0 (zip p.0.cites p.1)) (first-rows ps)

  again : (r : Request E P) (s : Option DisambiguateState) (i : ItemRender E P) → IsAsRendered i → IsAsRendered (with_any writing r s i)
  again r None i h = h
  again r (Some s) i h = record { no_override = h.no_override; no_block = h.no_block; not_cut = h.not_cut }

  -- with the states of a table too
  pub told-as-rendered : (requests : List (Request E P)) (properties : List (List FirstProperties)) (table : StateTable E)
      → All AreAsRendered (at_table writing table (first_renders writing requests properties))
  told-as-rendered requests properties table =
      all-mapped (request_at writing table) AreAsRendered
      (λ c h. all-mapped (λ i. with_any writing c.request (table i.entry) i) IsAsRendered (λ i. again c.request (table i.entry) i) c.items h)
      (first_renders writing requests properties) (first-rows (zip requests properties))
