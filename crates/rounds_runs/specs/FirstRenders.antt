-- The first renders of cites, before any of them is disambiguated from others.
use Rattle.std.specs.Prelude.{◌≡◌, All, List, None, flat_map, length, map, zip}
use Rattle.driver_lookup.specs.NoProperties.{speculated}
use Rattle.driver_lookup.specs.Properties.{Properties}
use Rattle.driver_lookup.specs.declared.state.DisambiguateState.{DisambiguateState}
use Rattle.driver_lookup.specs.declared.state.IdentifierUsage.{IdentifierUsage}
use Rattle.driver_passes.specs.Renders.{CiteRender, ItemRender}
use Rattle.driver_passes.specs.Request.{RequestedCite, Request, source_of}
use Rattle.driver_passes.specs.declared.first.FirstProperties.{FirstProperties}
use Rattle.driver_writers.specs.Tasks.{CiteTaskValue, TaskValue, cite_task}
use Rattle.driver_writers.specs.Writing.{Writing}

-- each cite of each request has its properties
abbrev pub HasShapeOf : {E P : Type 0} → List (Request E P) → List (List FirstProperties) → Type 0
HasShapeOf requests firsts = map length firsts ≡ map (λ r. length r.cites) requests

-- what a cite is rendered by first: it has no locator, and nothing disambiguates its entry
abbrev pub first_written_by : {P : Type 0} → FirstProperties → Properties P
first_written_by first = record {
  certain = first.certain;
  speculative = speculated None first.number first.ibid;
}

-- the properties of a cite that has written these identifiers
abbrev pub noted : {P : Type 0} → Properties P → IdentifierUsage → Properties P
noted properties usage =
    record properties { speculative = record properties.speculative { identifier_usage = usage } }

module _ {E P : Type 0} where
  -- what is asked for where a cite is rendered first
  abbrev pub first_task : Request E P → RequestedCite E P → FirstProperties → CiteTaskValue E P
  first_task request c first = record {
    source = source_of request;
    entry = c.entry;
    properties = first_written_by first;
    purpose = c.purpose;
    verdict = None;
    place = None;
  }

  -- for the cites of a request
  abbrev pub first_tasks_of : Request E P → List FirstProperties → List (TaskValue E P)
  first_tasks_of request firsts =
      map (λ c. cite_task (first_task request c.0 c.1)) (zip request.cites firsts)

  -- for those of all requests
  abbrev pub first_tasks : List (Request E P) → List (List FirstProperties) → List (TaskValue E P)
  first_tasks requests firsts = flat_map (λ r. first_tasks_of r.0 r.1) (zip requests firsts)

module _ {E P : Type 0} (writing : Writing E P) where
  -- a cite as it is rendered first, for its purpose; which identifiers it wrote is noted
  abbrev pub first_render : Request E P → RequestedCite E P → FirstProperties → ItemRender E P
  first_render request c first =
      let made = writing.cite (first_task request c first) in
      record {
        rendered = made.children;
        entry = c.entry;
        properties = noted (first_written_by first) made.identifier_usage;
        checked_disambiguate = made.checked_disambiguate;
        first_name = made.first_name;
        delimiter_override = None;
        group = None;
        locator = c.locator;
        hidden = c.hidden;
        locale = c.locale;
        purpose = c.purpose;
        apart = c.apart;
        verdict = None;
      }

  -- the cites of a request
  abbrev pub first_renders_of : Request E P → List FirstProperties → CiteRender E P
  first_renders_of request firsts = record {
    items = map (λ c. first_render request c.0 c.1) (zip request.cites firsts);
    request = request;
  }

  -- those of all requests
  abbrev pub first_renders : List (Request E P) → List (List FirstProperties)
      → List (CiteRender E P)
  first_renders requests firsts = map (λ r. first_renders_of r.0 r.1) (zip requests firsts)

-- no cite is disambiguated yet
abbrev pub AreBegun : {E P : Type 0} → List (CiteRender E P) → Type 0
AreBegun cites = All (λ i. i.properties.speculative.disambiguation
    ≡ DisambiguateState.None) (flat_map (λ c. c.items) cites)
