-- Requests with their cites as lists.
use Rattle.std.specs.Prelude.{List, map}
use Rattle.mentions_arranging.specs.declared.request.CiteRequest.{CiteRequest}
use Rattle.mentions_arranging.specs.declared.request.RequestFacts.{RequestFacts}

pub record Request (C : Type 0) : Type 0 where
  pub facts : RequestFacts
  pub cites : List C

module _ {C : Type 0} where
  abbrev pub request_view : CiteRequest C → Request C
  request_view r = record { facts = r.facts; cites = r.cites.items }

  abbrev pub requests_view : List (CiteRequest C) → List (Request C)
  requests_view = map request_view
