use Rattle.std.proofs.Common.{◌≡◌, ◌++◌, drop, length, map}
use Rattle.driver_passes.specs.Request.{cites_of}
use Rattle.driver_passes.specs.RequestView.{requests_view}
use Rattle.mentions_cited.specs.Handed.{cite_counts, parts}
use Rattle.mentions_cited.proofs.handed.by_request.Given as goal

abbrev pub invariant-loop-request : goal.invariant-loop-request
invariant-loop-request g l = record {
  long : length l.rest ≡ length (cites_of (requests_view (drop l.request-index l.requests)));
  made : map (λ n. n.items) l.parts.items ++ parts (cite_counts (requests_view (drop l.request-index l.requests))) l.rest ≡ parts (cite_counts (requests_view l.requests)) l.notes;
}
