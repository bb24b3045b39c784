use Rattle.std.proofs.Common.{◌≡◌, map, take}
use Rattle.mentions_arranging.specs.Requests.{requests_view}
use Rattle.mentions_arranging.proofs.Walking.{seen_final}
use Rattle.mentions_arranging.proofs.order.final_requests.Given as goal

abbrev pub invariant-loop-request : goal.invariant-loop-request
invariant-loop-request g l = requests_view l.found.items ≡ map seen_final (take l.request-index l.requests)
