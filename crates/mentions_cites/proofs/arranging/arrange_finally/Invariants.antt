use Rattle.std.proofs.Common.{◌≡◌, map, take}
use Rattle.std.specs.List.{zip}
use Rattle.mentions_arranging.specs.Requests.{requests_view}
use Rattle.driver_passes.specs.RendersView.{renders_view}
use Rattle.mentions_tables.specs.Steps.{all_changed}
use Rattle.mentions_cites.specs.Arranging.{arranged_request}
use Rattle.mentions_cites.proofs.arranging.arrange_finally.Given as goal

abbrev pub invariant-loop-r : goal.invariant-loop-r
invariant-loop-r g l =
    renders_view l.cites
    ≡ all_changed (arranged_request l.numbers) (take l.r (zip (requests_view l.requests) (map (λ a. a.items) l.arranged))) (renders_view l.initial.cites)
