use Rattle.std.proofs.Common.{◌≡◌, take}
use Rattle.std.specs.List.{zip}
use Rattle.value_styles.specs.StyleView.{citation_view}
use Rattle.driver_passes.specs.RendersView.{items_view}
use Rattle.mentions_tables.specs.Steps.{all_changed}
use Rattle.mentions_cites.specs.Arranging.{arranged_by}
use Rattle.mentions_cites.proofs.arranging.arrange_cites.Given as goal

abbrev pub invariant-loop-k : goal.invariant-loop-k
invariant-loop-k g l =
    items_view l.items ≡ all_changed (arranged_by l.numbers (citation_view l.citation)) (take l.k (zip l.cites l.arranged)) (items_view l.initial.items)
