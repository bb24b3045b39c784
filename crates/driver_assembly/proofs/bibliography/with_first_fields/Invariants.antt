use Rattle.std.proofs.Common.{◌≡◌, map}
use Rattle.rounds_substitution.specs.ItemView.{rendered_items_view}
use Rattle.driver_assembly.specs.BibliographyItems.{with_first_field}
use Rattle.driver_assembly.proofs.bibliography.with_first_fields.Given as goal

abbrev pub invariant-loop-content : goal.invariant-loop-content
invariant-loop-content l = l.finished.items ≡ map (with_first_field l.aligned) (rendered_items_view l.yielded)
