-- The styles so far, one after another.
use Rattle.std.proofs.Common.{◌≡◌, take}
use Rattle.document_requests.specs.FoundView.{found_views, unnamed}
use Rattle.document_requests.proofs.finders.found_styles.Given as goal

abbrev pub invariant-loop-index : goal.invariant-loop-index
invariant-loop-index l = found_views l.found.items ≡ unnamed (take l.index l.styles)
