-- What is joined, and what is left to join, is the whole.
use Rattle.std.proofs.Common.{◌≡◌, ◌++◌, drop, string_bytes}
use Rattle.layout_context.specs.Wording.{joined_values}
use Rattle.layout_context.proofs.wording.joined_values.Given as goal

abbrev pub invariant-loop-chunk : goal.invariant-loop-chunk
invariant-loop-chunk l = string_bytes l.joined ++ joined_values (drop l.chunk-index l.chunk-items) ≡ joined_values l.chunk-items
