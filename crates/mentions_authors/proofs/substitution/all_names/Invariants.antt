-- The names so far, and those of the items from the next one on.
use Rattle.std.proofs.Common.{◌≡◌, ◌++◌, drop, map}
use Rattle.mentions_authors.specs.Names.{names_of}
use Rattle.mentions_authors.specs.Substitution.{items_view}
use Rattle.mentions_authors.proofs.substitution.all_names.Given as goal

abbrev pub invariant-loop-item : goal.invariant-loop-item
invariant-loop-item l =
    l.names.items ++ map (λ i. names_of i.0) (items_view (drop l.item-index l.items)) ≡ map (λ i. names_of i.0) (items_view l.items)
