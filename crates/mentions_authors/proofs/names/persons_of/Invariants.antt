-- The persons so far, and those of the variables from the next one on.
use Rattle.std.proofs.Common.{◌≡◌, ◌++◌, drop}
use Rattle.mentions_authors.specs.Names.{persons_of}
use Rattle.mentions_authors.proofs.names.persons_of.Given as goal

abbrev pub invariant-loop-variable : goal.invariant-loop-variable
invariant-loop-variable l = l.persons.items ++ persons_of (drop l.variable-index l.variables) ≡ persons_of l.variables
