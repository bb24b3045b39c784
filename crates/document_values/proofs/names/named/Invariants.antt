-- A name is sought row by row.
use Rattle.std.proofs.Common.{◌≡◌, drop}
use Rattle.document_values.specs.Names.{value_named, rows_view}
use Rattle.document_values.proofs.names.named.Given as goal

-- the rows that are left decide
abbrev pub invariant-loop-row : goal.invariant-loop-row
invariant-loop-row g l = value_named (rows_view l.rows) l.name ≡ value_named (rows_view (drop l.row-index l.rows)) l.name
