-- Citations are printed one after another.
use Rattle.std.proofs.Common.{◌≡◌, ◌++◌, take, string_bytes}
use Rattle.std.specs.List.{flat_map}
use Rattle.document_answer.specs.Print.{citation_line}
use Rattle.document_answer.proofs.printing.print_citations.Given as goal

abbrev pub invariant-loop-citation : goal.invariant-loop-citation
invariant-loop-citation l = string_bytes l.text ≡ string_bytes l.fn.text ++ flat_map citation_line (take l.citation-index l.citations)
