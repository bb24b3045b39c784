-- The text is that of the first fault.
use Rattle.std.proofs.Common.{inr}
use Rattle.document_driven.proofs.faults.print_driven_fault_bytes.Goals as goal

pub returns-in_ok-print_fault-in-Some : goal.returns-in_ok-print_fault-in-Some
returns-in_ok-print_fault-in-Some c =
    let h = rw c.in-Some.is at c.in_ok-first_fault.ensures in
    inr (h.0, (c.in-Some.fault, h.1, c.in_ok-print_fault-in-Some.ensures))
