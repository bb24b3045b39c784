use Rattle.std.proofs.Common.{take}
use Rattle.mentions_notes.specs.Noted.{AreNotesOf}
use Rattle.mentions_notes.specs.Requests.{requests_view}
use Rattle.mentions_notes.proofs.repeats.entries_of_notes.Given as goal

abbrev pub invariant-loop-request : goal.invariant-loop-request
invariant-loop-request g l = AreNotesOf l.noted (take l.request-index (requests_view l.requests))
