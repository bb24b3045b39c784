use Rattle.std.proofs.Common.{◌≡◌, take}
use Rattle.std.specs.List.{fold}
use Rattle.rounds_names.specs.NameMarks.{after_step}
use Rattle.rounds_names.proofs.marks.forms_after.Given as goal

abbrev pub invariant-loop-i : goal.invariant-loop-i
invariant-loop-i l = l.forms ≡ record { forms = fold (after_step l.group l.member l.own) l.start.forms (take l.i-index l.steps) }
