-- The characters left, behind what is left of the offset, tell as the whole text does.
use Rattle.std.proofs.Common.{◌≡◌, length, drop}
use Rattle.std.specs.Str.{chars}
use Rattle.layout_context.specs.Steps.{visible_from}
use Rattle.layout_context.proofs.text.is_visible_from.Given as goal

abbrev pub invariant-loop-c : goal.invariant-loop-c
invariant-loop-c l = visible_from l.left (drop (length l.yielded) (chars l.text)) ≡ visible_from l.offset (chars l.text)
