use Rattle.std.proofs.Common.{◌≡◌, ◌++◌, string_bytes, length, drop}
use Rattle.std.specs.Str.{chars}
use Rattle.layout_context.specs.Steps.{without_periods, kept_after}
use Rattle.layout_context.proofs.text.push_without_periods.Given as goal

-- what is written, and what the characters left will add, are the whole
abbrev pub invariant-loop-c : goal.invariant-loop-c
invariant-loop-c l = string_bytes l.text ++ kept_after l.after_period (drop (length l.yielded) (chars l.s)) ≡ string_bytes l.initial.text ++ without_periods l.s
