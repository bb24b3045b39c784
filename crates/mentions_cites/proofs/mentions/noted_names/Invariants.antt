use Rattle.std.proofs.Common.{◌≡◌, take}
use Rattle.mentions_groups.specs.declared.shown.ShownNames.{ShownNames}
use Rattle.mentions_cites.specs.Mentions.{first_with_names, kept_last}
use Rattle.mentions_cites.specs.NotedNames.{first_noted}
use Rattle.mentions_cites.proofs.mentions.noted_names.Given as goal

abbrev pub invariant-loop-k : goal.invariant-loop-k
invariant-loop-k l = (n : ShownNames) → first_noted l.noted n ≡ first_with_names (take l.k (kept_last l.firsts l.again)) n
