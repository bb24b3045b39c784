use Rattle.std.proofs.Common.{◌≡◌, map, take}
use Rattle.std.specs.List.{zip}
use Rattle.mentions_cites.specs.Mentions.{first_with_names, kept_last, told_mention}
use Rattle.mentions_cites.proofs.mentions.mentions_by.Given as goal

abbrev pub invariant-loop-k : goal.invariant-loop-k
invariant-loop-k l =
    l.mentions.items ≡ map (λ p. told_mention (first_with_names (kept_last l.firsts l.again)) p.0.0 p.0.1 p.1) (take l.k (zip (zip l.firsts l.again) l.texts))
