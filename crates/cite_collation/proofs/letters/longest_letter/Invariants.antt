use Rattle.std.proofs.Common.{◌≡◌, ◌<◌, ◌≤◌, IfSome, All, Contains, take}
use Rattle.cite_collation.specs.Letters.{taken, taken_by}
use Rattle.cite_collation.proofs.letters.longest_letter.Given as goal

abbrev pub invariant-loop-letter : goal.invariant-loop-letter
invariant-loop-letter l = record {
  most : l.most ≡ taken_by l.text l.longest;
  found : IfSome l.longest (λ letter. 0 < taken l.text letter);
  among : IfSome l.longest (λ letter. Contains l.letters letter);
  longest : All (λ other. taken l.text other ≤ l.most) (take l.letter-index l.letters);
}
