use Rattle.std.proofs.Common.{◌≡◌, ◌<◌, ℕ, get_or, length, nat_eq, take}
use Rattle.std.specs.List.{count_by}
use Rattle.rounds_names.proofs.classes.class_sizes.Given as goal

abbrev pub invariant-loop-class : goal.invariant-loop-class
invariant-loop-class l = record {
  long : l.sizes.len ≡ length l.classes;
  sizes : (n : ℕ) → n < length l.classes → get_or l.sizes.items n 0 ≡ count_by (nat_eq n) (take l.class-index l.classes);
}
