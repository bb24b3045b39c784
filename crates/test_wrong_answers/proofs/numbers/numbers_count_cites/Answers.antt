use Rattle.std.proofs.Common.{[], ◌∷◌, refl, arith}
use Rattle.std.proofs.lemmas.List.Sorted.{IsPermutation-swap, sum_by-IsPermutation}
use Rattle.std.specs.List.{range_with_len}
use Rattle.test_wrong_answers.proofs.Differ.{above}
use Rattle.test_wrong_answers.specs.Numbers.{numbers_of_cites, right_numbers}
use Rattle.test_wrong_answers.proofs.numbers.numbers_count_cites.Goals as goal

pub returns-clause-refuted : goal.returns-clause-refuted
returns-clause-refuted c = λ h. above 5 3 (omega arith) (sum_by-IsPermutation (λ n. n) (range_with_len 0 3) numbers_of_cites h.each_once)

pub returns-clause-right : goal.returns-clause-right
returns-clause-right c = record {
  apart = (refl, (refl, (refl, tt)));
  each_once = IsPermutation-swap (0 ∷ 1 ∷ 2 ∷ []) right_numbers 1 2 (omega arith) (omega arith) refl;
}
