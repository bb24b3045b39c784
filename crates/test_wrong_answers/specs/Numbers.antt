-- Three entries, of which the first and the last are by one author, so that grouping brings them
-- together; and their numbers.
use Rattle.std.specs.Prelude.{ℕ, List, [], ◌∷◌}
use Rattle.test_wrong_answers.specs.Samples.{entry}
use Rattle.test_wrong_answers.specs.declared.sample.Sample.{Sample}

-- the entries in the order of their first cites
abbrev pub entries : List Sample
entries = entry 0 ∷ entry 1 ∷ entry 2 ∷ []

-- and in that of their first cites after grouping
abbrev pub after_grouping : List Sample
after_grouping = entry 0 ∷ entry 2 ∷ entry 1 ∷ []

-- their numbers
abbrev pub right_numbers : List ℕ
right_numbers = 0 ∷ 2 ∷ 1 ∷ []

-- their numbers where the cites are counted, of which the first entry has two
abbrev pub numbers_of_cites : List ℕ
numbers_of_cites = 0 ∷ 2 ∷ 3 ∷ []

-- their numbers before grouping
abbrev pub numbers_before : List ℕ
numbers_before = 0 ∷ 1 ∷ 2 ∷ []
