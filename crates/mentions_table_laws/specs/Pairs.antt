-- The mentions of all entries, in the order of the bibliography.
use Rattle.std.specs.Prelude.{◌≡◌, ℕ, Bool, true, false, List, [], ◌∷◌, flat_map, map}
use Rattle.std.specs.List.{range_with_len}
use Rattle.mentions_tables.specs.declared.subject.Subject.{Subject}

-- the first mention of an entry, then the later one
abbrev pub both_mentions : ℕ → List (ℕ × Bool)
both_mentions entry = (entry, true) ∷ (entry, false) ∷ []

-- the mentions of so many entries, which are 0, 1 and so on
pub record AreMentionsInPairs {M : Type 0} (entries : ℕ) (subjects : List (Subject M)) : Type 0
  where
    pub in_pairs : map (λ s. (s.entry, s.is_first)) subjects
        ≡ flat_map both_mentions (range_with_len 0 entries)
