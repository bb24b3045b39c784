-- The mentions of entries with their states, each first one before the later one.
use Rattle.std.proofs.Common.{◌≡◌, ℕ, suc, ◌+◌, Bool, true, false, List, [], ◌∷◌, flat_map, length, map, refl, ap, sym, ◌∙◌}
use Rattle.std.specs.List.{enumerate_from, range_with_len, zip}
use Rattle.csl_driver.specs.CslAccount.{every_second}
use Rattle.mentions_groups.specs.declared.state.MentionState.{MentionState}
use Rattle.mentions_groups.specs.declared.written.Written.{Written}
use Rattle.mentions_cited.specs.Homes.{HomeValue}
use Rattle.mentions_cited.specs.Mentions.{mention, mentions_at}
use Rattle.mentions_tables.specs.Tables.{third_table}
use Rattle.mentions_tables.specs.declared.subject.Subject.{Subject}
use Rattle.mentions_table_laws.specs.Pairs.{AreMentionsInPairs, both_mentions}
use Rattle.mentions_table_laws.proofs.Settled.{settled, third-table}
use Rattle.driver_writers.specs.Tasks.{CiteTaskValue}

-- two lists, member by member
abbrev pub by_turns : {X : Type 0} → List X → List X → List X
by_turns xs ys = flat_map (λ p. p.0 ∷ p.1 ∷ []) (zip xs ys)

module _ {E P : Type 0} (offset : ℕ) (again : ℕ → Bool) where
  abbrev mentions_from : ℕ → List (HomeValue E P) → List (Subject (CiteTaskValue E P))
  mentions_from n homes = flat_map (λ p. mention offset (again p.0) p.0 p.1 true ∷ mention offset (again p.0) p.0 p.1 false ∷ []) (enumerate_from n homes)

  pairs-from : (n : ℕ) (homes : List (HomeValue E P)) → map (λ s. (s.entry, s.is_first)) (mentions_from n homes) ≡ flat_map both_mentions (range_with_len n (length homes))
  pairs-from n [] = refl
  pairs-from n (h ∷ homes) = ap (λ l. (n, true) ∷ (n, false) ∷ l) (pairs-from (n + 1) homes)

  pub in-pairs : (homes : List (HomeValue E P)) → AreMentionsInPairs (length homes) (mentions_at offset again homes)
  in-pairs homes = record { in_pairs = pairs-from 0 homes }

  module _ (state : Subject (CiteTaskValue E P) → MentionState) where
    abbrev states_from : ℕ → List (HomeValue E P) → List MentionState
    states_from n homes = map state (mentions_from n homes)

    turns-from : (n : ℕ) (homes : List (HomeValue E P)) → by_turns (every_second true (states_from n homes)) (every_second false (states_from n homes)) ≡ states_from n homes
    turns-from n [] = refl
    turns-from n (h ∷ homes) = ap (λ l. state (mention offset (again n) n h true) ∷ state (mention offset (again n) n h false) ∷ l) (turns-from (n + 1) homes)

    firsts-from : (n : ℕ) (homes : List (HomeValue E P)) → length (every_second true (states_from n homes)) ≡ length homes
    firsts-from n [] = refl
    firsts-from n (h ∷ homes) = ap suc (firsts-from (n + 1) homes)

    others-from : (n : ℕ) (homes : List (HomeValue E P)) → length (every_second false (states_from n homes)) ≡ length homes
    others-from n [] = refl
    others-from n (h ∷ homes) = ap suc (others-from (n + 1) homes)

  -- the states of the mentions of entries with these homes
  module _ (write : CiteTaskValue E P → MentionState → Written) (homes : List (HomeValue E P)) where
    abbrev subjects : List (Subject (CiteTaskValue E P))
    subjects = mentions_at offset again homes

    abbrev states : List MentionState
    states = third_table write subjects

    abbrev state : Subject (CiteTaskValue E P) → MentionState
    state = settled write subjects

    -- the first ones' and the later ones', taken together again
    pub turns : by_turns (every_second true states) (every_second false states) ≡ states
    turns =
        let are : states ≡ map state subjects = third-table write subjects in
        ap (λ l. by_turns (every_second true l) (every_second false l)) are ∙ turns-from state 0 homes ∙ sym are

    -- one of each for each entry
    pub firsts-count : length (every_second true states) ≡ length homes
    firsts-count = ap (λ l. length (every_second true l)) (third-table write subjects) ∙ firsts-from state 0 homes

    pub laters-count : length (every_second false states) ≡ length homes
    laters-count = ap (λ l. length (every_second false l)) (third-table write subjects) ∙ others-from state 0 homes
