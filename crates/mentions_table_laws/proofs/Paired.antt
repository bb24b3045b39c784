-- Of mentions in pairs the later ones are one of each entry.
use Rattle.std.proofs.Common.{◌≡◌, ℕ, ◌*◌, ◌+◌, zero, suc, Bool, true, false, cond, not, List, [], ◌∷◌, filter, flat_map, length, map, refl, ap, sym, ◌∙◌, arith}
use Rattle.std.specs.List.{range_with_len}
use Rattle.std.proofs.lemmas.List.{length-map}
use Rattle.mentions_groups.specs.Suffixes.{laters}
use Rattle.mentions_groups.specs.declared.mention.Mention.{Mention}
use Rattle.mentions_groups.specs.declared.state.MentionState.{MentionState}
use Rattle.mentions_groups.specs.declared.written.Written.{Written}
use Rattle.mentions_tables.specs.Tables.{mention_in, mentions_in}
use Rattle.mentions_tables.specs.declared.subject.Subject.{Subject}
use Rattle.mentions_table_laws.specs.Pairs.{AreMentionsInPairs, both_mentions}
use Rattle.mentions_table_laws.proofs.Settled.{read-by}

later-entries : (n a : ℕ) → map (λ p. p.0) (filter (λ p. not p.1) (flat_map both_mentions (range_with_len a n))) ≡ range_with_len a n
later-entries zero a = refl
later-entries (suc n) a = ap (λ l. a ∷ l) (later-entries n (a + 1))

two-each : (n a : ℕ) → length (flat_map both_mentions (range_with_len a n)) ≡ 2 * n
two-each zero a = refl
two-each (suc n) a = let rest = two-each n (a + 1) in omega (arith, rest)

-- mentions by their entries, and the entries of the later ones
abbrev listed : {M : Type 0} → List (Subject M) → List (ℕ × Bool)
listed ss = map (λ s. (s.entry, s.is_first)) ss

abbrev are_later : List (ℕ × Bool) → List (ℕ × Bool)
are_later ps = filter (λ p. not p.1) ps

abbrev entries_of : List (ℕ × Bool) → List ℕ
entries_of ps = map (λ p. p.0) ps

module _ {M : Type 0} (write : M → MentionState → Written) where
  abbrev later_read : (Subject M → MentionState) → List (Subject M) → List Mention
  later_read state ss = filter (λ m. not m.is_first) (map (λ s. mention_in write s (state s)) ss)

  of-pairs : (state : Subject M → MentionState) (ss : List (Subject M)) → map (λ m. m.entry) (later_read state ss) ≡ entries_of (are_later (listed ss))
  of-pairs state [] = refl
  of-pairs state (s ∷ ss) = by s.is_first (of-pairs state ss)
    where
      by : (b : Bool) → map (λ m. m.entry) (later_read state ss) ≡ entries_of (are_later (listed ss))
          → map (λ m. m.entry) (cond (not b) (mention_in write s (state s) ∷ later_read state ss) (later_read state ss))
          ≡ entries_of (cond (not b) ((s.entry, s.is_first) ∷ are_later (listed ss)) (are_later (listed ss)))
      by true rest = rest
      by false rest = ap (λ l. s.entry ∷ l) rest

  pub entries-in-order : (state : Subject M → MentionState) (entries : ℕ) (subjects : List (Subject M)) → AreMentionsInPairs entries subjects
      → map (λ m. m.entry) (laters (mentions_in write subjects (map state subjects))) ≡ range_with_len 0 entries
  entries-in-order state entries subjects h =
      ap (λ (ms : List Mention). map (λ m. m.entry) (laters ms)) (read-by write subjects state)
      ∙ of-pairs state subjects
      ∙ ap (λ (ps : List (ℕ × Bool)). entries_of (are_later ps)) h.in_pairs
      ∙ later-entries entries 0

pub twice-as-many : {M : Type 0} (entries : ℕ) (subjects : List (Subject M)) → AreMentionsInPairs entries subjects → length subjects ≡ 2 * entries
twice-as-many entries subjects h = sym (length-map subjects (λ s. (s.entry, s.is_first))) ∙ ap length h.in_pairs ∙ two-each entries 0
