-- The tables of all mentions, from what the code makes one after another.
use Rattle.std.proofs.Common.{◌≡◌, ℕ, suc, Bool, true, false, cond, ◌&&◌, Some, None, Option, List, [], ◌∷◌, ◌++◌, filter, length, map, refl, ap, sym, ◌∙◌}
use Rattle.std.specs.Prelude.{flat_map}
use Rattle.std.specs.List.{zip}
use Rattle.mentions_names.specs.Told.{told_by_names}
use Rattle.mentions_names.specs.declared.mention.NamedMention.{NamedMention}
use Rattle.value_sources.specs.declared.names.NameDisambiguationProperties.{NameDisambiguationProperties}
use Rattle.mentions_groups.specs.Groups.{group_of, is_asked}
use Rattle.mentions_groups.specs.declared.mention.Mention.{Mention}
use Rattle.mentions_groups.specs.declared.state.MentionState.{MentionState}
use Rattle.mentions_groups.specs.declared.written.Written.{Written}
use Rattle.mentions_tables.specs.Asked.{untold}
use Rattle.mentions_tables.specs.Steps.{all_changed, chosen_by, in_group, is_changed, rekept, rewritten, state_of, tasks_of}
use Rattle.mentions_tables.specs.Tables.{first_table, kept_again, kept_in, mention_in, mentions_in, named, named_in, second_table, third_table, with_choice, with_names}
use Rattle.mentions_tables.specs.declared.changed.Changed.{Changed}
use Rattle.mentions_tables.specs.declared.subject.Subject.{Subject}
use Rattle.std.proofs.Math.ListN.{length-map}
use Rattle.mentions_tables.proofs.Changing.{zip-length}

-- what is asked for
pub tasks-are : {M : Type 0} (by : Changed) (ps : List (Subject M × MentionState)) → flat_map (tasks_of by) ps ≡ map (λ p. (p.0.mention, p.1)) (filter (λ p. is_changed by p.1) ps)
tasks-are by [] = refl
tasks-are {M = M} by (p ∷ ps) = step (is_changed by p.1) (tasks-are by ps)
  where
    step : (b : Bool) → flat_map (tasks_of by) ps ≡ map (λ p. (p.0.mention, p.1)) (filter (λ p. is_changed by p.1) ps)
        → cond b ((p.0.mention, p.1) ∷ []) [] ++ flat_map (tasks_of by) ps ≡ map (λ p. (p.0.mention, p.1)) (cond b (p ∷ filter (λ p. is_changed by p.1) ps) (filter (λ p. is_changed by p.1) ps))
    step true h = ap (λ ts. (p.0.mention, p.1) ∷ ts) h
    step false h = h

module _ {M K : Type 0} (keep : M → MentionState → K) (names : Subject M → Option NameDisambiguationProperties) where
  -- kept of those that are written again with their names
  renamed-kept : (s : Subject M) (o : Option NameDisambiguationProperties) → rekept keep Changed.Names (s, state_of o) None ≡ kept_in keep s (state_of o)
  renamed-kept s None = refl
  renamed-kept s (Some n) = refl

  pub renamed-are-kept : (ss : List (Subject M))
      → all_changed (rekept keep Changed.Names) (zip ss (map (λ s. state_of (names s)) ss)) (map (λ s. None) ss) ≡ kept_again keep ss (map (λ s. state_of (names s)) ss)
  renamed-are-kept [] = refl
  renamed-are-kept (s ∷ ss) = λ i. renamed-kept s (names s) i ∷ renamed-are-kept ss i

  -- and of those that are chosen
  rechosen-kept : (s : Subject M) (b : Bool) → rekept keep Changed.Choice (s, record (state_of (names s)) { chosen = b }) (kept_in keep s (state_of (names s))) ≡ kept_in keep s (record (state_of (names s)) { chosen = b })
  rechosen-kept s true = refl
  rechosen-kept s false = refl

  pub rechosen-are-kept : (choice : Subject M → MentionState → Bool) (ss : List (Subject M))
      → let third = map (λ p. record p.1 { chosen = choice p.0 p.1 }) (zip ss (map (λ s. state_of (names s)) ss)) in
      all_changed (rekept keep Changed.Choice) (zip ss third) (kept_again keep ss (map (λ s. state_of (names s)) ss)) ≡ kept_again keep ss third
  rechosen-are-kept choice [] = refl
  rechosen-are-kept choice (s ∷ ss) = λ i. rechosen-kept s (choice s (state_of (names s))) i ∷ rechosen-are-kept choice ss i

module _ {M : Type 0} (write : M → MentionState → Written) where
  -- the mentions of the first table
  pub firsts-are : (ss : List (Subject M)) → map (λ s. mention_in write s untold) ss ≡ mentions_in write ss (first_table ss)
  firsts-are [] = refl
  firsts-are (s ∷ ss) = ap (λ ms. mention_in write s untold ∷ ms) (firsts-are ss)

  -- in their groups
  grouped-by : (group : Mention → Option ℕ) (ss : List (Subject M)) → all_changed in_group (map group (map (λ s. mention_in write s untold) ss)) (map (named_in write None) ss) ≡ map (λ s. named_in write (group (mention_in write s untold)) s) ss
  grouped-by group [] = refl
  grouped-by group (s ∷ ss) = ap (λ ns. named_in write (group (mention_in write s untold)) s ∷ ns) (grouped-by group ss)

  pub grouped-are : (ss : List (Subject M)) (mentions : List Mention) → mentions ≡ map (λ s. mention_in write s untold) ss
      → all_changed in_group (map (group_of mentions) mentions) (map (named_in write None) ss) ≡ map (named write ss) ss
  grouped-are ss mentions h =
      ap (λ ms. all_changed in_group (map (group_of ms) ms) (map (named_in write None) ss)) h
      ∙ grouped-by (group_of (map (λ s. mention_in write s untold) ss)) ss
      ∙ ap (λ ms. map (λ s. named_in write (group_of ms (mention_in write s untold)) s) ss) (firsts-are ss)

  -- their states by names
  pub states-by : {N : Type 0} (told : N → Option NameDisambiguationProperties) (name : Subject M → N) (ss : List (Subject M)) → map state_of (map told (map name ss)) ≡ map (λ s. state_of (told (name s))) ss
  states-by told name [] = refl
  states-by told name (s ∷ ss) = ap (λ ts. state_of (told (name s)) ∷ ts) (states-by told name ss)

  pub second-is : (ss : List (Subject M)) (grouped : List NamedMention) → grouped ≡ map (named write ss) ss → map state_of (map (told_by_names grouped) grouped) ≡ second_table write ss
  second-is ss grouped h =
      ap (λ ns. map state_of (map (told_by_names ns) ns)) h ∙ states-by (told_by_names (map (named write ss) ss)) (named write ss) ss

  -- written again with their names
  module _ (names : Subject M → Option NameDisambiguationProperties) where
    renamed : (s : Subject M) (o : Option NameDisambiguationProperties) → rewritten write Changed.Names (s, state_of o) (mention_in write s untold) ≡ mention_in write s (state_of o)
    renamed s None = refl
    renamed s (Some n) = refl

    pub renamed-are : (ss : List (Subject M))
        → all_changed (rewritten write Changed.Names) (zip ss (map (λ s. state_of (names s)) ss)) (map (λ s. mention_in write s untold) ss) ≡ mentions_in write ss (map (λ s. state_of (names s)) ss)
    renamed-are [] = refl
    renamed-are (s ∷ ss) = λ i. renamed s (names s) i ∷ renamed-are ss i

    -- chosen
    pub chosen-by : (tested : Subject M → Bool) (asked : Mention → Bool) (ss : List (Subject M))
        → all_changed chosen_by (zip (map tested ss) (map asked (mentions_in write ss (map (λ s. state_of (names s)) ss)))) (map (λ s. state_of (names s)) ss)
        ≡ map (λ p. record p.1 { chosen = tested p.0 && asked (mention_in write p.0 p.1) }) (zip ss (map (λ s. state_of (names s)) ss))
    chosen-by tested asked [] = refl
    chosen-by tested asked (s ∷ ss) = ap (λ l. record (state_of (names s)) { chosen = tested s && asked (mention_in write s (state_of (names s))) } ∷ l) (chosen-by tested asked ss)

    -- and written again
    rechosen : (s : Subject M) (b : Bool) → rewritten write Changed.Choice (s, record (state_of (names s)) { chosen = b }) (mention_in write s (state_of (names s))) ≡ mention_in write s (record (state_of (names s)) { chosen = b })
    rechosen s true = refl
    rechosen s false = refl

    pub rechosen-are : (choice : Subject M → MentionState → Bool) (ss : List (Subject M))
        → let third = map (λ p. record p.1 { chosen = choice p.0 p.1 }) (zip ss (map (λ s. state_of (names s)) ss)) in
        all_changed (rewritten write Changed.Choice) (zip ss third) (mentions_in write ss (map (λ s. state_of (names s)) ss)) ≡ mentions_in write ss third
    rechosen-are choice [] = refl
    rechosen-are choice (s ∷ ss) = λ i. rechosen s (choice s (state_of (names s))) i ∷ rechosen-are choice ss i

  -- the third table
  pub third-is : (ss : List (Subject M)) → let mentions = mentions_in write ss (second_table write ss) in
      all_changed chosen_by (zip (map (λ s. (write s.mention untold).tested) ss) (map (is_asked mentions) mentions)) (second_table write ss) ≡ third_table write ss
  third-is ss =
      chosen-by (λ s. told_by_names (map (named write ss) ss) (named write ss s)) (λ s. (write s.mention untold).tested) (is_asked (mentions_in write ss (second_table write ss))) ss

  pub third-mentions : (ss : List (Subject M)) → all_changed (rewritten write Changed.Choice) (zip ss (third_table write ss)) (mentions_in write ss (second_table write ss)) ≡ mentions_in write ss (third_table write ss)
  third-mentions ss =
      rechosen-are (λ s. told_by_names (map (named write ss) ss) (named write ss s)) (λ s state. (write s.mention untold).tested && is_asked (mentions_in write ss (second_table write ss)) (mention_in write s state)) ss

  module _ {K : Type 0} (keep : M → MentionState → K) where
    pub second-kept : (ss : List (Subject M)) → all_changed (rekept keep Changed.Names) (zip ss (second_table write ss)) (map (λ s. None) ss) ≡ kept_again keep ss (second_table write ss)
    second-kept ss = renamed-are-kept keep (λ s. told_by_names (map (named write ss) ss) (named write ss s)) ss

    pub third-kept : (ss : List (Subject M)) → all_changed (rekept keep Changed.Choice) (zip ss (third_table write ss)) (kept_again keep ss (second_table write ss)) ≡ kept_again keep ss (third_table write ss)
    third-kept ss =
        rechosen-are-kept keep (λ s. told_by_names (map (named write ss) ss) (named write ss s)) (λ s state. (write s.mention untold).tested && is_asked (mentions_in write ss (second_table write ss)) (mention_in write s state)) ss

    pub kept-length : (ss : List (Subject M)) (table : List MentionState) → length ss ≡ length table → length ss ≡ length (kept_again keep ss table)
    kept-length ss table h = sym (length-map (zip ss table) (λ p. kept_in keep p.0 p.1) ∙ zip-length ss table h)

  -- as long as the mentions
  pub second-length : (ss : List (Subject M)) → length ss ≡ length (second_table write ss)
  second-length ss = by (with_names write ss) ss
    where
      by : (f : Subject M → MentionState) (ss : List (Subject M)) → length ss ≡ length (map f ss)
      by f [] = refl
      by f (s ∷ ss) = ap suc (by f ss)

  pub mentions-length : (ss : List (Subject M)) (table : List MentionState) → length ss ≡ length table → length ss ≡ length (mentions_in write ss table)
  mentions-length [] table h = refl
  mentions-length (s ∷ ss) [] h = h
  mentions-length (s ∷ ss) (t ∷ table) h = ap suc (mentions-length ss table (same-less (length ss) (length table) h))
    where
      same-less : (a b : ℕ) → suc a ≡ suc b → a ≡ b
      same-less a b e = cc

  pub third-length : (ss : List (Subject M)) → length ss ≡ length (third_table write ss)
  third-length ss = sym (length-map (zip ss (second_table write ss)) (λ p. with_choice write ss p.0 p.1) ∙ zip-length ss (second_table write ss) (second-length ss))
