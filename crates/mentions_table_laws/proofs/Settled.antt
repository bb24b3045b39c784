-- The tables of all mentions, mention by mention.
use Rattle.std.proofs.Common.{◌≡◌, List, map, ap, ◌∙◌}
use Rattle.mentions_groups.specs.declared.state.MentionState.{MentionState}
use Rattle.mentions_groups.specs.declared.written.Written.{Written}
use Rattle.mentions_tables.specs.Tables.{mention_in, mentions_in, third_table, with_choice, with_names}
use Rattle.mentions_tables.specs.declared.subject.Subject.{Subject}
use Rattle.std.proofs.lemmas.Simd.{map-map}
use Rattle.list_lemmas.proofs.Members.{zip-map}

module _ {M : Type 0} (write : M → MentionState → Written) (subjects : List (Subject M)) where
  -- its state in the end
  abbrev pub settled : Subject M → MentionState
  settled s = with_choice write subjects s (with_names write subjects s)

  pub third-table : third_table write subjects ≡ map settled subjects
  third-table =
      ap (map (λ p. with_choice write subjects p.0 p.1)) (zip-map (with_names write subjects) subjects)
      ∙ map-map (λ p. with_choice write subjects p.0 p.1) (λ s. (s, with_names write subjects s)) subjects

  pub read-by : (state : Subject M → MentionState) → mentions_in write subjects (map state subjects) ≡ map (λ s. mention_in write s (state s)) subjects
  read-by state = ap (map (λ p. mention_in write p.0 p.1)) (zip-map state subjects) ∙ map-map (λ p. mention_in write p.0 p.1) (λ s. (s, state s)) subjects
