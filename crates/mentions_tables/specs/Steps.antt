-- For the code: lists changed from their beginnings on, and what is known on the way.
use Rattle.std.specs.Prelude.{◌≡◌, ℕ, Bool, false, List, [], ◌∷◌, ◌&&◌, Option, Some, None, if◌then◌else◌, is_some, map}
use Rattle.value_sources.specs.declared.names.NameDisambiguationProperties.{NameDisambiguationProperties}
use Rattle.mentions_names.specs.declared.mention.NamedMention.{NamedMention}
use Rattle.mentions_groups.specs.declared.mention.Mention.{Mention}
use Rattle.mentions_groups.specs.declared.state.MentionState.{MentionState}
use Rattle.mentions_groups.specs.declared.written.Written.{Written}
use Rattle.mentions_tables.specs.Asked.{MentionsWriter, keeping, reading, untold}
use Rattle.mentions_tables.specs.Tables.{kept_at_first, mention_in, named_in}
use Rattle.mentions_tables.specs.declared.changed.Changed.{Changed}
use Rattle.mentions_tables.specs.declared.firsts.Firsts.{Firsts}
use Rattle.mentions_tables.specs.declared.subject.Subject.{Subject}

-- each member changed by another list's, as far as that goes
abbrev pub all_changed : {C X : Type 0} → (C → X → X) → List C → List X → List X
all_changed f (c ∷ cs) (x ∷ xs) = f c x ∷ all_changed f cs xs
all_changed f _ xs = xs

-- a mention put into its group
abbrev pub in_group : Option ℕ → NamedMention → NamedMention
in_group group m = record m { group = group }

-- the state of a mention that tested the condition or didn't, and is asked to differ or isn't
abbrev pub chosen_by : Bool × Bool → MentionState → MentionState
chosen_by p s = record s { chosen = p.0 && p.1 }

-- names as a state
abbrev pub state_of : Option NameDisambiguationProperties → MentionState
state_of names = record { names = names; chosen = false }

-- a state that is changed by names, or by the choice
abbrev pub is_changed : Changed → MentionState → Bool
is_changed Changed.Names s = is_some s.names
is_changed Changed.Choice s = s.chosen

module _ {M : Type 0} (by : Changed) where
  -- what is asked for a mention in a state
  abbrev pub tasks_of : Subject M × MentionState → List (M × MentionState)
  tasks_of p = if is_changed by p.1 then (p.0.mention, p.1) ∷ [] else []

module _ {M K : Type 0} (keep : M → MentionState → K) where
  -- what is kept of a mention, if it is written again
  abbrev pub rekept : Changed → Subject M × MentionState → Option K → Option K
  rekept by p kept = if is_changed by p.1 then Some (keep p.0.mention p.1) else kept

module _ {M : Type 0} (write : M → MentionState → Written) where
  -- a mention written again, if its state is changed
  abbrev pub rewritten : Changed → Subject M × MentionState → Mention → Mention
  rewritten by p m =
      if is_changed by p.1 then record m { text = (write p.0.mention p.1).text } else m

-- what was read and kept of these
pub record AreFirsts {M K N : Type 0} (w : MentionsWriter M K N) (subjects : List (Subject M))
    (f : Firsts K) : Type 0 where
  pub mentions : f.mentions.items ≡ map (λ s. mention_in (reading w) s untold) subjects
  pub named : f.named.items ≡ map (named_in (reading w) None) subjects
  pub tested : f.tested.items ≡ map (λ s. (reading w s.mention untold).tested) subjects
  pub kept : f.kept.items ≡ kept_at_first (keeping w) subjects
  pub again : f.again.items ≡ map (λ s. None) subjects
