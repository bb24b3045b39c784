-- The condition and names: of the ambiguous alone.
use Rattle.std.specs.Prelude.{◌≡◌, ◌≢◌, ◌↔◌, ℕ, All, Any, Bool, true, false, List, [], None, Option, Some, map}
use Rattle.std.specs.List.{enumerate_from, zip}
use Rattle.value_sources.specs.declared.names.DisambiguatedNameForm.{DisambiguatedNameForm}
use Rattle.value_styles.specs.declared.style.DisambiguationRule.{DisambiguationRule}
use Rattle.mentions_names.specs.ByDocument.{document_form}
use Rattle.mentions_names.specs.declared.mention.NamedMention.{NamedMention}
use Rattle.mentions_groups.specs.Groups.{is_ambiguous}
use Rattle.mentions_groups.specs.declared.mention.Mention.{Mention}
use Rattle.mentions_groups.specs.declared.state.MentionState.{MentionState}
use Rattle.mentions_groups.specs.declared.written.Written.{Written}
use Rattle.mentions_tables.specs.Asked.{untold}
use Rattle.mentions_tables.specs.Tables.{first_table, mention_in, mentions_in, named}
use Rattle.mentions_tables.specs.declared.subject.Subject.{Subject}
use Rattle.mentions_table_laws.specs.SuffixLaws.{suffix_at}

-- its text isn't empty, and mentions of two entries that occur have it
pub record ReadsAsTwo (mentions : List Mention) (m : Mention) : Type 0 where
  pub has_text : m.text ≢ []
  pub one : Any (λ x. (x.occurs ≡ true) × ((x.text ≡ m.text)
      × Any (λ y. (y.occurs ≡ true) × ((y.text ≡ x.text) × (y.entry ≢ x.entry))) mentions)) mentions

-- no mention of this entry is in a group
abbrev pub IsInNoGroup : List Mention → ℕ → Type 0
IsInNoGroup mentions entry = All (λ m. m.entry ≡ entry → is_ambiguous mentions m ≡ false) mentions

-- a style adds given names in all cites of a document
abbrev pub adds_by_document : Option DisambiguationRule → Bool
adds_by_document None = false
adds_by_document (Some DisambiguationRule.ByCite) = false
adds_by_document _ = true

-- by the document each name of a mention stays short
abbrev pub StaysShort : List NamedMention → NamedMention → Type 0
StaysShort mentions m =
    All (λ p. document_form mentions m.rule p.0 p.1 ≡ DisambiguatedNameForm.Short)
    (enumerate_from 0 m.names)

module _ {M : Type 0} (write : M → MentionState → Written) (subjects : List (Subject M)) where
  -- how mentions read in a table
  abbrev pub read_in : List MentionState → List Mention
  read_in = mentions_in write subjects

  -- where the table with names and the states in the end give it these, it is chosen exactly if
  -- it tested the condition, and reads by its names as mentions of two entries that occur
  abbrev pub IsChosenRightly : List MentionState → Subject M × (MentionState × MentionState)
      → Type 0
  IsChosenRightly by_names p = (p.1.1.chosen ≡ true)
      ↔ (((write p.0.mention untold).tested ≡ true)
      × ReadsAsTwo (read_in by_names) (mention_in write p.0 p.1.0))

  -- the condition holds in these mentions and no others
  abbrev pub ConditionHolds : List MentionState → List MentionState → Type 0
  ConditionHolds by_names states =
      All (IsChosenRightly by_names) (zip subjects (zip by_names states))

  -- mentions of this entry are in these states
  abbrev pub OfEntry : ℕ → (Subject M × MentionState → Type 0) → List MentionState → Type 0
  OfEntry entry P states = All (λ p. p.0.entry ≡ entry → P p) (zip subjects states)

  -- only the ambiguous are told apart
  pub record OnlyAmbiguous (by_names states : List MentionState) (suffixes : List (Option ℕ))
      : Type 0 where
    -- an entry in no group of the first table has no names, but for given names by the document
    pub no_names : (entry : ℕ) → IsInNoGroup (read_in (first_table subjects)) entry
        → OfEntry entry
        (λ p. StaysShort (map (named write subjects) subjects) (named write subjects p.0)
        → p.1.names ≡ None) states
    -- which its style adds by some rules alone
    pub by_rule : (mentions : List NamedMention) (m : NamedMention)
        → adds_by_document m.rule ≡ false → StaysShort mentions m
    -- one in no group of the second is not chosen
    pub no_choice : (entry : ℕ) → IsInNoGroup (read_in by_names) entry
        → OfEntry entry (λ p. p.1.chosen ≡ false) states
    -- one in no group of the third has no suffix
    pub no_suffix : (entry : ℕ) → IsInNoGroup (read_in states) entry
        → suffix_at suffixes entry ≡ None
