-- For the code: what is known of the persons of a document.
use Rattle.std.specs.Prelude.{List, take}
use Rattle.std.specs.BTreeMap.{BTreeMap}
use Rattle.std.specs.List.{flat_map}
use Rattle.value_sources.specs.declared.names.DisambiguatedNameForm.{DisambiguatedNameForm}
use Rattle.mentions_names.specs.Looks.{full_look, has_given}
use Rattle.mentions_names.specs.Persons.{names_asking}
use Rattle.mentions_names.specs.Rivals.{AreRivals, Shown, by_family, by_initials, form_by, held_for, is_other_held, named_keys}
use Rattle.mentions_names.specs.declared.document.Document.{Document}
use Rattle.mentions_names.specs.declared.look.Look.{Look}
use Rattle.mentions_names.specs.declared.mention.MentionedName.{MentionedName}
use Rattle.mentions_names.specs.declared.mention.NamedMention.{NamedMention}
use Rattle.mentions_names.specs.declared.rivals.Held.{Held}
use Rattle.mentions_names.specs.declared.rivals.Node.{Node}
use Rattle.mentions_names.specs.declared.rivals.SharedName.{SharedName}

-- persons of a document are gathered at one node
abbrev pub everywhere : Node
everywhere = Node.Start 0

-- the form that a look in full needs among the rivals at a node
abbrev pub rival_form : BTreeMap SharedName Held → Node → Look → DisambiguatedNameForm
rival_form rivals node r = form_by (has_given r)
    (is_other_held r (held_for rivals (by_family node r)))
    (is_other_held r (held_for rivals (by_initials node r)))

-- a person of a document, by the names
abbrev pub person_keys : MentionedName → Shown
person_keys n = named_keys everywhere (full_look n.person)

-- the persons of those of these mentions that occur
pub record KnowsDocument (document : Document) (mentions : List NamedMention) : Type 0 where
  pub all : AreRivals document.all (flat_map (λ m. flat_map person_keys (names_asking m)) mentions)
  pub first : AreRivals document.first
      (flat_map (λ m. flat_map person_keys (take 1 (names_asking m))) mentions)
