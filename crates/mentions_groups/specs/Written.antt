-- What is read of a mention that was written.
use Rattle.std.specs.Prelude.{Bool, List, [], ◌∷◌, None, Option, Some, map}
use Rattle.std.specs.List.{zip}
use Rattle.value_sources.specs.declared.entry.Person.{Person}
use Rattle.value_sources.specs.declared.names.DisambiguatedNameForm.{DisambiguatedNameForm}
use Rattle.value_sources.specs.declared.names.NameDisambiguationProperties.{NameDisambiguationProperties}
use Rattle.value_trees.specs.Child.{Child}
use Rattle.value_trees.specs.Tree.{find_elem, has_names, plain}
use Rattle.value_trees.specs.declared.elem.Elem.{Elem}
use Rattle.value_trees.specs.declared.elem.ElemMeta.{ElemMeta}
use Rattle.mentions_names.specs.declared.mention.MentionedName.{MentionedName}
use Rattle.mentions_groups.specs.declared.written.Written.{Written}

-- the persons of the first variable of names
abbrev pub named_by : Option ElemMeta → List Person
named_by (Some (ElemMeta.Names (v ∷ vs))) = v.0
named_by _ = []

abbrev pub persons_of : Option Elem → List Person
persons_of None = []
persons_of (Some e) = named_by e.meta

-- those of the first names of a tree
abbrev pub first_persons : List Child → List Person
first_persons tree = persons_of (find_elem has_names tree)

-- a person, written in a form
abbrev pub named_as : Person × DisambiguatedNameForm → MentionedName
named_as p = record { person = p.0; own = p.1 }

-- its names that may be made fuller: persons with the forms in which they were written, as many
-- as have both
abbrev pub names_of : List Person → Option NameDisambiguationProperties → List MentionedName
names_of persons None = []
names_of persons (Some own) = map named_as (zip persons own.forms)

abbrev pub written_of : List Child → Option NameDisambiguationProperties → Bool → Written
written_of tree first_name tested = record {
  text = plain tree;
  names = names_of (first_persons tree) first_name;
  tested = tested;
}
