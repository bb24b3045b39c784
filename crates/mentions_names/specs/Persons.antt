-- The persons of mentions, and the forms in which their styles write them.
use Rattle.std.specs.Prelude.{List, [], if◌then◌else◌, map, take}
use Rattle.std.specs.List.{flat_map}
use Rattle.value_sources.specs.Forms.{Forms}
use Rattle.mentions_names.specs.Looks.{full_look}
use Rattle.mentions_names.specs.declared.look.Look.{Look}
use Rattle.mentions_names.specs.declared.mention.MentionedName.{MentionedName}
use Rattle.mentions_names.specs.declared.mention.NamedMention.{NamedMention}

-- the forms in which names are written by themselves
abbrev pub own_forms : List MentionedName → Forms
own_forms = map (λ n. n.own)

-- the persons of names, by their looks in full
abbrev pub full_looks : List MentionedName → List Look
full_looks = map (λ n. full_look n.person)

-- the names of a mention that occurs; the others ask nothing
abbrev pub names_asking : NamedMention → List MentionedName
names_asking m = if m.occurs then m.names else []

-- all persons of the mentions that occur
abbrev pub all_persons : List NamedMention → List Look
all_persons mentions = flat_map (λ m. full_looks (names_asking m)) mentions

-- and their first ones
abbrev pub first_persons : List NamedMention → List Look
first_persons mentions = flat_map (λ m. full_looks (take 1 (names_asking m))) mentions
