-- What tells mentions apart by their names.
use Rattle.std.specs.Prelude.{ℕ, List, Option, filter, map, option_map, slice_get, unwrap_or}
use Rattle.value_sources.specs.declared.names.DisambiguatedNameForm.{DisambiguatedNameForm}
use Rattle.value_sources.specs.declared.names.NameDisambiguationProperties.{NameDisambiguationProperties}
use Rattle.mentions_names.specs.ByDocument.{document_form}
use Rattle.mentions_names.specs.Forms.{greater, raised}
use Rattle.mentions_names.specs.Persons.{own_forms}
use Rattle.mentions_names.specs.Reaches.{reach}
use Rattle.mentions_names.specs.Telling.{form_needed, names_needed}
use Rattle.mentions_names.specs.declared.mention.NamedMention.{NamedMention}
use Rattle.mentions_names.specs.declared.reach.Reach.{Reach}

-- what is asked of mentions: by those that occur alone
abbrev pub asking : List NamedMention → List Reach
asking mentions = filter (λ b. b.occurs) (map (reach mentions) mentions)

module _ (mentions : List NamedMention) (m : NamedMention) where
  -- the least form of its name i: that by the document, and what tells it from others of its group
  abbrev pub least_form : ℕ → DisambiguatedNameForm
  least_form i = greater
      (unwrap_or (option_map (document_form mentions m.rule i) (slice_get m.names i))
      DisambiguatedNameForm.Short)
      (form_needed (asking mentions) (reach mentions m) i)

  -- the forms of its names, if they aren't its style's own
  abbrev pub told_by_names : Option NameDisambiguationProperties
  told_by_names = raised (own_forms m.names)
      (names_needed (asking mentions) (reach mentions m)) least_form
