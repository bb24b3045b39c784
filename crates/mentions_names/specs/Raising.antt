-- For the code: the forms of a mention, from what it needs.
use Rattle.std.specs.Prelude.{ℕ, List, None, Option, Some, if◌then◌else◌, map, slice_get, unwrap_or}
use Rattle.std.specs.List.{enumerate_from}
use Rattle.value_sources.specs.Forms.{Forms}
use Rattle.value_sources.specs.declared.names.DisambiguatedNameForm.{DisambiguatedNameForm}
use Rattle.value_sources.specs.declared.names.NameDisambiguationProperties.{NameDisambiguationProperties}
use Rattle.mentions_names.specs.ByDocument.{document_form}
use Rattle.mentions_names.specs.Forms.{base, greater, raised_form, same_forms}
use Rattle.mentions_names.specs.Persons.{own_forms}
use Rattle.mentions_names.specs.declared.gathered.Needs.{Needs}
use Rattle.mentions_names.specs.declared.mention.NamedMention.{NamedMention}

abbrev pub form_needed_by : Needs → ℕ → DisambiguatedNameForm
form_needed_by needs i = unwrap_or (slice_get needs.forms i) DisambiguatedNameForm.Short

module _ (mentions : List NamedMention) (needs : Needs) (m : NamedMention) where
  abbrev pub raised_names : Forms
  raised_names = map (λ p. raised_form (base (own_forms m.names)) needs.count p.0
      (greater (document_form mentions m.rule p.0 p.1) (form_needed_by needs p.0)) p.1.own)
      (enumerate_from 0 m.names)

  abbrev pub raised_by : Option NameDisambiguationProperties
  raised_by = if same_forms raised_names (own_forms m.names) then None
      else Some (record { forms = raised_names })
