-- The JSON of a task.
use Rattle.std.specs.Prelude.{ℕ, List, [], ◌∷◌, Bool, true, Option, Some, None, option_map, map, codes, if◌then◌else◌}
use Rattle.serde_json.specs.Data.{Data, boolean, number, unsigned, string, array, object, no_items, item, Members, no_members, put}
use Rattle.serde_json.specs.View.{items_of}
use Rattle.value_sources.specs.declared.names.DisambiguatedNameForm.{DisambiguatedNameForm}
use Rattle.value_sources.specs.declared.names.NameDisambiguationProperties.{NameDisambiguationProperties}
use Rattle.value_sources.specs.declared.taxonomy.Locator.{Locator}
use Rattle.driver_lookup.specs.declared.means.Means.{Means}
use Rattle.driver_lookup.specs.declared.state.DisambiguateState.{DisambiguateState}
use Rattle.host_memo.specs.declared.key.Standing.{Standing}
use Rattle.host_memo.specs.declared.key.TaskKey.{TaskKey}
use Rattle.host_memo.specs.declared.key.TaskPart.{TaskPart}
use Rattle.document_tasks.specs.TaskNames.{form_name, locator_name, purpose_name, repeats_name, usage_name, verdict_name}

-- keys and what stands under them, if anything does
abbrev pub Fields : Type 0
Fields = List (List ℕ × Option Data)

-- the members, with what stands under a key
abbrev pub put_if : List ℕ → Option Data → Members → Members
put_if key None ms = ms
put_if key (Some d) ms = put key d ms

-- the members, with these fields put in, in the order of all keys
abbrev pub put_fields : Fields → Members → Members
put_fields [] ms = ms
put_fields (field ∷ fields) ms = put_fields fields (put_if field.0 field.1 ms)

-- ---- what stands under the keys

abbrev pub count_data : ℕ → Data
count_data n = number (unsigned n)

abbrev pub true_if : Bool → Option Data
true_if b = if b then Some (boolean true) else None

abbrev pub place_data : ℕ × ℕ → Data
place_data p = array (item (count_data p.0) (item (count_data p.1) no_items))

abbrev pub locator_data : Locator × List ℕ → Data
locator_data l = array (item (string (locator_name l.0)) (item (string l.1) no_items))

abbrev pub forms_data : List DisambiguatedNameForm → Data
forms_data forms = array (items_of (map (λ form. string (form_name form)) forms))

abbrev pub names_data : NameDisambiguationProperties → Data
names_data names = forms_data names.forms

abbrev pub one_member : List ℕ → Data → Data
one_member key d = object (put key d no_members)

abbrev pub state_data : DisambiguateState → Option Data
state_data DisambiguateState.None = None
state_data (DisambiguateState.NameDisambiguation names) =
    Some (one_member (codes "names") (forms_data names.forms))
state_data DisambiguateState.Choose = Some (string (codes "choose"))
state_data (DisambiguateState.YearSuffix n) = Some (one_member (codes "suffix") (count_data n))

-- ---- the fields

abbrev pub means_fields : Means → Fields
means_fields m =
    (codes "names", option_map names_data m.names)
    ∷ (codes "choose", true_if m.choose)
    ∷ (codes "suffix", option_map count_data m.suffix)
    ∷ []

abbrev pub standing_fields : Standing → Fields
standing_fields s =
    (codes "note", option_map count_data s.note_number)
    ∷ (codes "first_note", option_map count_data s.first_note_number)
    ∷ (codes "near_note", true_if s.is_near_note)
    ∷ (codes "first", true_if s.is_first)
    ∷ (codes "repeats", option_map string (repeats_name s.ibid))
    ∷ (codes "number", Some (count_data s.citation_number))
    ∷ (codes "locator", option_map locator_data s.locator)
    ∷ (codes "state", state_data s.disambiguation)
    ∷ (codes "usage", option_map string (usage_name s.identifier_usage))
    ∷ means_fields s.means

abbrev pub kind_field : List ℕ → List ℕ × Option Data
kind_field kind = (codes "kind", Some (string kind))

abbrev pub part_fields : TaskPart → Fields
part_fields (TaskPart.Cite standing purpose verdict) =
    kind_field (codes "cite")
    ∷ (codes "purpose", option_map (λ p. string (purpose_name p)) purpose)
    ∷ (codes "verdict", option_map (λ v. string (verdict_name v)) verdict)
    ∷ standing_fields standing
part_fields (TaskPart.Item standing) = kind_field (codes "item") ∷ standing_fields standing
part_fields (TaskPart.Date suffix) =
    kind_field (codes "date") ∷ (codes "suffix", option_map count_data suffix) ∷ []

abbrev pub key_fields : TaskKey → Fields
key_fields k =
    (codes "style", Some (string k.style))
    ∷ (codes "locale", Some (string k.locale))
    ∷ (codes "entry", Some (string k.entry))
    ∷ (codes "place", option_map place_data k.place)
    ∷ part_fields k.part

-- the task as an object, whose keys stand in byte order
abbrev pub task_data : TaskKey → Data
task_data k = object (put_fields (key_fields k) no_members)
