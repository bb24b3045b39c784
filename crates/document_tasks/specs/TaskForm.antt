-- The form of a task.
use Rattle.std.specs.Prelude.{ℕ, List, [], ◌∷◌, ◌++◌, Option, Some, None, option_and_then, option_map, is_some, nat_eq, codes, if◌then◌else◌}
use Rattle.std.specs.Cmp.Lexicographic.{pointwise}
use Rattle.serde_json.specs.Data.{Data}
use Rattle.serde_json.specs.Find.{get, as_str}
use Rattle.value_sources.specs.declared.names.NameDisambiguationProperties.{NameDisambiguationProperties}
use Rattle.value_sources.specs.declared.taxonomy.Locator.{Locator}
use Rattle.driver_lookup.specs.declared.state.DisambiguateState.{DisambiguateState}
use Rattle.driver_lookup.specs.declared.state.IbidState.{IbidState}
use Rattle.driver_lookup.specs.declared.state.IdentifierUsage.{IdentifierUsage}
use Rattle.host_memo.specs.declared.key.Standing.{Standing}
use Rattle.host_memo.specs.declared.key.TaskKey.{TaskKey}
use Rattle.host_memo.specs.declared.key.TaskPart.{TaskPart}
use Rattle.document_values.specs.Words.{◌>>=◌, object_with, required, optional, where_present, flag, items_of_key, whole}
use Rattle.document_values.specs.Names.{one_of}
use Rattle.document_values.specs.Tables.{locators, purposes}
use Rattle.document_tasks.specs.Pairs.{pair_form}
use Rattle.document_tasks.specs.TaskNames.{kinds, written_name_forms, ibid_states, usages, verdicts}
use Rattle.document_tasks.specs.declared.task_names.TaskKind.{TaskKind}

-- the index of a request, and that of an item in it
abbrev pub place_form : Data → Option (ℕ × ℕ)
place_form = pair_form whole whole

-- what a locator counts, and its text
abbrev pub counted_locator_form : Data → Option (Locator × List ℕ)
counted_locator_form = pair_form (one_of locators) as_str

-- ---- what disambiguates an entry

abbrev pub state_named : List ℕ → Option DisambiguateState
state_named s = if pointwise nat_eq s (codes "choose") then Some DisambiguateState.Choose else None

unfoldable pub names_state : Data → Option DisambiguateState
names_state d = do
  o ← object_with (codes "names" ∷ []) d
  forms ← items_of_key (one_of written_name_forms) (codes "names") o
  Some (DisambiguateState.NameDisambiguation (record { forms = forms }))

unfoldable pub suffix_state : Data → Option DisambiguateState
suffix_state d = do
  o ← object_with (codes "suffix" ∷ []) d
  option_map DisambiguateState.YearSuffix (required whole (codes "suffix") o)

abbrev pub object_state : Data → Option DisambiguateState
object_state d = if is_some (get (codes "names") d) then names_state d else suffix_state d

unfoldable pub state_form : Data → Option DisambiguateState
state_form d = elim (as_str d) [ Some s ↦ state_named s | None ↦ object_state d ]

-- ---- what of the means is there

unfoldable pub names_form : Data → Option NameDisambiguationProperties
names_form o = do
  forms ← items_of_key (one_of written_name_forms) (codes "names") o
  Some (record { forms = forms })

abbrev pub least_names : Data → Option (Option NameDisambiguationProperties)
least_names o =
    if is_some (get (codes "names") o) then option_map (λ x. Some x) (names_form o) else Some None

-- ---- what is known of a cite

unfoldable pub standing_form : Data → Option Standing
standing_form o = do
  note ← where_present whole (codes "note") o
  first_note ← where_present whole (codes "first_note") o
  near_note ← flag (codes "near_note") o
  first ← flag (codes "first") o
  ibid ← optional IbidState.Different (one_of ibid_states) (codes "repeats") o
  number ← required whole (codes "number") o
  locator ← where_present counted_locator_form (codes "locator") o
  state ← optional DisambiguateState.None state_form (codes "state") o
  names ← least_names o
  choose ← flag (codes "choose") o
  suffix ← where_present whole (codes "suffix") o
  usage ← optional IdentifierUsage.None (one_of usages) (codes "usage") o
  Some (record {
    note_number = note;
    first_note_number = first_note;
    is_near_note = near_note;
    is_first = first;
    ibid = ibid;
    citation_number = number;
    locator = locator;
    disambiguation = state;
    means = record { names = names; choose = choose; suffix = suffix };
    identifier_usage = usage;
  })

-- ---- tasks, by their kinds

abbrev pub task_keys : List (List ℕ)
task_keys = codes "kind" ∷ codes "style" ∷ codes "locale" ∷ codes "entry" ∷ []

abbrev pub standing_keys : List (List ℕ)
standing_keys = codes "note" ∷ codes "first_note" ∷ codes "near_note" ∷ codes "first"
    ∷ codes "repeats"
    ∷ codes "number" ∷ codes "locator" ∷ codes "state" ∷ codes "names" ∷ codes "choose"
    ∷ codes "suffix" ∷ codes "usage" ∷ []

unfoldable pub cite_task_form : Data → Option TaskPart
cite_task_form d = do
  o ← object_with (task_keys ++ standing_keys ++ codes "place" ∷ codes "purpose"
      ∷ codes "verdict" ∷ []) d
  standing ← standing_form o
  purpose ← where_present (one_of purposes) (codes "purpose") o
  verdict ← where_present (one_of verdicts) (codes "verdict") o
  Some (TaskPart.Cite standing purpose verdict)

unfoldable pub item_task_form : Data → Option TaskPart
item_task_form d = do
  o ← object_with (task_keys ++ standing_keys) d
  option_map TaskPart.Item (standing_form o)

unfoldable pub date_task_form : Data → Option TaskPart
date_task_form d = do
  o ← object_with (task_keys ++ codes "place" ∷ codes "suffix" ∷ []) d
  option_map TaskPart.Date (where_present whole (codes "suffix") o)

abbrev pub kind_task_form : TaskKind → Data → Option TaskPart
kind_task_form TaskKind.Cite d = cite_task_form d
kind_task_form TaskKind.Item d = item_task_form d
kind_task_form TaskKind.Date d = date_task_form d

abbrev pub part_form : Data → Option TaskPart
part_form d = option_and_then (λ kind. kind_task_form kind d)
    (required (one_of kinds) (codes "kind") d)

-- a task
unfoldable pub key_form : Data → Option TaskKey
key_form d = do
  part ← part_form d
  style ← required as_str (codes "style") d
  locale ← required as_str (codes "locale") d
  entry ← required as_str (codes "entry") d
  place ← where_present place_form (codes "place") d
  Some (record { style = style; locale = locale; entry = entry; place = place; part = part })
