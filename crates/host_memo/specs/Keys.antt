-- What identifies a task in a table.
use Rattle.std.specs.Prelude.{ℕ, List, [], None, option_map, if◌then◌else◌}
use Rattle.value_sources.specs.Answers.{Answers}
use Rattle.value_sources.specs.declared.taxonomy.Locator.{Locator}
use Rattle.driver_lookup.specs.Lookup.{Source, locale_in_use}
use Rattle.driver_lookup.specs.Means.{are_none}
use Rattle.driver_lookup.specs.Properties.{LocatorValue, Payload, Properties, own_payload, text_payload}
use Rattle.driver_lookup.specs.declared.means.Means.{Means}
use Rattle.driver_lookup.specs.declared.state.DisambiguateState.{DisambiguateState}
use Rattle.host_memo.specs.HostStyle.{host_style_name}
use Rattle.host_memo.specs.declared.key.Standing.{Standing}
use Rattle.host_memo.specs.declared.key.TaskKey.{TaskKey}
use Rattle.host_memo.specs.declared.key.TaskPart.{TaskPart}
use Rattle.host_memo.specs.declared.key.TaskPart.TheVariants as parts
use Rattle.driver_writers.specs.Tasks.{CiteTaskValue, DateTaskValue, ItemTaskValue, LastPlace, TaskValue, cite_task, date_task, item_task}

-- the text of a locator; a payload of the caller's own has none
abbrev pub key_text : {P : Type 0} → Payload P → List ℕ
key_text (text_payload text) = text
key_text (own_payload p) = []

abbrev pub located : {P : Type 0} → LocatorValue P → Locator × List ℕ
located l = (l.kind, key_text l.payload)

abbrev pub standing_of : {P : Type 0} → Properties P → Standing
standing_of p = record {
  note_number = p.certain.note_number;
  first_note_number = p.certain.first_note_number;
  is_near_note = p.certain.is_near_note;
  is_first = p.certain.is_first;
  ibid = p.speculative.ibid;
  citation_number = p.speculative.citation_number;
  locator = option_map located p.speculative.locator;
  disambiguation = p.speculative.disambiguation;
  means = p.speculative.means;
  identifier_usage = p.speculative.identifier_usage;
}

-- a part of the entry with this key, in a style with its locales
abbrev pub key_of_part : Source → List ℕ → LastPlace → TaskPart → TaskKey
key_of_part source entry place part = record {
  style = host_style_name source.style;
  locale = locale_in_use source;
  entry = entry;
  place = place;
  part = part;
}

module _ {E P : Type 0} (answers : E → Answers) where
  abbrev pub cite_key : CiteTaskValue E P → TaskKey
  cite_key t =
      key_of_part t.source (answers t.entry).key t.place
      (parts.Cite (standing_of t.properties) t.purpose t.verdict)

  abbrev pub item_key : ItemTaskValue E P → TaskKey
  item_key t = key_of_part t.source (answers t.entry).key None
      (parts.Item (standing_of t.properties))

abbrev pub date_key : {E : Type 0} → (E → Answers) → DateTaskValue E → TaskKey
date_key answers t = key_of_part t.source (answers t.entry).key t.place (parts.Date t.suffix)

abbrev pub task_key : {E P : Type 0} → (E → Answers) → TaskValue E P → TaskKey
task_key answers (cite_task t) = cite_key answers t
task_key answers (item_task t) = item_key answers t
task_key answers (date_task t) = date_key answers t

-- when it is asked for
abbrev pub stage_in : DisambiguateState → Means → ℕ
stage_in DisambiguateState.None means = if are_none means then 0 else 1
stage_in _ means = 1

abbrev pub stage_of : Standing → ℕ
stage_of s = stage_in s.disambiguation s.means

abbrev pub stage_at : TaskPart → LastPlace → ℕ
stage_at (parts.Cite standing purpose verdict) None = stage_of standing
stage_at _ _ = 2

abbrev pub stage : TaskKey → ℕ
stage key = stage_at key.part key.place
