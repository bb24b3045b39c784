-- The form of what a host has written.
use Rattle.std.specs.Prelude.{ℕ, Bool, false, List, [], ◌∷◌, Option, Some, None, option_and_then, option_map, codes, if◌then◌else◌}
use Rattle.std.specs.List.{list_all}
use Rattle.std.specs.Option.{option_map_or}
use Rattle.serde_json.specs.Data.{Data}
use Rattle.value_trees.specs.SameTree.{same_trees}
use Rattle.value_sources.specs.declared.entry.PlainEntry.{PlainEntry}
use Rattle.value_sources.specs.declared.names.NameDisambiguationProperties.{NameDisambiguationProperties}
use Rattle.driver_lookup.specs.declared.state.IdentifierUsage.{IdentifierUsage}
use Rattle.host_memo.specs.Written.{key_eq}
use Rattle.host_memo.specs.declared.key.TaskKey.{TaskKey}
use Rattle.driver_writers.specs.declared.cite.Cite.{Cite}
use Rattle.document_requests.specs.Entries.{entry_named}
use Rattle.document_styles.specs.Styles.{NamedStyle, style_named}
use Rattle.document_values.specs.Words.{◌>>=◌, first_of, object_with, required, optional, where_present, flag, list_form}
use Rattle.document_values.specs.Names.{one_of}
use Rattle.document_tasks.specs.Known.{is_known, task_among}
use Rattle.document_tasks.specs.TaskNames.{written_name_forms, usages}
use Rattle.document_tasks.specs.TreeForm.{tree_form}

-- the form of each name
abbrev pub first_name_form : Data → Option NameDisambiguationProperties
first_name_form d = option_map (λ forms. record { forms = forms })
    (list_form (one_of written_name_forms) d)

abbrev pub written_keys : List (List ℕ)
written_keys = codes "task" ∷ codes "tree" ∷ codes "disambiguate_tested" ∷ codes "first_name"
    ∷ codes "usage"
    ∷ []

-- what was written, of an object that says it
unfoldable pub written_cite : Data → Option Cite
written_cite o = do
  children ← required tree_form (codes "tree") o
  tested ← flag (codes "disambiguate_tested") o
  first_name ← where_present first_name_form (codes "first_name") o
  usage ← optional IdentifierUsage.None (one_of usages) (codes "usage") o
  Some (record {
    children = children;
    checked_disambiguate = tested;
    first_name = first_name;
    identifier_usage = usage;
  })

-- a task, one of these, and what was written for it
unfoldable pub written_form : (TaskKey → Bool) → Data → Option (TaskKey × Cite)
written_form known d = do
  o ← object_with written_keys d
  key ← required (task_among known) (codes "task") o
  cite ← written_cite o
  Some (key, cite)

-- ---- all that was written

abbrev pub Written : Type 0
Written = List (TaskKey × Cite)

-- what was written first for a task
abbrev pub first_written : Written → TaskKey → Option Cite
first_written [] key = None
first_written (w ∷ ws) key = if key_eq key w.0 then Some w.1 else first_written ws key

-- the tree that was found is that of the cite; where none was found, otherwise
abbrev pub has_tree : Option Cite → Cite → Bool → Bool
has_tree found cite otherwise =
    option_map_or (λ first. same_trees first.children cite.children) found otherwise

-- what is written for a task always has the tree that was written first for it
abbrev pub has_one_tree_each : Written → Bool
has_one_tree_each ws = list_all (λ w. has_tree (first_written ws w.0) w.1 false) ws

-- what was written first, by task, unless a task has two trees
abbrev pub table_of_written : Written → Option (TaskKey → Option Cite)
table_of_written ws = if has_one_tree_each ws then Some (first_written ws) else None

-- the same of what a document with these styles and entries says
abbrev pub table_form : List NamedStyle → List PlainEntry → Data → Option (TaskKey → Option Cite)
table_form styles entries d =
    option_and_then table_of_written
    (list_form (written_form (is_known (style_named styles) (entry_named entries))) d)

-- one more, where nothing is there for its task
abbrev pub with_first_tree : TaskKey × Cite → (TaskKey → Option Cite) → TaskKey → Option Cite
with_first_tree w table key = first_of (table key) (if key_eq key w.0 then Some w.1 else None)
