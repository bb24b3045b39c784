-- What a task may name: the styles and the entries of its document.
use Rattle.std.specs.Prelude.{ℕ, Bool, List, Option, Some, None, is_some, option_map, ◌&&◌, if◌then◌else◌}
use Rattle.std.specs.Borrow.{Bor}
use Rattle.std.specs.BTreeMap.{BTreeMap}
use Rattle.serde_json.specs.Data.{Data}
use Rattle.value_styles.specs.Style.{StyleValue}
use Rattle.value_styles.specs.StyleView.{style_view}
use Rattle.value_sources.specs.declared.entry.PlainEntry.{PlainEntry}
use Rattle.host_memo.specs.declared.key.TaskKey.{TaskKey}
use Rattle.document_requests.specs.Finders.{text_in}
use Rattle.document_styles.specs.declared.styles.NamedStyle.{NamedStyle}
use Rattle.document_values.specs.Words.{◌>>=◌}
use Rattle.document_tasks.specs.TaskForm.{key_form}
use Rattle.document_tasks.specs.declared.known.Known.{Known}

-- there is a style of the name that the task gives, and an entry of its key
abbrev pub is_known : (List ℕ → Option StyleValue) → (List ℕ → Option PlainEntry) → TaskKey → Bool
is_known style entry key = is_some (style key.style) && is_some (entry key.entry)

-- a task, if it is one of these
abbrev pub task_among : (TaskKey → Bool) → Data → Option TaskKey
task_among known d = do
  key ← key_form d
  if known key then Some key else None

-- the style that a map has at a name
abbrev pub known_style_in : BTreeMap (Bor (List ℕ)) (Bor NamedStyle) → List ℕ
    → Option StyleValue
known_style_in m name = option_map (λ s. style_view s.now.style) (text_in m name)

-- the entry that a map has at a key
abbrev pub known_entry_in : BTreeMap (Bor (List ℕ)) (Bor PlainEntry) → List ℕ
    → Option PlainEntry
known_entry_in m key = option_map (λ e. e.now) (text_in m key)

-- which tasks are of styles and entries that are known
abbrev pub knows : Known → TaskKey → Bool
knows known = is_known (known_style_in known.styles) (known_entry_in known.entries)
