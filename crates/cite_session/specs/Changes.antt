-- What changed between two lists of texts by keys. A key and a text are lists of bytes.
use Rattle.std.specs.Prelude.{ℕ, Bool, false, List, Option, Some, None, not, is_some, filter, bytes_eq}
use Rattle.std.specs.Map.{keys_of}
use Rattle.ordered_map.specs.Entries.{value_at}

-- whether there is a text, and it is this one
abbrev pub is_text : Option (List ℕ) → List ℕ → Bool
is_text None text = false
is_text (Some known) text = bytes_eq known text

-- whether an equal text stands under the key
abbrev pub has_text : List (List ℕ × List ℕ) → List ℕ × List ℕ → Bool
has_text texts entry = is_text (value_at bytes_eq texts entry.0) entry.1

-- the new texts that the old ones don't have under their keys
abbrev pub changed_texts : List (List ℕ × List ℕ) → List (List ℕ × List ℕ) → List (List ℕ × List ℕ)
changed_texts old new = filter (λ entry. not (has_text old entry)) new

-- the old keys that the new ones lack
abbrev pub gone_keys : List (List ℕ × List ℕ) → List (List ℕ × List ℕ) → List (List ℕ)
gone_keys old new = filter (λ key. not (is_some (value_at bytes_eq new key))) (keys_of old)
