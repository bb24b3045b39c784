-- The bytes of a text, wherever they lie.
use Rattle.std.specs.Prelude.{ℕ, List, string_bytes}
use Rattle.value_lists.specs.declared.text.Held.{Held}
use Rattle.value_lists.specs.declared.text.Held.TheVariants as held

abbrev pub held_bytes : Held → List ℕ
held_bytes (held.Short _ s) = s.bytes
held_bytes (held.Long s) = string_bytes s
