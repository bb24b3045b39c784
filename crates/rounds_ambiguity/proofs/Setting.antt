-- A class that is set for a text, in the map from texts.
use Rattle.std.proofs.Common.{◌≡◌, Some, cond, ap, sym, ◌∙◌}
use Rattle.std.specs.Prelude.{bytes_eq, string_bytes}
use Rattle.std.specs.BTreeMap.{BTreeMap, get}
use Rattle.std.specs.Cmp.Lexicographic.{texts_ties}
use Rattle.std.specs.Ordering.{is_eq}
use Rattle.std.specs.String.{string_cmp, string_eq}
use Rattle.rounds_ambiguity.specs.InRange.{HeapText}
use Rattle.rounds_ambiguity.specs.declared.classes.Class.{Class}

-- the key has the bytes of the text
pub set-text : (text key : HeapText) (class : Class) (old new : BTreeMap HeapText Class) → string_bytes key ≡ string_bytes text
    → ((q : HeapText) → get string_cmp new q ≡ cond (is_eq (string_cmp key q)) (Some class) (get string_cmp old q))
    → (q : HeapText) → get string_cmp new q ≡ cond (string_eq text q) (Some class) (get string_cmp old q)
set-text text key class old new same at q =
    at q ∙ ap (λ b. cond b (Some class) (get string_cmp old q)) (sym (texts_ties (string_bytes key) (string_bytes q)) ∙ ap (λ s. bytes_eq s (string_bytes q)) same)
