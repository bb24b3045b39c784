-- What maps find by names and by keys: indexes.
use Rattle.std.specs.Prelude.{ℕ, List, Option, option_map, slice_get}
use Rattle.std.specs.Borrow.{Bor}
use Rattle.std.specs.BTreeMap.{BTreeMap, get_by}
use Rattle.std.specs.Cmp.Lexicographic.{slice_cmp}
use Rattle.std.specs.Ordering.{nat_cmp}

-- what a map has at a text
abbrev pub text_in : {V : Type 0} → BTreeMap (Bor (List ℕ)) V → List ℕ → Option V
text_in m text = get_by (λ k. slice_cmp nat_cmp text k.now) m

-- what the index that a map has at a text points to
abbrev pub found_by : {A : Type 0} → BTreeMap (Bor (List ℕ)) ℕ → List A → List ℕ
    → Option (Option A)
found_by m xs text = option_map (slice_get xs) (text_in m text)
