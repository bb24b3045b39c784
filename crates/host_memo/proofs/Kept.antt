-- What holds of each entry of a map holds of each after one more is put in.
use Rattle.std.proofs.Common.{◌≡◌, Bool, true, false, cond, List, [], ◌∷◌, ◌++◌, Result, Ok, Err, subst, sym}
use Rattle.std.specs.Prelude.{All, OnErr, OnOk}
use Rattle.std.specs.List.{list_any}
use Rattle.std.proofs.lemmas.List.Elements.{All-append, All-cons, All-nil}
use Rattle.ordered_map.specs.Entries.{keys_of, with_entry}

module _ {K V : Type 0} (eq : K → K → Bool) (P : K × V → Type 0) (k : K) (v : V) where
  put-by : (es : List (K × V)) (b : Bool) → P (k, v) → All P es → All P (cond b es (es ++ (k, v) ∷ []))
  put-by es true p h = h
  put-by es false p h = All-append P es ((k, v) ∷ []) h (All-cons P (k, v) [] p (All-nil P))

  -- and where one more is refused
  pub all-after : {R X : Type 0} (old new : List (K × V)) (result : Result R X) → OnOk result (new ≡ with_entry eq old k v) → OnErr result (new ≡ old)
      → P (k, v) → All P old → All P new
  all-after old new (Ok r) put kept p h = subst (All P) (sym put) (put-by old (list_any (eq k) (keys_of old)) p h)
  all-after old new (Err x) put kept p h = subst (All P) (sym kept) h
