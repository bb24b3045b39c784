-- The members that a table names are read row by row.
use Rattle.std.proofs.Common.{◌≡◌, ℕ, zero, suc, ◌+◌, ◌<◌, ◌≤◌, length, drop, get_or, List, [], ◌∷◌, ◌++◌, Option, Some, None, refl, ap, ◌∙◌, sym, subst, arith, append_assoc, append-nil, add-one}
use Rattle.std.specs.Prelude.{option_map, option_and_then}
use Rattle.std.specs.Borrow.{Bor}
use Rattle.serde_json.specs.Data.{Data}
use Rattle.document_values.specs.Words.{where_present}
use Rattle.document_values.specs.Names.{rows_view}
use Rattle.document_requests.specs.Entries.{pairs_of, pairs_at}

get_or_same : {X : Type 0} (xs : List X) (k : ℕ) (d e : X) → k < length xs → get_or xs k d ≡ get_or xs k e
get_or_same [] k d e h = absurd (omega arith)
get_or_same (x ∷ xs) zero d e h = refl
get_or_same (x ∷ xs) (suc k) d e h = get_or_same xs k d e (omega arith)

module _ {V A : Type 0} (f : Data → Option A) (o : Data) where
  -- the first k rows gave xs; what the rest gives completes what all give
  abbrev pub RowsProgress : List (Bor (List ℕ) × V) → ℕ → List (V × A) → Type 0
  RowsProgress rows k xs = option_map (λ rest. xs ++ rest) (pairs_at (rows_view (drop k rows)) f o) ≡ pairs_at (rows_view rows) f o

  pub RowsProgress-start : (rows : List (Bor (List ℕ) × V)) → RowsProgress rows 0 []
  RowsProgress-start rows = by (pairs_at (rows_view rows) f o)
    where
      by : (r : Option (List (V × A))) → option_map (λ rest. [] ++ rest) r ≡ r
      by None = refl
      by (Some xs) = refl

  -- what one row gives, before what others give
  abbrev row_before : V → Option (List (V × A)) → Option (Option A) → Option (List (V × A))
  row_before v others held = option_and_then (λ x. option_and_then (λ xs. Some (pairs_of v x ++ xs)) others) held

  ahead : (rows : List (Bor (List ℕ) × V)) (k : ℕ) (row : Bor (List ℕ) × V) → k < length rows → row ≡ get_or rows k row
      → pairs_at (rows_view (drop k rows)) f o ≡ row_before row.1 (pairs_at (rows_view (drop (suc k) rows)) f o) (where_present f row.0.now o)
  ahead [] k row h e = absurd (omega arith)
  ahead (r ∷ rows) zero row h e = rw e refl
  ahead (r ∷ rows) (suc k) row h e = ahead rows k row (omega arith) e

  joins : (xs ys : List (V × A)) (r : Option (List (V × A)))
      → option_map (λ rest. xs ++ rest) (option_and_then (λ zs. Some (ys ++ zs)) r) ≡ option_map (λ rest. (xs ++ ys) ++ rest) r
  joins xs ys None = refl
  joins xs ys (Some zs) = ap Some (sym (append_assoc xs ys zs))

  more : (rows : List (Bor (List ℕ) × V)) (k : ℕ) (xs : List (V × A)) (row : Bor (List ℕ) × V) (held : Option A) → k < length rows → row ≡ get_or rows k row
      → where_present f row.0.now o ≡ Some held → RowsProgress rows k xs → RowsProgress rows (k + 1) (xs ++ pairs_of row.1 held)
  more rows k xs row held h e r was =
      let rest = pairs_at (rows_view (drop (suc k) rows)) f o in
      rw add-one (sym (joins xs (pairs_of row.1 held) rest)
      ∙ ap (λ w. option_map (λ t. xs ++ t) (row_before row.1 rest w)) (sym r)
      ∙ ap (option_map (λ t. xs ++ t)) (sym (ahead rows k row h e)) ∙ was)

  -- what the next row's member holds was appended
  pub RowsProgress-pushed : (rows : List (Bor (List ℕ) × V)) (k : ℕ) (xs ys : List (V × A)) (d : Bor (List ℕ) × V) (held : Option A)
      → k < length rows → where_present f (get_or rows k d).0.now o ≡ Some held → ys ≡ xs ++ pairs_of (get_or rows k d).1 held
      → RowsProgress rows k xs → RowsProgress rows (k + 1) ys
  RowsProgress-pushed rows k xs ys d held h r p was =
      subst (RowsProgress rows (k + 1)) (sym p) (more rows k xs (get_or rows k d) held h (get_or_same rows k d (get_or rows k d) h) r was)

  -- the next row's member isn't of the form
  pub RowsProgress-none : (rows : List (Bor (List ℕ) × V)) (k : ℕ) (xs : List (V × A)) (d : Bor (List ℕ) × V) → k < length rows
      → where_present f (get_or rows k d).0.now o ≡ None → RowsProgress rows k xs → pairs_at (rows_view rows) f o ≡ None
  RowsProgress-none rows k xs d h r was =
      let row = get_or rows k d in
      let rest = pairs_at (rows_view (drop (suc k) rows)) f o in
      sym was ∙ ap (option_map (λ t. xs ++ t)) (ahead rows k row h (get_or_same rows k d row h))
      ∙ ap (λ w. option_map (λ t. xs ++ t) (row_before row.1 rest w)) r

  pub RowsProgress-end : (rows : List (Bor (List ℕ) × V)) (k : ℕ) (xs : List (V × A)) → length rows ≤ k → RowsProgress rows k xs → pairs_at (rows_view rows) f o ≡ Some xs
  RowsProgress-end rows k xs h was =
      sym was ∙ ap (λ t. option_map (λ rest. xs ++ rest) (pairs_at (rows_view t) f o)) (none_left rows k h) ∙ ap Some (append-nil xs)
    where
      none_left : (rows : List (Bor (List ℕ) × V)) (k : ℕ) → length rows ≤ k → drop k rows ≡ []
      none_left [] zero h = refl
      none_left [] (suc k) h = refl
      none_left (r ∷ rows) zero h = absurd (omega arith)
      none_left (r ∷ rows) (suc k) h = none_left rows k (omega arith)
