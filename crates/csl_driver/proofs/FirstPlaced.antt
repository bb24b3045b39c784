-- The first renders of cites know their places, and through these those of their entries.
use Rattle.std.proofs.Common.{◌≡◌, ℕ, suc, ◌+◌, Bool, List, [], ◌∷◌, ◌++◌, Some, length, map, take, refl, ap, sym, ◌∙◌, arith, append_assoc, length-append}
use Rattle.std.specs.Prelude.{All, flat_map, option_map, slice_get, zip}
use Rattle.std.specs.List.{AllZip, enumerate_from}
use Rattle.std.proofs.Math.Seq.{take-append_seam}
use Rattle.std.proofs.lemmas.List.Elements.{All-cons, All-nil}
use Rattle.std.proofs.lemmas.Option.{slice_get-map}
use Rattle.rounds_ambiguity.proofs.Sifted.{after}
use Rattle.driver_writers.specs.Writing.{Writing}
use Rattle.driver_entries.specs.Entries.{distinct, place}
use Rattle.driver_entries.specs.PlacedItems.{IsPlaced}
use Rattle.driver_entries.specs.Table.{Table, places_in, table_of}
use Rattle.driver_passes.specs.Renders.{CiteRender}
use Rattle.driver_passes.specs.Request.{RequestedCite, Request, cited, entries_of}
use Rattle.driver_passes.specs.declared.first.FirstProperties.{FirstProperties}
use Rattle.driver_positions.specs.FirstProperties.{cite_properties, first_properties, request_properties}
use Rattle.rounds_runs.specs.FirstRenders.{HasShapeOf, first_render, first_renders, first_renders_of}

module _ {X A : Type 0} (f : List X → X → A) (ys : List X) where
  -- what f gives of members that stand from a place on, and of those before each
  abbrev pub from : ℕ → List X → List A
  from n xs = map (λ (k, x). f (take k ys) x) (enumerate_from n xs)

  zipped : (R : X → A → Type 0) → ((before : List X) (x : X) → R x (f before x)) → (n : ℕ) (xs : List X) → AllZip R xs (from n xs)
  zipped R each n [] = tt
  zipped R each n (x ∷ xs) = (each (take n ys) x, zipped R each (n + 1) xs)

  length-from : (n : ℕ) (xs : List X) → length (from n xs) ≡ length xs
  length-from n [] = refl
  length-from n (x ∷ xs) = ap suc (length-from (n + 1) xs)

module _ {E P : Type 0} (eq : E → E → Bool) (payload_eq : P → P → Bool) (writing : Writing E P) (number_of : E → ℕ) (entries : List E) where
  module _ (before : List (Request E P)) (r : Request E P) where
    -- of the cites of a request
    placed-from : (pre xs : List (RequestedCite E P)) (n : ℕ) → n ≡ length pre → r.cites ≡ pre ++ xs
        → All (IsPlaced eq entries (places_in eq entries r.cites)) (map (λ c. first_render writing r c.0 c.1) (zip xs (from (cite_properties eq payload_eq number_of before r) r.cites n xs)))
    placed-from pre [] n at whole = All-nil (IsPlaced eq entries (places_in eq entries r.cites))
    placed-from pre (x ∷ xs) n at whole =
        All-cons (IsPlaced eq entries (places_in eq entries r.cites)) (first_render writing r x (cite_properties eq payload_eq number_of before r (take n r.cites) x))
        (map (λ c. first_render writing r c.0 c.1) (zip xs (from (cite_properties eq payload_eq number_of before r) r.cites (n + 1) xs)))
        here (placed-from (pre ++ x ∷ []) xs (n + 1) next (whole ∙ sym (append_assoc pre (x ∷ []) xs)))
      where
        next : n + 1 ≡ length (pre ++ x ∷ [])
        next = omega (arith, at, length-append pre (x ∷ []))

        here : slice_get (places_in eq entries r.cites) (length (take n r.cites)) ≡ Some (place eq x.entry entries)
        here =
            ap (λ ys. slice_get (places_in eq entries ys) (length (take n ys))) whole
            ∙ ap (λ m. slice_get (places_in eq entries (pre ++ x ∷ xs)) (length (take m (pre ++ x ∷ xs)))) at
            ∙ ap (λ ys. slice_get (places_in eq entries (pre ++ x ∷ xs)) (length ys)) (take-append_seam pre (x ∷ xs))
            ∙ slice_get-map (λ e. place eq e entries) (entries_of (pre ++ x ∷ xs)) (length pre)
            ∙ ap (option_map (λ e. place eq e entries)) (slice_get-map (λ c. c.entry) (pre ++ x ∷ xs) (length pre) ∙ ap (option_map (λ c. c.entry)) (after pre x xs))

    placed-row : All (IsPlaced eq entries (places_in eq entries r.cites)) (first_renders_of writing r (request_properties eq payload_eq number_of before r)).items
    placed-row = placed-from [] r.cites 0 refl refl

  -- of all requests
  placed-rows : (ys : List (Request E P)) (n : ℕ) (requests : List (Request E P))
      → AllZip (λ ps c. All (IsPlaced eq entries ps) c.items) (map (λ r. places_in eq entries r.cites) requests)
      (first_renders writing requests (from (request_properties eq payload_eq number_of) ys n requests))
  placed-rows ys n [] = tt
  placed-rows ys n (r ∷ requests) = (placed-row (take n ys) r, placed-rows ys (n + 1) requests)

  pub first-placed : (requests : List (Request E P))
      → AllZip (λ ps c. All (IsPlaced eq entries ps) c.items) (map (λ r. places_in eq entries r.cites) requests)
      (first_renders writing requests (first_properties eq payload_eq number_of requests))
  first-placed requests = placed-rows requests 0 requests

  -- each cite has its first properties
  shape-from : (ys : List (Request E P)) (n : ℕ) (requests : List (Request E P))
      → HasShapeOf requests (from (request_properties eq payload_eq number_of) ys n requests)
  shape-from ys n [] = refl
  shape-from ys n (r ∷ requests) =
      rw (length-from (cite_properties eq payload_eq number_of (take n ys) r) r.cites 0 r.cites, shape-from ys (n + 1) requests) refl

  pub first-shape : (requests : List (Request E P)) → HasShapeOf requests (first_properties eq payload_eq number_of requests)
  first-shape requests = shape-from requests 0 requests

  -- where the entries of the first renders stand
  row-entries : (r : Request E P) (cs : List (RequestedCite E P)) (fs : List FirstProperties) → length fs ≡ length cs
      → map (λ i. place eq i.entry entries) (map (λ c. first_render writing r c.0 c.1) (zip cs fs)) ≡ places_in eq entries cs
  row-entries r [] [] same = refl
  row-entries r [] (f ∷ fs) same = refl
  row-entries r (c ∷ cs) [] same = absurd (omega (arith, same))
  row-entries r (c ∷ cs) (f ∷ fs) same = ap (λ t. place eq c.entry entries ∷ t) (row-entries r cs fs (omega (arith, same)))

  rows-entries : (ys : List (Request E P)) (n : ℕ) (requests : List (Request E P))
      → map (λ c. map (λ i. place eq i.entry entries) c.items) (first_renders writing requests (from (request_properties eq payload_eq number_of) ys n requests))
      ≡ map (λ r. places_in eq entries r.cites) requests
  rows-entries ys n [] = refl
  rows-entries ys n (r ∷ requests) =
      rw (
        row-entries r r.cites (request_properties eq payload_eq number_of (take n ys) r) (length-from (cite_properties eq payload_eq number_of (take n ys) r) r.cites 0 r.cites),
        rows-entries ys (n + 1) requests,
      ) refl

  pub first-entries : (requests : List (Request E P))
      → map (λ c. map (λ i. place eq i.entry entries) c.items) (first_renders writing requests (first_properties eq payload_eq number_of requests))
      ≡ map (λ r. places_in eq entries r.cites) requests
  first-entries requests = rows-entries requests 0 requests

  -- and which requests they belong to
  rows-requests : (ys : List (Request E P)) (n : ℕ) (requests : List (Request E P))
      → map (λ c. c.request) (first_renders writing requests (from (request_properties eq payload_eq number_of) ys n requests)) ≡ requests
  rows-requests ys n [] = refl
  rows-requests ys n (r ∷ requests) = ap (λ t. r ∷ t) (rows-requests ys (n + 1) requests)

  pub first-requests : (requests : List (Request E P))
      → map (λ c. c.request) (first_renders writing requests (first_properties eq payload_eq number_of requests)) ≡ requests
  first-requests requests = rows-requests requests 0 requests

  -- and which entries they cite
  row-cited : (r : Request E P) (cs : List (RequestedCite E P)) (fs : List FirstProperties) → length fs ≡ length cs
      → map (λ i. i.entry) (map (λ c. first_render writing r c.0 c.1) (zip cs fs)) ≡ entries_of cs
  row-cited r [] [] same = refl
  row-cited r [] (f ∷ fs) same = refl
  row-cited r (c ∷ cs) [] same = absurd (omega (arith, same))
  row-cited r (c ∷ cs) (f ∷ fs) same = ap (λ t. c.entry ∷ t) (row-cited r cs fs (omega (arith, same)))

  rows-cited : (ys : List (Request E P)) (n : ℕ) (requests : List (Request E P))
      → flat_map (λ c. map (λ i. i.entry) c.items) (first_renders writing requests (from (request_properties eq payload_eq number_of) ys n requests)) ≡ cited requests
  rows-cited ys n [] = refl
  rows-cited ys n (r ∷ requests) =
      rw (
        row-cited r r.cites (request_properties eq payload_eq number_of (take n ys) r) (length-from (cite_properties eq payload_eq number_of (take n ys) r) r.cites 0 r.cites),
        rows-cited ys (n + 1) requests,
      ) refl

  pub first-cited : (requests : List (Request E P))
      → flat_map (λ c. map (λ i. i.entry) c.items) (first_renders writing requests (first_properties eq payload_eq number_of requests)) ≡ cited requests
  first-cited requests = rows-cited requests 0 requests

module _ {E P : Type 0} (eq : E → E → Bool) (payload_eq : P → P → Bool) (writing : Writing E P) (number_of : E → ℕ) (requests : List (Request E P))
    (table : Table E) (is : table ≡ table_of eq requests) (renders : List (CiteRender E P)) (made : renders ≡ first_renders writing requests (first_properties eq payload_eq number_of requests)) where
  -- the table has where their entries stand
  pub first-places : table.places ≡ map (λ c. map (λ i. place eq i.entry table.entries) c.items) renders
  first-places =
      ap (λ (t : Table E). t.places) is
      ∙ sym (ap (λ (t : Table E). map (λ c. map (λ i. place eq i.entry t.entries) c.items) renders) is
      ∙ ap (map (λ c. map (λ i. place eq i.entry (distinct eq (cited requests))) c.items)) made
      ∙ first-entries eq payload_eq writing number_of (distinct eq (cited requests)) requests)
