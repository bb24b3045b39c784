-- Where each index points to what a name or a key finds, what is asked for by indexes is what is asked for.
use Rattle.std.proofs.Common.{◌≡◌, ℕ, List, [], ◌∷◌, Option, Some, None, Result, Ok, Err, map, refl, sym, ap, ◌∙◌}
use Rattle.std.specs.Prelude.{IsSome, option_map, option_and_then, slice_get}
use Rattle.std.specs.declared.convert.Infallible.{Infallible}
use Rattle.serde_json.specs.Data.{Data}
use Rattle.driver_passes.specs.Request.{RequestedCite}
use Rattle.document_requests.specs.Form.{Asked, asked_form}
use Rattle.document_requests.specs.Indexes.{ReadsAll, asked_at, cite_at, each_of, order_at, request_at, wanted_at}
use Rattle.document_requests.specs.Requests.{RequestOf, WantedOf}
use Rattle.document_requests.proofs.Natural.{asked-natural, asked_to, cite_to, request_to, wanted_to}
use Rattle.document_values.specs.Reads.{Fails, Reads}
use Rattle.document_values.specs.declared.error.ReadError.{ReadError}
use Rattle.document_values.specs.declared.error.ReadError.TheVariants as errors

-- ---- what each gives

each-same : {A B C : Type 0} (f : A → B) (h : B → Option C) (j : A → Option C) → ((x : A) → j x ≡ h (f x)) → (xs : List A) → each_of j xs ≡ each_of h (map f xs)
each-same f h j e [] = refl
each-same f h j e (x ∷ xs) = λ i. option_and_then (λ y. option_and_then (λ ys. Some (y ∷ ys)) (each-same f h j e xs i)) (e x i)

each-there : {A B : Type 0} (f : A → B) (h : B → Option A) → ((x : A) → h (f x) ≡ Some x) → (xs : List A) → each_of h (map f xs) ≡ Some xs
each-there f h e [] = refl
each-there f h e (x ∷ xs) = λ i. option_and_then (λ y. option_and_then (λ ys. Some (y ∷ ys)) (each-there f h e xs i)) (e x i)

abbrev it : {A : Type 0} → Option A → Option A
it o = o

-- ---- first what is pointed to, and then whether it is there

module _ {E F S T : Type 0} (entry : E → Option F) (style : S → Option T) where
  order-same : (order : Option (List E)) → order_at entry order ≡ order_at it (option_map (map entry) order)
  order-same None = refl
  order-same (Some xs) = ap (option_and_then (λ ys. Some (Some ys))) (each-same entry it entry (λ x. refl) xs)

  cites-same : (cites : List (RequestedCite E Infallible)) → each_of (cite_at entry) cites ≡ each_of (cite_at it) (map (cite_to entry) cites)
  cites-same = each-same (cite_to entry) (cite_at it) (cite_at entry) (λ c. refl)

  request-same : (r : RequestOf S E) → request_at entry style r ≡ request_at it it (request_to entry style r)
  request-same r = λ i. option_and_then (λ by. option_and_then (λ cites. Some (record { style = by; locale = r.locale; note_number = r.note_number; cites = cites })) (cites-same r.cites i)) (style r.style)

  wanted-same : (w : WantedOf S E) → wanted_at entry style w ≡ wanted_at it it (wanted_to entry style w)
  wanted-same w = λ i. option_and_then (λ by. option_and_then (λ order. Some (record { style = by; locale = w.locale; order = order })) (order-same w.order i)) (style w.style)

  asked-same : (a : Asked S E) → asked_at entry style a ≡ asked_at it it (asked_to entry style a)
  asked-same a =
      let requests = each-same (request_to entry style) (request_at it it) (request_at entry style) request-same a.requests in
      λ i. option_and_then (λ rs. option_and_then (λ w. Some (record { requests = rs; wanted = w; offset = a.offset; rounds = a.rounds })) (wanted-same a.wanted i)) (requests i)

-- ---- all of it is there

order-there : {F : Type 0} (order : Option (List F)) → order_at it (option_map (map Some) order) ≡ Some order
order-there None = refl
order-there (Some xs) = ap (option_and_then (λ ys. Some (Some ys))) (each-there Some it (λ x. refl) xs)

module _ {F T : Type 0} where
  request-there : (r : RequestOf T F) → request_at it it (request_to Some Some r) ≡ Some r
  request-there r =
      ap (option_and_then (λ cites. Some (record { style = r.style; locale = r.locale; note_number = r.note_number; cites = cites })))
      (each-there (cite_to Some) (cite_at it) (λ c. refl) r.cites)

  wanted-there : (w : WantedOf T F) → wanted_at it it (wanted_to Some Some w) ≡ Some w
  wanted-there w = ap (option_and_then (λ order. Some (record { style = w.style; locale = w.locale; order = order }))) (order-there w.order)

  asked-there : (a : Asked T F) → asked_at it it (asked_to Some Some a) ≡ Some a
  asked-there a =
      let requests = each-there (request_to Some Some) (request_at it it) request-there a.requests in
      λ i. option_and_then (λ rs. option_and_then (λ w. Some (record { requests = rs; wanted = w; offset = a.offset; rounds = a.rounds })) (wanted-there a.wanted i)) (requests i)

-- ---- a job by indexes

module _ {X S E : Type 0} (view : X → Asked ℕ ℕ) (styles : List S) (entries : List E) (by_name by_key : List ℕ → Option ℕ)
    (style : List ℕ → Option S) (entry : List ℕ → Option E) (o : Data)
    (names : (k : List ℕ) → option_map (slice_get styles) (by_name k) ≡ option_map Some (style k))
    (keys : (k : List ℕ) → option_map (slice_get entries) (by_key k) ≡ option_map Some (entry k)) where
  pointed : option_map (asked_to (slice_get entries) (slice_get styles)) (asked_form by_name by_key o) ≡ option_map (asked_to Some Some) (asked_form style entry o)
  pointed =
      asked-natural (slice_get entries) (slice_get styles) by_name by_key o
      ∙ (λ i. asked_form (λ k. names k i) (λ k. keys k i) o)
      ∙ sym (asked-natural Some Some style entry o)

  read-all : (x : X) (read : Option (Asked S E)) → Some (asked_to (slice_get entries) (slice_get styles) (view x)) ≡ option_map (asked_to Some Some) read
      → IsSome read × (asked_at (slice_get entries) (slice_get styles) (view x) ≡ read)
  read-all x None e = cc
  read-all x (Some a) e =
      let same : asked_to (slice_get entries) (slice_get styles) (view x) ≡ asked_to Some Some a = cc in
      (refl, asked-same (slice_get entries) (slice_get styles) (view x) ∙ ap (asked_at it it) same ∙ asked-there a)

  none-read : (read : Option (Asked S E)) → None ≡ option_map (asked_to {E = E} Some {S = S} Some) read → read ≡ None
  none-read None e = refl
  none-read (Some a) e = cc

  pub reads-by-index : (result : Result X ReadError) → Reads view result (asked_form by_name by_key o)
      → ReadsAll (λ x. asked_at (slice_get entries) (slice_get styles) (view x)) result (asked_form style entry o)
  reads-by-index (Ok x) h = read-all x (asked_form style entry o) (sym (ap (option_map (asked_to (slice_get entries) (slice_get styles))) h) ∙ pointed)
  reads-by-index (Err (errors.Document fault)) h =
      none-read (asked_form style entry o) (sym (ap (option_map (asked_to (slice_get entries) (slice_get styles))) h) ∙ pointed)
  reads-by-index (Err errors.OutOfMemory) h = tt
