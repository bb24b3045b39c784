-- The document that asks for what indexes point to, part by part.
use Rattle.std.proofs.Common.{◌≡◌, ℕ, List, [], ◌∷◌, Option, Some, None, map, refl, sym, ap, ◌∙◌}
use Rattle.std.specs.Prelude.{option_map, option_and_then, slice_get}
use Rattle.std.specs.declared.convert.Infallible.{Infallible}
use Rattle.csl_driver.specs.Driver.{Driver}
use Rattle.driver_passes.specs.Request.{Request, Wanted, with_places}
use Rattle.value_styles.specs.Style.{LocaleValue, StyleValue}
use Rattle.value_sources.specs.declared.entry.PlainEntry.{PlainEntry}
use Rattle.document_requests.specs.Form.{Asked, Document, document_of, request_with}
use Rattle.document_requests.specs.Indexes.{asked_at, each_of, order_at, request_at, wanted_at}
use Rattle.document_requests.specs.Requests.{RequestOf, WantedOf}
use Rattle.document_answer.specs.Filled.{wanted_with}
use Rattle.document_answer.specs.Run.{IsMissing, IsRefusedFor, accepted, bibliography_of}
use Rattle.document_answer.specs.declared.error.RunError.{RunError}
use Rattle.document_answer.specs.declared.error.RunError.TheVariants as errors

-- where one points to nothing nothing is read
pub missing : {A D : Type 0} (document : D → Document) (read : Option D) (pointed : Option A) (e : RunError) → (pointed ≡ None → read ≡ None) → IsMissing pointed e
    → IsRefusedFor document e read
missing document read pointed errors.Document so h = so h
missing document read pointed errors.OutOfMemory so h = tt
missing document read pointed errors.Output so h = absurd h
missing document read pointed (errors.MacroRing place i) so h = absurd h
missing document read pointed errors.NumberOverflow so h = absurd h

module _ (entries : List PlainEntry) (styles : List StyleValue) (locales : List LocaleValue) (a : Asked ℕ ℕ) where
  abbrev requests : Option (List (RequestOf StyleValue PlainEntry))
  requests = each_of (request_at (slice_get entries) (slice_get styles)) a.requests

  abbrev by_index : Option StyleValue
  by_index = slice_get styles a.wanted.style

  abbrev in_order : Option (Option (List PlainEntry))
  in_order = order_at (slice_get entries) a.wanted.order

  abbrev asks : List (RequestOf StyleValue PlainEntry) → StyleValue → Option (List PlainEntry) → Document
  asks rs by order = document_of locales (record { requests = rs; wanted = record { style = by; locale = a.wanted.locale; order = order }; offset = a.offset; rounds = a.rounds })

  abbrev wants : Option StyleValue → Option (Option (List PlainEntry)) → Option (WantedOf StyleValue PlainEntry)
  wants style order = option_and_then (λ by. option_and_then (λ o. Some (record { style = by; locale = a.wanted.locale; order = o })) order) style

  abbrev of_parts : Option (List (RequestOf StyleValue PlainEntry)) → Option (WantedOf StyleValue PlainEntry) → Option Document
  of_parts requests wanted =
      option_and_then (λ x. Some (document_of locales x))
      (option_and_then (λ rs. option_and_then (λ w. Some (record { requests = rs; wanted = w; offset = a.offset; rounds = a.rounds })) wanted) requests)

  abbrev pub resolved : Option Document
  resolved = option_and_then (λ x. Some (document_of locales x)) (asked_at (slice_get entries) (slice_get styles) a)

  -- ---- one points to nothing

  no_wanted : (rs : Option (List (RequestOf StyleValue PlainEntry))) → of_parts rs None ≡ None
  no_wanted None = refl
  no_wanted (Some rs) = refl

  pub no-requests : requests ≡ None → resolved ≡ None
  no-requests e = ap (λ rs. of_parts rs (wants by_index in_order)) e

  pub no-style : by_index ≡ None → resolved ≡ None
  no-style e = ap (λ by. of_parts requests (wants by in_order)) e ∙ no_wanted requests

  pub no-order : in_order ≡ None → resolved ≡ None
  no-order e = ap (λ order. of_parts requests (wants by_index order)) e ∙ by by_index
    where
      by : (o : Option StyleValue) → of_parts requests (wants o None) ≡ None
      by None = no_wanted requests
      by (Some s) = no_wanted requests

  -- ---- all is there

  -- what a driver was asked, and which document that is of
  pub record AsksFor (v : Driver PlainEntry Infallible) (w : Wanted PlainEntry) : Type 0 where
    pub document : Document
    pub is : resolved ≡ Some document
    pub made : v ≡ record { requests = accepted document.requests; offset = document.offset }
    pub wanted : w ≡ bibliography_of document
    pub rounds : a.rounds ≡ document.rounds

  pub asks-for : (v : Driver PlainEntry Infallible) (w : Wanted PlainEntry) (order : Option (List PlainEntry))
      → option_map (λ rs. accepted (map (request_with locales) rs)) requests ≡ Some v.requests → v.offset ≡ a.offset
      → in_order ≡ Some order → option_map (wanted_with a.wanted.locale locales order) by_index ≡ Some w → AsksFor v w
  asks-for v w order r o s u = by requests by_index refl refl r u
    where
      by : (rs : Option (List (RequestOf StyleValue PlainEntry))) (style : Option StyleValue) → requests ≡ rs → by_index ≡ style
          → option_map (λ rs. accepted (map (request_with locales) rs)) rs ≡ Some v.requests → option_map (wanted_with a.wanted.locale locales order) style ≡ Some w
          → AsksFor v w
      by None style p q r u = cc
      by (Some rs) None p q r u = cc
      by (Some rs) (Some style) p q r u =
          let taken : v.requests ≡ accepted (map (request_with locales) rs) = cc in
          let asked : w ≡ wanted_with a.wanted.locale locales order style = cc in
          record {
            document = asks rs style order;
            is = λ i. of_parts (p i) (wants (q i) (s i));
            made = λ i. record { requests = taken i; offset = o i };
            wanted = asked;
            rounds = refl;
          }

-- ---- what each gives, changed

module _ {A B C : Type 0} (f : A → Option B) (g : B → C) where
  one-changed : (o : Option B) (rest : Option (List B))
      → option_and_then (λ y. option_and_then (λ ys. Some (y ∷ ys)) (option_map (map g) rest)) (option_map g o)
      ≡ option_map (map g) (option_and_then (λ y. option_and_then (λ ys. Some (y ∷ ys)) rest) o)
  one-changed None rest = refl
  one-changed (Some y) None = refl
  one-changed (Some y) (Some ys) = refl

  pub each-changed : (xs : List A) → each_of (λ x. option_map g (f x)) xs ≡ option_map (map g) (each_of f xs)
  each-changed [] = refl
  each-changed (x ∷ xs) =
      ap (λ rest. option_and_then (λ y. option_and_then (λ ys. Some (y ∷ ys)) rest) (option_map g (f x))) (each-changed xs) ∙ one-changed (f x) (each_of f xs)

-- ---- requests as a driver takes them

module _ (locales : List LocaleValue) (request : RequestOf ℕ ℕ → Option (RequestOf StyleValue PlainEntry)) where
  abbrev placed : RequestOf StyleValue PlainEntry → Request PlainEntry Infallible
  placed x = with_places (request_with locales x)

  abbrev pub taken : RequestOf ℕ ℕ → Option (Request PlainEntry Infallible)
  taken r = option_map placed (request r)

  pub request-taken : (r : RequestOf ℕ ℕ) (v : Request PlainEntry Infallible) → Some v ≡ option_map (request_with locales) (request r) → taken r ≡ Some (with_places v)
  request-taken r v e = by (request r) e
    where
      by : (o : Option (RequestOf StyleValue PlainEntry)) → Some v ≡ option_map (request_with locales) o → option_map placed o ≡ Some (with_places v)
      by None e = cc
      by (Some x) e = let same : v ≡ request_with locales x = cc in ap (λ y. Some (with_places y)) (sym same)

  pub request-missing : (r : RequestOf ℕ ℕ) → None ≡ option_map (request_with locales) (request r) → taken r ≡ None
  request-missing r e = by (request r) e
    where
      by : (o : Option (RequestOf StyleValue PlainEntry)) → None ≡ option_map (request_with locales) o → option_map placed o ≡ None
      by None e = refl
      by (Some x) e = cc

  fused : (xs : List (RequestOf StyleValue PlainEntry)) → accepted (map (request_with locales) xs) ≡ map placed xs
  fused [] = refl
  fused (x ∷ xs) = ap (λ ys. placed x ∷ ys) (fused xs)

  fused-there : (o : Option (List (RequestOf StyleValue PlainEntry))) → option_map (λ xs. accepted (map (request_with locales) xs)) o ≡ option_map (map placed) o
  fused-there None = refl
  fused-there (Some xs) = ap Some (fused xs)

  pub all-taken : (rs : List (RequestOf ℕ ℕ)) (ys : List (Request PlainEntry Infallible)) → each_of taken rs ≡ Some ys
      → option_map (λ xs. accepted (map (request_with locales) xs)) (each_of request rs) ≡ Some ys
  all-taken rs ys e = fused-there (each_of request rs) ∙ sym (each-changed request placed rs) ∙ e

  pub none-taken : (rs : List (RequestOf ℕ ℕ)) → each_of taken rs ≡ None → each_of request rs ≡ None
  none-taken rs e = by (each_of request rs) (sym (each-changed request placed rs) ∙ e)
    where
      by : (o : Option (List (RequestOf StyleValue PlainEntry))) → option_map (map placed) o ≡ None → o ≡ None
      by None e = refl
      by (Some xs) e = cc
