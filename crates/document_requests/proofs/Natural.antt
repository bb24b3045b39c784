-- The forms of what is asked for say the same of whatever names and keys find: where what is found is changed, what they give is changed alike.
use Rattle.std.proofs.Common.{◌≡◌, ℕ, List, [], ◌∷◌, Option, Some, None, map, codes, refl, ap, ◌∙◌}
use Rattle.std.specs.Prelude.{option_map, option_and_then}
use Rattle.std.specs.declared.convert.Infallible.{Infallible}
use Rattle.serde_json.specs.Data.{Data, Items, no_items, item}
use Rattle.serde_json.specs.Find.{get, as_array, as_str}
use Rattle.driver_passes.specs.Request.{RequestedCite}
use Rattle.document_requests.specs.Form.{Asked, asked_form}
use Rattle.document_requests.specs.declared.rounds.Rounds.{Rounds}
use Rattle.document_requests.specs.Requests.{RequestOf, WantedOf, apart_form, item_form, locator_form, request_form, wanted_form}
use Rattle.document_requests.specs.Rounds.{rounds_form}
use Rattle.document_values.specs.Names.{one_of}
use Rattle.document_values.specs.Tables.{purposes}
use Rattle.document_values.specs.Words.{all_items, flag, items_of_key, list_form, name_form, object_with, optional, or_default, present, required, where_present, whole}

-- ---- steps of a form

-- a step that stays
step : {A B C : Type 0} (g : B → C) (h : A → Option B) (j : A → Option C) (o : Option A) → ((x : A) → option_map g (h x) ≡ j x)
    → option_map g (option_and_then h o) ≡ option_and_then j o
step g h j None e = refl
step g h j (Some x) e = e x

-- a step whose value is changed
moved : {A B C D : Type 0} (f : A → B) (g : C → D) (h : A → Option C) (j : B → Option D) (o : Option A) (p : Option B) → option_map f o ≡ p
    → ((x : A) → option_map g (h x) ≡ j (f x)) → option_map g (option_and_then h o) ≡ option_and_then j p
moved f g h j None p e n = ap (option_and_then j) e
moved f g h j (Some x) p e n = n x ∙ ap (option_and_then j) e

name-natural : {A B : Type 0} (f : A → B) (find : List ℕ → Option A) (d : Data) → option_map f (name_form find d) ≡ name_form (λ k. option_map f (find k)) d
name-natural f find d = step f find (λ k. option_map f (find k)) (as_str d) (λ k. refl)

module _ {A B : Type 0} (g : A → B) (f : Data → Option A) (j : Data → Option B) (same : (d : Data) → option_map g (f d) ≡ j d) where
  required-natural : (k : List ℕ) (d : Data) → option_map g (required f k d) ≡ required j k d
  required-natural k d = step g f j (get k d) same

  all-natural : (ds : Items) → option_map (map g) (all_items f ds) ≡ all_items j ds
  all-natural no_items = refl
  all-natural (item d ds) =
      moved g (map g) _ _ (f d) (j d) (same d) (λ x. moved (map g) (map g) _ _ (all_items f ds) (all_items j ds) (all-natural ds) (λ xs. refl))

  key-natural : (k : List ℕ) (d : Data) → option_map (map g) (items_of_key f k d) ≡ items_of_key j k d
  key-natural k d = step (map g) (all_items f) (all_items j) (required as_array k d) all-natural

  list-natural : (d : Data) → option_map (map g) (list_form f d) ≡ list_form j d
  list-natural d = step (map g) (all_items f) (all_items j) (as_array d) all-natural

  present-natural : (k : List ℕ) (d : Data) → option_map (option_map g) (where_present f k d) ≡ where_present j k d
  present-natural k d = by (get k d)
    where
      twice : (o : Option A) → option_map (option_map g) (option_map (λ x. Some x) o) ≡ option_map (λ x. Some x) (option_map g o)
      twice None = refl
      twice (Some x) = refl

      by : (o : Option Data) → option_map (option_map g) (or_default None (present f) o) ≡ or_default None (present j) o
      by None = refl
      by (Some e) = twice (f e) ∙ ap (option_map (λ x. Some x)) (same e)

-- ---- what is asked for, of other things than names and keys find

module _ {E F : Type 0} (g : E → F) where
  abbrev pub cite_to : RequestedCite E Infallible → RequestedCite F Infallible
  cite_to c = record { entry = g c.entry; locator = c.locator; locale = c.locale; hidden = c.hidden; purpose = c.purpose; apart = c.apart; place = c.place }

  item-natural : (rounds : Rounds) (find : List ℕ → Option E) (d : Data) → option_map cite_to (item_form find rounds d) ≡ item_form (λ k. option_map g (find k)) rounds d
  unfolding item_form
  item-natural rounds find d =
      step cite_to _ _ (object_with (codes "entry" ∷ codes "locator" ∷ codes "locale" ∷ codes "hidden" ∷ codes "purpose" ∷ codes "apart" ∷ []) d) (λ o.
      moved g cite_to _ _ (required (name_form find) (codes "entry") o) _
      (required-natural g (name_form find) (name_form (λ k. option_map g (find k))) (name-natural g find) (codes "entry") o) (λ cited.
      step cite_to _ _ (where_present locator_form (codes "locator") o) (λ locator.
      step cite_to _ _ (where_present as_str (codes "locale") o) (λ locale.
      step cite_to _ _ (flag (codes "hidden") o) (λ hidden.
      step cite_to _ _ (where_present (one_of purposes) (codes "purpose") o) (λ purpose.
      step cite_to _ _ (where_present (apart_form rounds) (codes "apart") o) (λ apart. refl)))))))

  module _ {S T : Type 0} (f : S → T) where
    abbrev pub request_to : RequestOf S E → RequestOf T F
    request_to r = record { style = f r.style; locale = r.locale; note_number = r.note_number; cites = map cite_to r.cites }

    abbrev pub wanted_to : WantedOf S E → WantedOf T F
    wanted_to w = record { style = f w.style; locale = w.locale; order = option_map (map g) w.order }

    abbrev pub asked_to : Asked S E → Asked T F
    asked_to a = record { requests = map request_to a.requests; wanted = wanted_to a.wanted; offset = a.offset; rounds = a.rounds }

    module _ (style : List ℕ → Option S) (entry : List ℕ → Option E) where
      abbrev style_to : List ℕ → Option T
      style_to k = option_map f (style k)

      abbrev entry_to : List ℕ → Option F
      entry_to k = option_map g (entry k)

      request-natural : (rounds : Rounds) (d : Data) → option_map request_to (request_form style entry rounds d) ≡ request_form style_to entry_to rounds d
      unfolding request_form
      request-natural rounds d =
          step request_to _ _ (object_with (codes "style" ∷ codes "locale" ∷ codes "note" ∷ codes "items" ∷ []) d) (λ o.
          moved f request_to _ _ (required (name_form style) (codes "style") o) _
          (required-natural f (name_form style) (name_form style_to) (name-natural f style) (codes "style") o) (λ by.
          step request_to _ _ (where_present as_str (codes "locale") o) (λ locale.
          step request_to _ _ (where_present whole (codes "note") o) (λ note.
          moved (map cite_to) request_to _ _ (items_of_key (item_form entry rounds) (codes "items") o) _
          (key-natural cite_to (item_form entry rounds) (item_form entry_to rounds) (item-natural rounds entry) (codes "items") o) (λ cites. refl)))))

      wanted-natural : (d : Data) → option_map wanted_to (wanted_form style entry d) ≡ wanted_form style_to entry_to d
      unfolding wanted_form
      wanted-natural d =
          step wanted_to _ _ (object_with (codes "style" ∷ codes "locale" ∷ codes "order" ∷ []) d) (λ o.
          moved f wanted_to _ _ (required (name_form style) (codes "style") o) _
          (required-natural f (name_form style) (name_form style_to) (name-natural f style) (codes "style") o) (λ by.
          step wanted_to _ _ (where_present as_str (codes "locale") o) (λ locale.
          moved (option_map (map g)) wanted_to _ _ (where_present (list_form (name_form entry)) (codes "order") o) _
          (present-natural (map g) (list_form (name_form entry)) (list_form (name_form entry_to)) (list-natural g (name_form entry) (name_form entry_to) (name-natural g entry)) (codes "order") o)
          (λ order. refl))))

      pub asked-natural : (o : Data) → option_map asked_to (asked_form style entry o) ≡ asked_form style_to entry_to o
      unfolding asked_form
      asked-natural o =
          step asked_to _ _ (rounds_form o) (λ rounds.
          moved (map request_to) asked_to _ _ (items_of_key (request_form style entry rounds) (codes "requests") o) _
          (key-natural request_to (request_form style entry rounds) (request_form style_to entry_to rounds) (request-natural rounds) (codes "requests") o) (λ requests.
          moved wanted_to asked_to _ _ (required (wanted_form style entry) (codes "bibliography") o) _
          (required-natural wanted_to (wanted_form style entry) (wanted_form style_to entry_to) wanted-natural (codes "bibliography") o) (λ wanted.
          step asked_to _ _ (optional 0 whole (codes "offset") o) (λ offset. refl))))
