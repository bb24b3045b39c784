-- The final properties of cites, set one after another.
use Rattle.std.proofs.Common.{◌≡◌, ℕ, zero, suc, ◌+◌, ◌-◌, ◌<◌, Bool, List, [], ◌∷◌, ◌++◌, take, length, map, get_or, Some, None, refl, ap, sym, subst, ◌∙◌, arith, append-nil}
use Rattle.std.specs.Prelude.{All, Option, option_copied, option_map, slice_get, slice_index}
use Rattle.std.specs.Borrow.{Bor}
use Rattle.std.specs.List.{AllZip, last_or}
use Rattle.std.specs.Option.{option_map_or}
use Rattle.std.proofs.Math.ListN.{get_or-map, length-map, set}
use Rattle.std.proofs.lemmas.Option.{get_or_from_slice_get, same_Some, slice_get-map, slice_get_within}
use Rattle.driver_lookup.specs.declared.state.IbidState.{IbidState}
use Rattle.driver_lookup.specs.declared.state.IbidState.TheVariants.{Different}
use Rattle.driver_entries.specs.Entries.{place}
use Rattle.driver_entries.specs.PlacedItems.{IsPlaced}
use Rattle.driver_passes.specs.Positions.{with_last}
use Rattle.driver_passes.specs.Renders.{CiteRender, ItemRender}
use Rattle.driver_passes.proofs.Halves.{half}
use Rattle.driver_positions.specs.FinalProperties.{as_cite, final_position, items_before, with_final, with_final_items}
use Rattle.driver_positions.specs.FinalSteps.{IsPlacedWithin, all_set, first_position, items_at, led_to, placed_item, position_in, set_among}
use Rattle.driver_positions.proofs.Halves.{changes-agree, half-kept, half-next, half-stands, seen-at}

last-of : {X : Type 0} (x : X) (xs : List X) → slice_get (x ∷ xs) (length xs) ≡ last_or (Some x) xs
last-of x [] = refl
last-of x (y ∷ ys) = last-of y ys

last-is : {X : Type 0} (xs : List X) → slice_get xs (length xs - 1) ≡ last_or None xs
last-is [] = refl
last-is (x ∷ xs) = let n : suc (length xs) - 1 ≡ length xs = omega arith in ap (slice_get (x ∷ xs)) n ∙ last-of x xs

pub last-map : {X Y : Type 0} (f : X → Y) (o : Option X) (xs : List X) → option_map f (last_or o xs) ≡ last_or (option_map f o) (map f xs)
last-map f o [] = refl
last-map f o (x ∷ xs) = last-map f (Some x) xs

-- the last of the first of a list
last-taken : {X : Type 0} (o : Option X) (xs : List X) (k : ℕ) (d : X) → k < length xs → last_or o (take (suc k) xs) ≡ Some (get_or xs k d)
last-taken o [] k d w = absurd (omega arith)
last-taken o (x ∷ xs) zero d w = refl
last-taken o (x ∷ xs) (suc k) d w = last-taken (Some x) xs k d (omega arith)

last-behind : {X : Type 0} (o : Option X) (front xs : List X) (k : ℕ) (y : X) → slice_get xs (suc k) ≡ Some y → last_or o (front ++ take (suc k) xs) ≡ slice_get xs k
last-behind o (x ∷ front) xs k y h = last-behind (Some x) front xs k y h
last-behind o [] [] k y h = cc
last-behind o [] (x ∷ xs) zero y h = refl
last-behind o [] (x ∷ xs) (suc k) y h = last-behind (Some x) [] xs k y h

seen-through : {X Y : Type 0} (view : X → Y) (o : Option (Bor X)) → option_map (λ (x : Bor X). view x.now) o ≡ option_map view (option_copied o)
seen-through view None = refl
seen-through view (Some x) = refl

module _ {E P X I : Type 0} (view : X → CiteRender E P) (item : I → ItemRender E P) where
  -- the cites of the request before
  before-is : (cites : List X) (r : ℕ) (x : X) → r < length cites → 0 < r → x ≡ get_or cites (r - 1) x → items_before (map view cites) r ≡ (view x).items
  before-is cites zero x w p h = absurd (omega arith)
  before-is cites (suc j) x w p h =
      let at : suc j - 1 ≡ j = omega arith in
      let inside : j < length (map view cites) = subst (λ n. j < n) (sym (length-map cites view)) (omega arith) in
      ap (λ o. option_map_or (λ before. before.items) o []) (last-taken None (map view cites) j (view x) inside)
      ∙ ap (λ z. z.items) (get_or-map view cites j x ∙ ap view (ap (λ n. get_or cites n x) (sym at) ∙ sym h))

  -- the last of them, as it is read
  pub last-before : (cites : List X) (r : ℕ) (x : X) (ys : List I) (o : Option (Bor I)) → r < length cites → 0 < r → x ≡ get_or cites (r - 1) x → map item ys ≡ (view x).items
      → option_copied o ≡ slice_get ys (length ys - 1) → option_map (λ (i : Bor I). item i.now) o ≡ last_or None (items_before (map view cites) r)
  last-before cites r x ys o w p h same read =
      seen-through item o ∙ ap (option_map item) (read ∙ last-is ys) ∙ last-map item None ys ∙ ap (last_or None) (same ∙ sym (before-is cites r x w p h))

  pub items-at : (cites : List X) (r : ℕ) (x : X) → r < length cites → x ≡ get_or cites r x → items_at (map view cites) r ≡ (view x).items
  items-at cites r x w h = ap (λ o. option_map_or (λ render. render.items) o []) (seen-at view cites r x w h)

module _ {E P : Type 0} (eq : E → E → Bool) (payload_eq : P → P → Bool) where
  -- the position of the first cite, as it is found
  pub first-found : (previous items : List (ItemRender E P)) (i : ItemRender E P) (last : Option (ItemRender E P)) (s : IbidState) → slice_get items 0 ≡ Some i → last ≡ last_or None previous
      → s ≡ with_last eq payload_eq (as_cite i) (option_map as_cite last) → s ≡ first_position eq payload_eq previous items
  first-found previous items i last s read before found =
      found ∙ ap (λ o. with_last eq payload_eq (as_cite i) (option_map as_cite o)) before ∙ ap (λ o. option_map_or (final_position eq payload_eq previous) o Different) (sym read)

  -- that of a later one
  pub position-there : {X : Type 0} (view : X → ItemRender E P) (items : List X) (k : ℕ) (x y : X) (first s : IbidState) (i : ItemRender E P) → k < length items → 0 < k
      → x ≡ get_or items k x → y ≡ get_or items (k - 1) y → s ≡ with_last eq payload_eq (as_cite (view x)) (Some (as_cite (view y)))
      → slice_get (map view items) k ≡ Some i → s ≡ position_in eq payload_eq first (map view items) k i
  position-there view items zero x y first s i w p at before found read = absurd (omega arith)
  position-there view items (suc k) x y first s i w p at before found read =
      let n : suc k - 1 ≡ k = omega arith in
      let this : view x ≡ i = same_Some (view x) i (sym (seen-at view items (suc k) x w at) ∙ read) in
      let last : slice_get (map view items) k ≡ Some (view y) = seen-at view items k y (omega arith) (before ∙ ap (λ m. get_or items m y) n) in
      found ∙ ap (λ z. with_last eq payload_eq (as_cite z) (Some (as_cite (view y)))) this ∙ ap (λ o. with_last eq payload_eq (as_cite i) (option_map as_cite o)) (sym last)

  -- positions go by what cites are as cites alone
  position-kept : (first : IbidState) (xs ys : List (ItemRender E P)) (k : ℕ) (i : ItemRender E P) → map as_cite xs ≡ map as_cite ys
      → position_in eq payload_eq first xs k i ≡ position_in eq payload_eq first ys k i
  position-kept first xs ys zero i h = refl
  position-kept first xs ys (suc k) i h =
      ap (with_last eq payload_eq (as_cite i)) (sym (slice_get-map as_cite xs k) ∙ ap (λ zs. slice_get zs k) h ∙ slice_get-map as_cite ys k)

  pub first-kept : (front back : List (ItemRender E P)) (items : List (ItemRender E P)) → map as_cite front ≡ map as_cite back
      → first_position eq payload_eq front items ≡ first_position eq payload_eq back items
  first-kept front back items h = by (slice_get items 0)
    where
      last : option_map as_cite (last_or None front) ≡ option_map as_cite (last_or None back)
      last = last-map as_cite None front ∙ ap (last_or None) h ∙ sym (last-map as_cite None back)

      by : (o : Option (ItemRender E P)) → option_map_or (final_position eq payload_eq front) o Different ≡ option_map_or (final_position eq payload_eq back) o Different
      by None = refl
      by (Some i) = ap (with_last eq payload_eq (as_cite i)) last

  module _ (number_of : E → ℕ) where
    -- the cites of a request with their final properties, as they are set
    pub all-final : (entries : List E) (places numbers : List ℕ) (previous items : List (ItemRender E P)) (first : IbidState) → first ≡ first_position eq payload_eq previous items
        → ((e : E) → slice_index numbers (place eq e entries) ≡ number_of e) → All (IsPlaced eq entries places) items
        → all_set eq payload_eq first places numbers items ≡ with_final_items eq payload_eq number_of previous items
    all-final entries places numbers previous items first start numbered placed =
        changes-agree (set_among eq payload_eq first places numbers items) (λ k i. with_final eq payload_eq number_of (previous ++ take k items) i) 0 items one
      where
        position : (k : ℕ) (i : ItemRender E P) → slice_get items k ≡ Some i → position_in eq payload_eq first items k i ≡ final_position eq payload_eq (previous ++ take k items) i
        position zero i h =
            start ∙ ap (λ o. option_map_or (final_position eq payload_eq previous) o Different) h ∙ ap (λ l. final_position eq payload_eq l i) (sym (append-nil previous))
        position (suc k) i h = ap (λ o. with_last eq payload_eq (as_cite i) (option_map as_cite o)) (sym (last-behind None previous items k i h))

        number : (k : ℕ) (i : ItemRender E P) → slice_get items k ≡ Some i → slice_index numbers (led_to places i) ≡ number_of i.entry
        number k i h =
            let stands : IsPlaced eq entries places i =
            subst (IsPlaced eq entries places) (get_or_from_slice_get items k i i h) (placed k i (slice_get_within items k i h)) in
            ap (slice_index numbers) (get_or_from_slice_get places i.properties.certain.initial_idx (place eq i.entry entries) 0 stands) ∙ numbered i.entry

        one : (k : ℕ) (i : ItemRender E P) → slice_get items k ≡ Some i
            → set_among eq payload_eq first places numbers items (0 + k) i ≡ with_final eq payload_eq number_of (previous ++ take (0 + k) items) i
        one k i h =
            let at : 0 + k ≡ k = omega arith in
            ap (λ n. set_among eq payload_eq first places numbers items n i) at
            ∙ (λ j. placed_item (position k i h j) (number k i h j) i)
            ∙ ap (λ n. with_final eq payload_eq number_of (previous ++ take n items) i) (sym at)

  module _ {X : Type 0} (view : X → ItemRender E P) (old now : List X) (k : ℕ) (found : X) (first : IbidState) (places numbers : List ℕ)
      (within : k < length old) (here : found ≡ get_or now k found)
      (so-far : map view now ≡ half (set_among eq payload_eq first places numbers (map view old)) k (map view old)) where
    -- a cite's place leads to one of these
    pub within-places : All (IsPlacedWithin places) (map view old) → IsPlacedWithin places (view found)
    within-places all =
        subst (IsPlacedWithin places) (sym (half-stands (set_among eq payload_eq first places numbers (map view old)) view old now k found within here so-far))
        (all k (view found) (subst (λ n. k < n) (sym (length-map old view)) within))

    -- one more cite has its final properties
    pub next-set : (counted : length now ≡ length old) (position : IbidState) (number : ℕ) (x : X)
        → ((i : ItemRender E P) → slice_get (map view now) k ≡ Some i → position ≡ position_in eq payload_eq first (map view now) k i)
        → number ≡ slice_index numbers (led_to places (view found)) → view x ≡ placed_item position number (view found)
        → map view (set now k x) ≡ half (set_among eq payload_eq first places numbers (map view old)) (k + 1) (map view old)
    next-set counted position number x positioned numbered changed =
        let f = set_among eq payload_eq first places numbers (map view old) in
        let kept : map as_cite (map view now) ≡ map as_cite (map view old) = ap (map as_cite) so-far ∙ half-kept f as_cite (λ n i. refl) k (map view old) in
        let position-is : position ≡ position_in eq payload_eq first (map view old) k (view found) =
        positioned (view found) (seen-at view now k found (omega arith) here) ∙ position-kept first (map view now) (map view old) k (view found) kept in
        half-next f view old now k found within here so-far x (changed ∙ (λ j. placed_item (position-is j) (numbered j) (view found)))

zip-at : {A B : Type 0} (R : A → B → Type 0) (xs : List A) (ys : List B) (k : ℕ) (x : A) (y : B) → AllZip R xs ys → k < length ys → R (get_or xs k x) (get_or ys k y)
zip-at R [] [] k x y h w = absurd (omega arith)
zip-at R [] (b ∷ ys) k x y h w = absurd h
zip-at R (a ∷ xs) [] k x y h w = absurd h
zip-at R (a ∷ xs) (b ∷ ys) zero x y h w = h.0
zip-at R (a ∷ xs) (b ∷ ys) (suc k) x y h w = zip-at R xs ys k x y h.1 (omega arith)

zip-length : {A B : Type 0} (R : A → B → Type 0) (xs : List A) (ys : List B) → AllZip R xs ys → length xs ≡ length ys
zip-length R [] [] h = refl
zip-length R [] (b ∷ ys) h = absurd h
zip-length R (a ∷ xs) [] h = absurd h
zip-length R (a ∷ xs) (b ∷ ys) h = ap suc (zip-length R xs ys h.1)

-- the cites of a request know where their entries stand
abbrev pub RowPlaced : {E P : Type 0} → (E → E → Bool) → List E → List ℕ → CiteRender E P → Type 0
RowPlaced eq entries places r = All (IsPlaced eq entries places) r.items

pub placed-at : {E P V : Type 0} (eq : E → E → Bool) (entries : List E) (list : V → List ℕ) (places : List V) (rows : List (List ℕ)) (cites : List (CiteRender E P)) (r : ℕ) (v : V) (x : CiteRender E P)
    → map list places ≡ rows → AllZip (RowPlaced eq entries) rows cites → r < length cites → v ≡ get_or places r v → x ≡ get_or cites r x → RowPlaced eq entries (list v) x
placed-at eq entries list places rows cites r v x made all w q h =
    let row : get_or rows r (list v) ≡ list v = ap (λ ps. get_or ps r (list v)) (sym made) ∙ get_or-map list places r v ∙ ap list (sym q) in
    subst (λ ps. RowPlaced eq entries ps x) row
    (subst (λ y. RowPlaced eq entries (get_or rows r (list v)) y) (sym h) (zip-at (RowPlaced eq entries) rows cites r (list v) x all w))

-- there is a row of places for each request
pub row-within : {E P V X : Type 0} (eq : E → E → Bool) (entries : List E) (list : V → List ℕ) (view : X → CiteRender E P) (places : List V) (rows : List (List ℕ)) (cites : List X) (r : ℕ)
    → map list places ≡ rows → AllZip (RowPlaced eq entries) rows (map view cites) → r < length cites → r < length places
row-within eq entries list view places rows cites r made all w =
    subst (λ n. r < n) (sym (length-map cites view) ∙ sym (zip-length (RowPlaced eq entries) rows (map view cites) all) ∙ sym (ap length made) ∙ length-map places list) w

-- a place that leads somewhere is within
pub placed-within : {E P : Type 0} (eq : E → E → Bool) (entries : List E) (places : List ℕ) (items : List (ItemRender E P)) → All (IsPlaced eq entries places) items → All (IsPlacedWithin places) items
placed-within eq entries places items all = λ k d w. slice_get_within places (get_or items k d).properties.certain.initial_idx (place eq (get_or items k d).entry entries) (all k d w)

pub placed-seen : {E P V X : Type 0} (eq : E → E → Bool) (entries : List E) (list : V → List ℕ) (view : X → CiteRender E P) (places : List V) (rows : List (List ℕ)) (cites : List X) (r : ℕ) (v : V) (x : X)
    → map list places ≡ rows → AllZip (RowPlaced eq entries) rows (map view cites) → r < length cites → v ≡ get_or places r v → x ≡ get_or cites r x → RowPlaced eq entries (list v) (view x)
placed-seen eq entries list view places rows cites r v x made all w q h =
    placed-at eq entries list places rows (map view cites) r v (view x) made all (subst (λ n. r < n) (sym (length-map cites view)) w) q
    (ap view h ∙ sym (get_or-map view cites r x))
