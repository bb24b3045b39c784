-- A listing by places, and that of the entries which stand there.
use Rattle.std.proofs.Common.{◌≡◌, zero, suc, ◌+◌, not, ◌<◌, cond, get_or, ℕ, ◌≤◌, Bool, true, false, ◌||◌, List, [], ◌∷◌, length, map, nat_eq, refl, ap, sym, ◌∙◌, arith}
use Rattle.std.specs.Prelude.{slice_get, unwrap_or}
use Rattle.std.specs.Cmp.{IsEquivalence, nat_eq_equiv}
use Rattle.std.specs.List.{range_with_len}
use Rattle.std.proofs.Math.ListN.{length-map}
use Rattle.std.proofs.lemmas.Bool.{or_right}
use Rattle.driver_entries.specs.Entries.{distinct, is_in, place, with_all_new}
use Rattle.driver_entries.specs.Laws.{NoTwoEqual}
use Rattle.driver_entries.specs.Listed.{IsListingOf, Listed, listed_places}
use Rattle.driver_entries.specs.ListingView.{IsListing, listing_view}
use Rattle.driver_entries.specs.declared.listing.Listing.{Listing}
use Rattle.driver_entries.proofs.Distinct.{all_new_is_distinct, is_in-distinct, is_in-equal, is_in-others, others}
use Rattle.driver_entries.proofs.Once.{NoTwoEqual-distinct, NoTwoEqual-filter, one_out}
use Rattle.driver_entries.proofs.Orders.{all-among, all_in-all_new, as-listed, looked-up, numbers-or, numbers-placed, placed-all_new, range-placed}
use Rattle.driver_entries.proofs.Placing.{all_in, all_in-added, left, right}

-- what was listed by places
pub places-listed : (count : ℕ) (places : List ℕ) (l : Listing) → l.order.items ≡ with_all_new nat_eq [] places → length l.numbers.items ≡ count → IsListing l
    → listing_view l ≡ listed_places count places
places-listed count places l made counted sound =
    let ordered : l.order.items ≡ distinct nat_eq places = made ∙ all_new_is_distinct nat_eq nat_eq_equiv places in
    as-listed ordered
    (numbers-or l.numbers.items l.order.items (range_with_len 0 (length l.numbers.items)) sound
    ∙ (λ i. map (λ p. place nat_eq p (ordered i)) (range_with_len 0 (counted i))))

module _ {E : Type 0} (eq : E → E → Bool) (laws : IsEquivalence eq) where
  -- a list without two equal members is no longer than one that has all of them
  no-longer : (xs ys : List E) → NoTwoEqual eq xs → NoTwoEqual eq ys → ((e : E) → is_in eq e xs ≡ true → is_in eq e ys ≡ true) → length xs ≤ length ys
  no-longer [] ys once more h = omega arith
  no-longer (x ∷ xs) ys once more h =
      let there : is_in eq x ys ≡ true = h x (rw (laws.refl x) refl) in
      let one = one_out eq laws x ys more there in
      let rest : length xs ≤ length (others eq x ys) = no-longer xs (others eq x ys) once.1 (NoTwoEqual-filter eq laws _ ys more) left in
      omega (arith, one, rest)
    where
      left : (e : E) → is_in eq e xs ≡ true → is_in eq e (others eq x ys) ≡ true
      left e inside = by (eq e x) refl
        where
          by : (b : Bool) → eq e x ≡ b → is_in eq e (others eq x ys) ≡ true
          by true q = let out : is_in eq e xs ≡ false = is_in-equal eq laws e x xs q ∙ once.0 in cc
          by false q = is_in-others eq laws x e ys q ∙ h e (or_right (eq e x) (is_in eq e xs) inside)

  -- what is in one of two lists with the same members is in the other
  pub all-cited : (es cited : List E) → ((e : E) → is_in eq e cited ≡ is_in eq e es) → all_in eq laws es cited ≡ true
  all-cited es cited same =
      sym (all-among eq laws (with_all_new eq [] cited) es cited (λ e. ap (λ l. is_in eq e l) (all_new_is_distinct eq laws cited) ∙ is_in-distinct eq laws e cited ∙ same e))
      ∙ all_in-added eq laws [] cited

  pub place-within : (e : E) (es : List E) → is_in eq e es ≡ true → place eq e es < length es
  place-within e [] h = cc
  place-within e (x ∷ xs) h = by (eq e x) h (place-within e xs)
    where
      by : (b : Bool) → (b || is_in eq e xs) ≡ true → (is_in eq e xs ≡ true → place eq e xs < length xs) → cond (not b) (1 + place eq e xs) 0 < suc (length xs)
      by true h k = omega arith
      by false h k = let more = k h in omega (arith, more)

  pub places-below : (es xs : List E) → all_in eq laws es xs ≡ true → (k d : ℕ) → k < length (map (λ e. place eq e es) xs) → get_or (map (λ e. place eq e es) xs) k d < length es
  places-below es [] h k d w = absurd (omega (arith, w))
  places-below es (x ∷ xs) h zero d w = place-within x es (left (is_in eq x es) (all_in eq laws es xs) h)
  places-below es (x ∷ xs) h (suc k) d w = places-below es xs (right (is_in eq x es) (all_in eq laws es xs) h) k d (omega (arith, w))

  -- the entries at the places of those that are cited, which are the same, each once
  pub listing-of : (es cited : List E) → NoTwoEqual eq es → ((e : E) → is_in eq e cited ≡ is_in eq e es)
      → (l : Listed) → l ≡ listed_places (length es) (map (λ e. place eq e es) cited) → IsListingOf eq es (distinct eq cited) l
  listing-of es cited once same l made =
      let order = distinct eq cited in
      let places = map (λ e. place eq e es) cited in
      let ordered-same : (e : E) → is_in eq e order ≡ is_in eq e es = λ e. is_in-distinct eq laws e cited ∙ same e in
      let cited-in : all_in eq laws es cited ≡ true = all-cited es cited same in
      let own-in : all_in eq laws es es ≡ true = all-cited es es (λ e. refl) in
      let order-in : all_in eq laws es order ≡ true =
      ap (λ l. all_in eq laws es l) (sym (all_new_is_distinct eq laws cited)) ∙ all_in-all_new eq laws es [] cited refl cited-in in
      let order-is : distinct nat_eq places ≡ map (λ e. place eq e es) order =
      sym (all_new_is_distinct nat_eq nat_eq_equiv places) ∙ placed-all_new eq laws es [] cited refl cited-in
      ∙ ap (λ l. map (λ e. place eq e es) l) (all_new_is_distinct eq laws cited) in
      let ordered : l.order ≡ map (λ e. place eq e es) order = ap (λ l. l.order) made ∙ order-is in
      let numbered : l.numbers ≡ map (λ e. place eq e order) es =
      ap (λ l. l.numbers) made ∙ (λ i. map (λ p. place nat_eq p (order-is i)) (range-placed eq laws es once i)) ∙ numbers-placed eq laws es es order own-in order-in in
      record {
        listed = as-listed ordered numbered;
        same = ordered-same;
        count = alike (no-longer order es (NoTwoEqual-distinct eq laws cited) once (λ e h. sym (ordered-same e) ∙ h))
            (no-longer es order once (NoTwoEqual-distinct eq laws cited) (λ e h. ordered-same e ∙ h));
        numbered = λ e.
            ap (λ ns. unwrap_or (slice_get ns (place eq e es)) (length l.order)) numbered
            ∙ ap (λ n. unwrap_or (slice_get (map (λ x. place eq x order) es) (place eq e es)) n) (ap length ordered ∙ length-map order (λ x. place eq x es))
            ∙ looked-up eq laws order e es (ordered-same e);
      }
    where
      alike : {m n : ℕ} → m ≤ n → n ≤ m → m ≡ n
      alike a b = omega arith
