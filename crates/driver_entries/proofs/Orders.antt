-- The order of entries by their places, and that of the entries themselves.
use Rattle.std.proofs.Common.{◌≡◌, ℕ, suc, ◌+◌, ◌<◌, ◌≤◌, nat_lt, nat_eq, Bool, true, false, cond, not, ◌||◌, Option, Some, None, List, [], ◌∷◌, ◌++◌, length, map, filter, take, get_or, is_some, refl, ap, sym, subst, ◌∙◌, arith}
use Rattle.std.specs.Prelude.{slice_get, unwrap_or}
use Rattle.std.specs.Cmp.{IsEquivalence}
use Rattle.std.specs.List.{cons_option, filter_map, position, range_with_len}
use Rattle.std.specs.Option.{option_map_or}
use Rattle.std.proofs.Math.ListN.{length-map}
use Rattle.std.proofs.lemmas.Bool.Decides.{nat_tests}
use Rattle.std.proofs.lemmas.List.{map-append}
use Rattle.std.proofs.lemmas.List.Elements.{filter_map-append}
use Rattle.std.proofs.lemmas.List.Sums.{fold-append, prefix_len-le-length}
use Rattle.driver_entries.specs.Entries.{bibliography_order, distinct, is_in, place, with_new, with_all_new}
use Rattle.driver_entries.specs.Laws.{NoTwoEqual}
use Rattle.driver_entries.specs.Listed.{Listed, ListsAll}
use Rattle.driver_entries.specs.ListingView.{listing_view}
use Rattle.driver_entries.specs.declared.listing.Listing.{Listing}
use Rattle.driver_entries.proofs.Distinct.{all_new-all_new, all_new_is_distinct, bib_made, is_in-distinct}
use Rattle.driver_entries.proofs.Numbers.{number_in, numbered}
use Rattle.driver_entries.proofs.Once.{NoTwoEqual-distinct, holds_each_once, length-bibliography_order, without_gaps}
use Rattle.driver_entries.proofs.Placing.{all_in, all_in-added, both, grown, left, right}

module _ {E : Type 0} (eq : E → E → Bool) (laws : IsEquivalence eq) where
  -- what is listed in all
  listed-in-order : (order : Option (List E)) (keys : List E)
      → with_all_new eq (with_all_new eq [] (filter (λ e. is_in eq e keys) (unwrap_or order []))) keys ≡ bibliography_order eq order keys
  listed-in-order None keys = all_new_is_distinct eq laws keys
  listed-in-order (Some order) keys =
      sym (fold-append (with_new eq) [] (filter (λ e. is_in eq e keys) order) keys) ∙ all_new_is_distinct eq laws (filter (λ e. is_in eq e keys) order ++ keys)

  -- the order of the distinct entries is that of all
  order-distinct : (order : Option (List E)) (xs : List E) → bibliography_order eq order (distinct eq xs) ≡ bibliography_order eq order xs
  order-distinct None xs =
      sym (all_new_is_distinct eq laws (distinct eq xs)) ∙ ap (λ ds. with_all_new eq [] ds) (sym (all_new_is_distinct eq laws xs))
      ∙ all_new-all_new eq laws [] [] xs ∙ all_new_is_distinct eq laws xs
  order-distinct (Some order) xs = sym (listed-in-order (Some order) (distinct eq xs)) ∙ bib_made eq laws order xs

found-at : (b : Bool) (n i : ℕ) → cond b (Some n) None ≡ Some i → (b ≡ true) × (n ≡ i)
found-at true n i h = (refl, cc)
found-at false n i h = cc

-- an entry that is found stands within
pub found-within : {E : Type 0} (eq : E → E → Bool) (e : E) (es : List E) (i : ℕ) → position (eq e) es ≡ Some i → i < length es
found-within eq e es i h =
    let at = found-at (nat_lt (place eq e es) (length es)) (place eq e es) i h in
    let test : nat_lt i (length es) ≡ true = ap (λ n. nat_lt n (length es)) (sym at.1) ∙ at.0 in
    grind (arith, nat_tests)

-- the number of an entry, or that behind all
pub number-or : {E : Type 0} (eq : E → E → Bool) (e : E) (es : List E) → unwrap_or (number_in eq es e) (length es) ≡ place eq e es
number-or eq e es = by (nat_lt (place eq e es) (length es)) refl (prefix_len-le-length (λ x. not (eq e x)) es)
  where
    by : (b : Bool) → nat_lt (place eq e es) (length es) ≡ b → place eq e es ≤ length es → unwrap_or (cond b (Some (place eq e es)) None) (length es) ≡ place eq e es
    by true h most = refl
    by false h most = grind (arith, nat_tests)

module _ {E : Type 0} (eq : E → E → Bool) (laws : IsEquivalence eq) (es : List E) where
  -- entries stand at one place exactly where they are equal
  pub same-place : (x y : E) (fs : List E) → is_in eq x fs ≡ true → is_in eq y fs ≡ true → nat_eq (place eq x fs) (place eq y fs) ≡ eq x y
  same-place x y [] p q = cc
  same-place x y (f ∷ fs) p q = by (eq x f) (eq y f) refl refl p q (same-place x y fs)
    where
      next : (m n : ℕ) (b : Bool) → nat_eq m n ≡ b → nat_eq (1 + m) (1 + n) ≡ b
      next m n true h = grind (arith, nat_tests)
      next m n false h = grind (arith, nat_tests)

      none : (m : ℕ) → nat_eq 0 (1 + m) ≡ false
      none m = grind (arith, nat_tests)

      none-2 : (m : ℕ) → nat_eq (1 + m) 0 ≡ false
      none-2 m = grind (arith, nat_tests)

      by : (a b : Bool) → eq x f ≡ a → eq y f ≡ b → (a || is_in eq x fs) ≡ true → (b || is_in eq y fs) ≡ true
          → (is_in eq x fs ≡ true → is_in eq y fs ≡ true → nat_eq (place eq x fs) (place eq y fs) ≡ eq x y)
          → nat_eq (cond (not a) (1 + place eq x fs) 0) (cond (not b) (1 + place eq y fs) 0) ≡ eq x y
      by true true u v p q k = sym (laws.congr x f y u ∙ laws.symm f y ∙ v)
      by true false u v p q k = none (place eq y fs) ∙ sym (laws.congr x f y u ∙ laws.symm f y ∙ v)
      by false true u v p q k = none-2 (place eq x fs) ∙ sym (laws.symm x y ∙ laws.congr y f x v ∙ laws.symm f x ∙ u)
      by false false u v p q k = next (place eq x fs) (place eq y fs) (eq x y) (k p q)

  is_in-placed : (y : E) (xs : List E) → is_in eq y es ≡ true → all_in eq laws es xs ≡ true → is_in nat_eq (place eq y es) (map (λ e. place eq e es) xs) ≡ is_in eq y xs
  is_in-placed y [] h all = refl
  is_in-placed y (x ∷ xs) h all =
      rw (same-place y x es h (left (is_in eq x es) (all_in eq laws es xs) all), is_in-placed y xs h (right (is_in eq x es) (all_in eq laws es xs) all)) refl

  place-placed : (y : E) (xs : List E) → is_in eq y es ≡ true → all_in eq laws es xs ≡ true → place nat_eq (place eq y es) (map (λ e. place eq e es) xs) ≡ place eq y xs
  place-placed y [] h all = refl
  place-placed y (x ∷ xs) h all =
      rw (same-place y x es h (left (is_in eq x es) (all_in eq laws es xs) all), place-placed y xs h (right (is_in eq x es) (all_in eq laws es xs) all)) refl

  all_in-push : (xs : List E) (y : E) → all_in eq laws es xs ≡ true → is_in eq y es ≡ true → all_in eq laws es (xs ++ y ∷ []) ≡ true
  all_in-push [] y all h = both (is_in eq y es) true h refl
  all_in-push (x ∷ xs) y all h =
      both (is_in eq x es) (all_in eq laws es (xs ++ y ∷ [])) (left (is_in eq x es) (all_in eq laws es xs) all)
      (all_in-push xs y (right (is_in eq x es) (all_in eq laws es xs) all) h)

  all_in-new : (xs : List E) (y : E) → all_in eq laws es xs ≡ true → is_in eq y es ≡ true → all_in eq laws es (with_new eq xs y) ≡ true
  all_in-new xs y all h = by (is_in eq y xs)
    where
      by : (b : Bool) → all_in eq laws es (cond b xs (xs ++ y ∷ [])) ≡ true
      by true = all
      by false = all_in-push xs y all h

  pub all_in-all_new : (xs ys : List E) → all_in eq laws es xs ≡ true → all_in eq laws es ys ≡ true → all_in eq laws es (with_all_new eq xs ys) ≡ true
  all_in-all_new xs [] all h = all
  all_in-all_new xs (y ∷ ys) all h =
      all_in-all_new (with_new eq xs y) ys (all_in-new xs y all (left (is_in eq y es) (all_in eq laws es ys) h)) (right (is_in eq y es) (all_in eq laws es ys) h)

  -- adding by places is adding
  pub placed-all_new : (xs ys : List E) → all_in eq laws es xs ≡ true → all_in eq laws es ys ≡ true
      → with_all_new nat_eq (map (λ e. place eq e es) xs) (map (λ e. place eq e es) ys) ≡ map (λ e. place eq e es) (with_all_new eq xs ys)
  placed-all_new xs [] all h = refl
  placed-all_new xs (y ∷ ys) all h =
      let there = left (is_in eq y es) (all_in eq laws es ys) h in
      ap (λ l. with_all_new nat_eq l (map (λ e. place eq e es) ys)) (one there)
      ∙ placed-all_new (with_new eq xs y) ys (all_in-new xs y all there) (right (is_in eq y es) (all_in eq laws es ys) h)
    where
      by : (b : Bool) → cond b (map (λ e. place eq e es) xs) (map (λ e. place eq e es) xs ++ place eq y es ∷ []) ≡ map (λ e. place eq e es) (cond b xs (xs ++ y ∷ []))
      by true = refl
      by false = sym (map-append (λ e. place eq e es) xs (y ∷ []))

      one : is_in eq y es ≡ true → with_new nat_eq (map (λ e. place eq e es) xs) (place eq y es) ≡ map (λ e. place eq e es) (with_new eq xs y)
      one there = rw (is_in-placed y xs there all) (by (is_in eq y xs))

  -- the handed entries that are found
  handed-placed : (hs : List E) → filter_map (λ e. position (eq e) es) hs ≡ map (λ e. place eq e es) (filter (λ e. is_in eq e es) hs)
  handed-placed [] = refl
  handed-placed (h ∷ hs) = by (number_in eq es h) refl (handed-placed hs)
    where
      open-some : (n : ℕ) → number_in eq es h ≡ Some n → n ≡ place eq h es
      open-some n p = sym (ap (λ o. unwrap_or o (length es)) p) ∙ number-or eq h es

      by : (o : Option ℕ) → number_in eq es h ≡ o → filter_map (λ e. position (eq e) es) hs ≡ map (λ e. place eq e es) (filter (λ e. is_in eq e es) hs)
          → cons_option o (filter_map (λ e. position (eq e) es) hs)
          ≡ map (λ e. place eq e es) (cond (is_in eq h es) (h ∷ filter (λ e. is_in eq e es) hs) (filter (λ e. is_in eq e es) hs))
      by None q k = let out : is_in eq h es ≡ false = sym (numbered eq laws h es) ∙ ap is_some q in rw out k
      by (Some n) q k =
          let there : is_in eq h es ≡ true = sym (numbered eq laws h es) ∙ ap is_some q in
          rw (there, open-some n q) (ap (λ l. place eq h es ∷ l) k)

  kept-in : (hs : List E) → all_in eq laws es (filter (λ e. is_in eq e es) hs) ≡ true
  kept-in [] = refl
  kept-in (h ∷ hs) = by (is_in eq h es) refl (kept-in hs)
    where
      by : (b : Bool) → is_in eq h es ≡ b → all_in eq laws es (filter (λ e. is_in eq e es) hs) ≡ true
          → all_in eq laws es (cond b (h ∷ filter (λ e. is_in eq e es) hs) (filter (λ e. is_in eq e es) hs)) ≡ true
      by true p k = both (is_in eq h es) (all_in eq laws es (filter (λ e. is_in eq e es) hs)) p k
      by false p k = k

  zero-behind : (xs : List E) → map (λ e. 0 + place eq e es) xs ≡ map (λ e. place eq e es) xs
  zero-behind [] = refl
  zero-behind (x ∷ xs) = let e : 0 + place eq x es ≡ place eq x es = omega arith in rw (e, zero-behind xs) refl

  pub range-placed : NoTwoEqual eq es → range_with_len 0 (length es) ≡ map (λ e. place eq e es) es
  range-placed once = sym (without_gaps eq laws 0 es once) ∙ zero-behind es

  pub numbers-placed : (xs ys : List E) → all_in eq laws es xs ≡ true → all_in eq laws es ys ≡ true
      → map (λ p. place nat_eq p (map (λ e. place eq e es) ys)) (map (λ e. place eq e es) xs) ≡ map (λ e. place eq e ys) xs
  numbers-placed [] ys all more = refl
  numbers-placed (x ∷ xs) ys all more =
      rw (place-placed x ys (left (is_in eq x es) (all_in eq laws es xs) all) more, numbers-placed xs ys (right (is_in eq x es) (all_in eq laws es xs) all) more) refl

pub numbers-or : (numbers : List (Option ℕ)) (order ps : List ℕ) → numbers ≡ map (number_in nat_eq order) ps → map (λ n. unwrap_or n (length order)) numbers ≡ map (λ p. place nat_eq p order) ps
numbers-or numbers order ps h = ap (λ ns. map (λ n. unwrap_or n (length order)) ns) h ∙ each ps
  where
    each : (ps : List ℕ) → map (λ n. unwrap_or n (length order)) (map (number_in nat_eq order) ps) ≡ map (λ p. place nat_eq p order) ps
    each [] = refl
    each (p ∷ ps) = rw (number-or nat_eq p order, each ps) refl

pub as-listed : {os ps ns ms : List ℕ} → os ≡ ps → ns ≡ ms → let a : Listed = record { order = os; numbers = ns } in a ≡ record { order = ps; numbers = ms }
as-listed o n = rw (o, n) refl

pub all-among : {E : Type 0} (eq : E → E → Bool) (laws : IsEquivalence eq) (a b xs : List E) → ((e : E) → is_in eq e a ≡ is_in eq e b) → all_in eq laws a xs ≡ all_in eq laws b xs
all-among eq laws a b [] h = refl
all-among eq laws a b (x ∷ xs) h = rw (h x, all-among eq laws a b xs h) refl

not-there : {E : Type 0} (eq : E → E → Bool) (e : E) (es : List E) → is_in eq e es ≡ false → place eq e es ≡ length es
not-there eq e [] out = refl
not-there eq e (x ∷ xs) out = by (eq e x) out (not-there eq e xs)
  where
    by : (b : Bool) → (b || is_in eq e xs) ≡ false → (is_in eq e xs ≡ false → place eq e xs ≡ length xs) → cond (not b) (1 + place eq e xs) 0 ≡ suc (length xs)
    by true h k = cc
    by false h k = ap (λ n. 1 + n) (k h) ∙ omega arith

behind-all : {X : Type 0} (xs : List X) → slice_get xs (length xs) ≡ None
behind-all [] = refl
behind-all (x ∷ xs) = behind-all xs

-- the place of an entry in a list, looked up at its place among others
pub looked-up : {E : Type 0} (eq : E → E → Bool) (laws : IsEquivalence eq) (order : List E) (e : E) (es : List E) → is_in eq e order ≡ is_in eq e es
    → unwrap_or (slice_get (map (λ x. place eq x order) es) (place eq e es)) (length order) ≡ place eq e order
looked-up eq laws order e es same = by (is_in eq e es) refl
  where
    alike : (a b : _) (xs : List _) → eq a b ≡ true → place eq a xs ≡ place eq b xs
    alike a b [] h = refl
    alike a b (x ∷ xs) h = rw (laws.congr a b x h, alike a b xs h) refl

    at : (fs : List _) → is_in eq e fs ≡ true → slice_get (map (λ x. place eq x order) fs) (place eq e fs) ≡ Some (place eq e order)
    at [] there = cc
    at (f ∷ fs) there = of (eq e f) refl there (at fs)
      where
        of : (b : Bool) → eq e f ≡ b → (b || is_in eq e fs) ≡ true → (is_in eq e fs ≡ true → slice_get (map (λ x. place eq x order) fs) (place eq e fs) ≡ Some (place eq e order))
            → slice_get (map (λ x. place eq x order) (f ∷ fs)) (cond (not b) (1 + place eq e fs) 0) ≡ Some (place eq e order)
        of true q there k = ap Some (sym (alike e f order q))
        of false q there k =
            let next : 1 + place eq e fs ≡ suc (place eq e fs) = omega arith in
            rw next (k there)

    by : (b : Bool) → is_in eq e es ≡ b → unwrap_or (slice_get (map (λ x. place eq x order) es) (place eq e es)) (length order) ≡ place eq e order
    by true there = ap (λ o. unwrap_or o (length order)) (at es there)
    by false out =
        ap (λ k. unwrap_or (slice_get (map (λ x. place eq x order) es) k) (length order)) (not-there eq e es out ∙ sym (length-map es (λ x. place eq x order)))
        ∙ ap (λ o. unwrap_or o (length order)) (behind-all (map (λ x. place eq x order) es)) ∙ sym (not-there eq e order (same ∙ out))

-- what was listed, as the entries show it
pub listing-is : {E : Type 0} (eq : E → E → Bool) (laws : IsEquivalence eq) (order : Option (List E)) (es : List E) (l : Listing)
    → l.order.items ≡ with_all_new nat_eq (with_all_new nat_eq [] (filter_map (λ e. position (eq e) es) (unwrap_or order []))) (range_with_len 0 (length es))
    → length l.numbers.items ≡ length es → l.numbers.items ≡ map (number_in nat_eq l.order.items) (range_with_len 0 (length l.numbers.items))
    → ListsAll eq order es (listing_view l)
listing-is {E} eq laws order es l made count sound cited known =
    let kept = filter (λ e. is_in eq e es) (unwrap_or order []) in
    let bib = bibliography_order eq order cited in
    let once : NoTwoEqual eq es = subst (NoTwoEqual eq) (sym known) (NoTwoEqual-distinct eq laws cited) in
    let own : all_in eq laws es es ≡ true =
    sym (all-among eq laws (with_all_new eq [] es) es es (λ e. ap (λ l. is_in eq e l) (all_new_is_distinct eq laws es) ∙ is_in-distinct eq laws e es)) ∙ all_in-added eq laws [] es in
    let from : with_all_new eq (with_all_new eq [] kept) es ≡ bib =
    listed-in-order eq laws order es ∙ ap (λ l. bibliography_order eq order l) known ∙ order-distinct eq laws order cited in
    let first-in : all_in eq laws es (with_all_new eq [] kept) ≡ true = all_in-all_new eq laws es [] kept refl (kept-in eq laws es (unwrap_or order [])) in
    let bib-in : all_in eq laws es bib ≡ true = ap (λ l. all_in eq laws es l) (sym from) ∙ all_in-all_new eq laws es (with_all_new eq [] kept) es first-in own in
    let ordered : l.order.items ≡ map (λ e. place eq e es) bib =
    made ∙ ap (λ l. with_all_new nat_eq (with_all_new nat_eq [] l) (range_with_len 0 (length es))) (handed-placed eq laws es (unwrap_or order []))
    ∙ ap (λ l. with_all_new nat_eq (with_all_new nat_eq [] (map (λ e. place eq e es) kept)) l) (range-placed eq laws es once)
    ∙ ap (λ l. with_all_new nat_eq l (map (λ e. place eq e es) es)) (placed-all_new eq laws es [] kept refl (kept-in eq laws es (unwrap_or order [])))
    ∙ placed-all_new eq laws es (with_all_new eq [] kept) es first-in own ∙ ap (λ l. map (λ e. place eq e es) l) from in
    let range : range_with_len 0 (length l.numbers.items) ≡ map (λ e. place eq e es) es = ap (λ n. range_with_len 0 n) count ∙ range-placed eq laws es once in
    let numbered : (listing_view l).numbers ≡ map (λ e. place eq e bib) es =
    (numbers-or l.numbers.items l.order.items (range_with_len 0 (length l.numbers.items)) sound ∙ ap (λ ps. map (λ p. place nat_eq p l.order.items) ps) range
    ∙ ap (λ os. map (λ p. place nat_eq p os) (map (λ e. place eq e es) es)) ordered ∙ numbers-placed eq laws es es bib own bib-in) in
    let same : (e : E) → is_in eq e bib ≡ is_in eq e es = λ e. (holds_each_once eq laws order cited).same e ∙ sym (ap (λ l. is_in eq e l) known ∙ is_in-distinct eq laws e cited) in
    record {
      listed = as-listed ordered numbered;
      same = same;
      count = length-bibliography_order eq laws order cited ∙ sym (ap length known);
      numbered = λ e.
          ap (λ ns. unwrap_or (slice_get ns (place eq e es)) (length l.order.items)) numbered ∙ ap (λ n. unwrap_or (slice_get (map (λ x. place eq x bib) es) (place eq e es)) n)
          (ap length ordered ∙ length-map bib (λ x. place eq x es)) ∙ looked-up eq laws bib e es (same e);
    }

-- one more of the handed entries
pub handed-more : {E X : Type 0} (eq : E → E → Bool) (now : X → E) (es : List E) (xs : List X) (k : ℕ) (x : X) → k < length xs → x ≡ get_or xs k x
    → (base : List ℕ) {os ps : List ℕ} → os ≡ with_all_new nat_eq base (filter_map (λ e. position (eq e) es) (map now (take k xs)))
    → ps ≡ option_map_or (with_new nat_eq os) (position (eq (now x)) es) os
    → ps ≡ with_all_new nat_eq base (filter_map (λ e. position (eq e) es) (map now (take (k + 1) xs)))
handed-more eq now es xs k x within here base {os} {ps} was one =
    one ∙ by (position (eq (now x)) es)
    ∙ ap (λ l. with_all_new nat_eq l (cons_option (position (eq (now x)) es) [])) was
    ∙ sym (fold-append (with_new nat_eq) base (filter_map (λ e. position (eq e) es) (map now (take k xs))) (cons_option (position (eq (now x)) es) []))
    ∙ ap (λ l. with_all_new nat_eq base l)
    (sym (filter_map-append (λ e. position (eq e) es) (map now (take k xs)) (now x ∷ [])) ∙ ap (λ l. filter_map (λ e. position (eq e) es) l) (sym (grown xs k x within here now)))
  where
    by : (o : Option ℕ) → option_map_or (with_new nat_eq os) o os ≡ with_all_new nat_eq os (cons_option o [])
    by None = refl
    by (Some n) = refl
