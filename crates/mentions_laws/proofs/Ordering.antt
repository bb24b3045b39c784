-- Blocks stand in the order of their first cites.
use Rattle.std.proofs.Common.{◌≡◌, ℕ, zero, suc, ◌+◌, ◌<◌, ◌≤◌, Bool, true, false, cond, Option, Some, None, List, [], ◌∷◌, ◌++◌, filter, flat_map, length, map, refl, ap, sym, subst, ◌∙◌, true≢false, arith}
use Rattle.std.specs.Prelude.{if◌then◌else◌, nat_eq, option_map, slice_get}
use Rattle.std.specs.List.{cons_option, enumerate_from, range_with_len}
use Rattle.std.proofs.lemmas.Bool.{eqb-true}
use Rattle.std.proofs.lemmas.Option.{none-some, same_Some}
use Rattle.mentions_blocks.specs.Blocks.{block, block_order, placed_cite, placed_cites}
use Rattle.mentions_blocks.specs.declared.blocks.GroupedCite.{GroupedCite}
use Rattle.mentions_blocks.specs.declared.blocks.PlacedCite.{PlacedCite}
use Rattle.mentions_arranging.specs.Order.{cites_in_order, final_cites, grouped_cite, handed_order, is_grouped, with_place}
use Rattle.mentions_arranging.specs.declared.request.CiteStyle.{CiteStyle}
use Rattle.mentions_arranging.specs.declared.request.FinalCite.{FinalCite}
use Rattle.mentions_arranging.specs.declared.request.RequestedCite.{RequestedCite}
use Rattle.mentions_laws.specs.Order.{AreInBlockOrder}
use Rattle.mentions_ranges.proofs.Placed.{at-place}

-- what holds of each member
abbrev Each : {X : Type 0} → (X → Type 0) → List X → Type 0
Each Q [] = Unit {0}
Each Q (x ∷ xs) = Q x × Each Q xs

each-at : {X : Type 0} (Q : X → Type 0) (xs : List X) (k : ℕ) (x : X) → Each Q xs → slice_get xs k ≡ Some x → Q x
each-at Q [] k x h e = absurd (none-some x e)
each-at Q (y ∷ xs) zero x h e = subst Q (same_Some y x e) h.0
each-at Q (y ∷ xs) (suc k) x h e = each-at Q xs k x h.1 e

each-append : {X : Type 0} (Q : X → Type 0) (xs ys : List X) → Each Q xs → Each Q ys → Each Q (xs ++ ys)
each-append Q [] ys h e = e
each-append Q (x ∷ xs) ys h e = (h.0, each-append Q xs ys h.1 e)

each-filter : {X : Type 0} (Q : X → Type 0) (test : X → Bool) (xs : List X) → Each Q xs → Each Q (filter test xs)
each-filter Q test [] h = tt
each-filter Q test (x ∷ xs) h = by (test x) (each-filter Q test xs h.1)
  where
    by : (b : Bool) → Each Q (filter test xs) → Each Q (cond b (x ∷ filter test xs) (filter test xs))
    by true more = (h.0, more)
    by false more = more

passes : {X : Type 0} (test : X → Bool) (xs : List X) → Each (λ x. test x ≡ true) (filter test xs)
passes test [] = tt
passes test (x ∷ xs) = by (test x) refl (passes test xs)
  where
    by : (b : Bool) → test x ≡ b → Each (λ x. test x ≡ true) (filter test xs) → Each (λ x. test x ≡ true) (cond b (x ∷ filter test xs) (filter test xs))
    by true e more = (e, more)
    by false e more = more

-- blocks rise from here on
abbrev RiseFrom : ℕ → List PlacedCite → Type 0
RiseFrom n [] = Unit {0}
RiseFrom n (p ∷ ps) = (n ≤ p.block) × RiseFrom p.block ps

lower : (m n : ℕ) (ps : List PlacedCite) → m ≤ n → RiseFrom n ps → RiseFrom m ps
lower m n [] le h = tt
lower m n (p ∷ ps) le h = (let l = h.0 in omega (arith, l, le), h.1)

above : (n : ℕ) (ps : List PlacedCite) → RiseFrom n ps → Each (λ p. n ≤ p.block) ps
above n [] h = tt
above n (p ∷ ps) h = (h.0, above n ps (lower n p.block ps h.0 h.1))

rise-at : (n : ℕ) (ps : List PlacedCite) → RiseFrom n ps → (i j : ℕ) (p q : PlacedCite) → i < j → slice_get ps i ≡ Some p → slice_get ps j ≡ Some q → p.block ≤ q.block
rise-at n [] h i j p q lt ei ej = absurd (none-some p ei)
rise-at n (o ∷ ps) h i zero p q lt ei ej = absurd (omega (arith, lt))
rise-at n (o ∷ ps) h zero (suc j) p q lt ei ej =
    subst (λ m. m ≤ q.block) (ap (λ (x : PlacedCite). x.block) (same_Some o p ei)) (each-at (λ x. o.block ≤ x.block) ps j q (above o.block ps h.1) ej)
rise-at n (o ∷ ps) h (suc i) (suc j) p q lt ei ej = rise-at o.block ps h.1 i j p q (omega (arith, lt)) ei ej

module _ (cites : List GroupedCite) where
  joined : (k : ℕ) (xs ys : List PlacedCite) → Each (λ p. nat_eq k p.block ≡ true) xs → RiseFrom k ys → RiseFrom k (xs ++ ys)
  joined k [] ys h r = r
  joined k (x ∷ xs) ys h r =
      let same : k ≡ x.block = eqb-true k x.block h.0 in
      (omega (arith, same), subst (λ m. RiseFrom m (xs ++ ys)) same (joined k xs ys h.1 r))

  blocks-rise : (a n : ℕ) → RiseFrom a (flat_map (block cites) (range_with_len a n))
  blocks-rise a zero = tt
  blocks-rise a (suc n) =
      joined a (block cites a) (flat_map (block cites) (range_with_len (a + 1) n)) (passes (λ p. nat_eq a p.block) (placed_cites cites))
      (lower a (a + 1) _ (omega arith) (blocks-rise (a + 1) n))

  -- each stands in the list of all at its place
  abbrev Stands : PlacedCite → Type 0
  Stands p = slice_get (placed_cites cites) p.place ≡ Some p

  stand-from : (all xs : List GroupedCite) (a : ℕ) → ((k : ℕ) → slice_get all (a + k) ≡ slice_get xs k)
      → Each (λ p. slice_get (map (placed_cite cites) (enumerate_from 0 all)) p.place ≡ Some p) (map (placed_cite cites) (enumerate_from a xs))
  stand-from all [] a h = tt
  stand-from all (x ∷ xs) a h = (
    (let here : a ≡ a + 0 = omega arith in at-place (placed_cite cites) all a ∙ ap (λ j. option_map (λ x. placed_cite cites (a, x)) (slice_get all j)) here ∙ ap (option_map (λ x. placed_cite cites (a, x))) (h 0)),
    stand-from all xs (a + 1) (λ k. let at : a + 1 + k ≡ a + suc k = omega arith in ap (slice_get all) at ∙ h (suc k)),
  )

  all-stand : Each Stands (placed_cites cites)
  all-stand = stand-from cites cites 0 (λ k. let at : 0 + k ≡ k = omega arith in ap (slice_get cites) at)

  blocks-stand : (ks : List ℕ) → Each Stands (flat_map (block cites) ks)
  blocks-stand [] = tt
  blocks-stand (k ∷ ks) =
      each-append Stands (block cites k) (flat_map (block cites) ks) (each-filter Stands (λ p. nat_eq k p.block) (placed_cites cites) all-stand) (blocks-stand ks)

module _ {L : Type 0} where
  abbrev pub placed_of : FinalCite L → PlacedCite
  placed_of f = f.placed

  found-rise : (cites : List (RequestedCite L)) (n : ℕ) (order : List PlacedCite) → RiseFrom n order → RiseFrom n (map placed_of (cites_in_order cites order))
  found-rise cites n [] h = tt
  found-rise cites n (p ∷ order) h = by (slice_get cites p.place) (found-rise cites p.block order h.1)
    where
      by : (o : Option (RequestedCite L)) → RiseFrom p.block (map placed_of (cites_in_order cites order)) → RiseFrom n (map placed_of (cons_option (option_map (with_place p) o) (cites_in_order cites order)))
      by None more = lower n p.block _ h.0 more
      by (Some c) more = (h.0, more)

  found-each : (Q : PlacedCite → Type 0) (cites : List (RequestedCite L)) (order : List PlacedCite) → Each Q order → Each Q (map placed_of (cites_in_order cites order))
  found-each Q cites [] h = tt
  found-each Q cites (p ∷ order) h = by (slice_get cites p.place) (found-each Q cites order h.1)
    where
      by : (o : Option (RequestedCite L)) → Each Q (map placed_of (cites_in_order cites order)) → Each Q (map placed_of (cons_option (option_map (with_place p) o) (cites_in_order cites order)))
      by None more = more
      by (Some c) more = (h.0, more)

  pub in-block-order : (style : CiteStyle) (cites : List (RequestedCite L)) → AreInBlockOrder (is_grouped style) (map grouped_cite cites) (map placed_of (final_cites style cites))
  in-block-order style cites = by (is_grouped style)
    where
      grouped : List GroupedCite
      grouped = map grouped_cite cites

      by : (b : Bool) → AreInBlockOrder b (map grouped_cite cites) (map placed_of (cites_in_order cites (if b then block_order (map grouped_cite cites) else handed_order (length cites))))
      by false = record { own_blocks = λ e. absurd (true≢false (sym e)); by_first_cites = λ e. absurd (true≢false (sym e)) }
      by true = record {
        own_blocks = λ e k p h. each-at (Stands (map grouped_cite cites)) (map placed_of (cites_in_order cites (block_order (map grouped_cite cites)))) k p
            (found-each (Stands (map grouped_cite cites)) cites (block_order (map grouped_cite cites)) (blocks-stand (map grouped_cite cites) (range_with_len 0 (length (map grouped_cite cites))))) h;
        by_first_cites = λ e. rise-at 0 (map placed_of (cites_in_order cites (block_order (map grouped_cite cites))))
            (found-rise cites 0 (block_order (map grouped_cite cites)) (blocks-rise (map grouped_cite cites) 0 (length (map grouped_cite cites))));
      }
