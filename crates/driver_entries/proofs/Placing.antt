-- The places of the entries of cites, as the entries are gathered.
use Rattle.std.proofs.Common.{◌≡◌, ℕ, ◌+◌, ◌<◌, Bool, true, false, ◌&&◌, List, [], ◌∷◌, ◌++◌, length, map, take, get_or, refl, ap, sym, ◌∙◌, append-nil}
use Rattle.std.specs.Cmp.{IsEquivalence}
use Rattle.std.specs.List.{list_all}
use Rattle.std.proofs.lemmas.Grind.{flat_map-append}
use Rattle.std.proofs.lemmas.List.{map-append, take_more}
use Rattle.std.proofs.lemmas.List.Sums.{fold-append, fold_push}
use Rattle.driver_entries.specs.Entries.{is_in, place, with_all_new, with_new}
use Rattle.driver_entries.specs.StandsAt.{StandsAt}
use Rattle.driver_entries.specs.Table.{places_in}
use Rattle.driver_entries.proofs.Placed.{own, stays}
use Rattle.driver_passes.specs.Request.{RequestedCite, Request, cited, entries_of}

pub both : (a b : Bool) → a ≡ true → b ≡ true → (a && b) ≡ true
both true true p q = refl
both true false p q = q
both false b p q = p

pub left : (a b : Bool) → (a && b) ≡ true → a ≡ true
left true b h = refl
left false b h = h

pub right : (a b : Bool) → (a && b) ≡ true → b ≡ true
right true b h = h
right false b h = cc

module _ {X : Type 0} (xs : List X) (k : ℕ) (x : X) (within : k < length xs) (here : x ≡ get_or xs k x) where
  pub grown : {B : Type 0} (view : X → B) → map view (take (k + 1) xs) ≡ map view (take k xs) ++ view x ∷ []
  grown view =
      ap (λ l. map view l) (take_more xs k x within ∙ ap (λ y. take k xs ++ y ∷ []) (sym here)) ∙ map-append view (take k xs) (x ∷ [])

module _ {E : Type 0} (eq : E → E → Bool) (laws : IsEquivalence eq) where
  -- all of xs are among es
  abbrev pub all_in : List E → List E → Bool
  all_in es xs = list_all (λ x. is_in eq x es) xs

  all_in-later : (es fs xs : List E) → all_in es xs ≡ true → all_in (with_all_new eq es fs) xs ≡ true
  all_in-later es fs [] h = refl
  all_in-later es fs (x ∷ xs) h =
      both (is_in eq x (with_all_new eq es fs)) (all_in (with_all_new eq es fs) xs)
      (stays eq laws es fs x (place eq x es) (record { listed = left (is_in eq x es) (all_in es xs) h; at = refl })).listed
      (all_in-later es fs xs (right (is_in eq x es) (all_in es xs) h))

  pub all_in-added : (es xs : List E) → all_in (with_all_new eq es xs) xs ≡ true
  all_in-added es [] = refl
  all_in-added es (x ∷ xs) =
      both (is_in eq x (with_all_new eq (with_new eq es x) xs)) (all_in (with_all_new eq (with_new eq es x) xs) xs)
      (stays eq laws (with_new eq es x) xs x (place eq x es) (own eq laws x es)).listed
      (all_in-added (with_new eq es x) xs)

  placed-later : (es fs xs : List E) → all_in es xs ≡ true → map (λ e. place eq e (with_all_new eq es fs)) xs ≡ map (λ e. place eq e es) xs
  placed-later es fs [] h = refl
  placed-later es fs (x ∷ xs) h =
      let one : place eq x (with_all_new eq es fs) ≡ place eq x es =
      sym (stays eq laws es fs x (place eq x es) (record { listed = left (is_in eq x es) (all_in es xs) h; at = refl })).at in
      rw (one, placed-later es fs xs (right (is_in eq x es) (all_in es xs) h)) refl

  pub all_in-front : (es xs ys : List E) → all_in es (xs ++ ys) ≡ true → all_in es xs ≡ true
  all_in-front es [] ys h = refl
  all_in-front es (x ∷ xs) ys h =
      both (is_in eq x es) (all_in es xs) (left (is_in eq x es) (all_in es (xs ++ ys)) h) (all_in-front es xs ys (right (is_in eq x es) (all_in es (xs ++ ys)) h))

  pub all_in-behind : (es xs ys : List E) → all_in es (xs ++ ys) ≡ true → all_in es ys ≡ true
  all_in-behind es [] ys h = h
  all_in-behind es (x ∷ xs) ys h = all_in-behind es xs ys (right (is_in eq x es) (all_in es (xs ++ ys)) h)

  module _ {P : Type 0} where
    rows-later : (es fs : List E) (rs : List (Request E P)) → all_in es (cited rs) ≡ true
        → map (λ r. places_in eq (with_all_new eq es fs) r.cites) rs ≡ map (λ r. places_in eq es r.cites) rs
    rows-later es fs [] h = refl
    rows-later es fs (r ∷ rs) h =
        let one : places_in eq (with_all_new eq es fs) r.cites ≡ places_in eq es r.cites =
        placed-later es fs (entries_of r.cites) (all_in-front es (entries_of r.cites) (cited rs) h) in
        rw (one, rows-later es fs rs (all_in-behind es (entries_of r.cites) (cited rs) h)) refl

    module _ {X : Type 0} (xs : List X) (k : ℕ) (x : X) (within : k < length xs) (here : x ≡ get_or xs k x) where
      -- one more cite is placed
      pub items-more : (view : X → RequestedCite E P) (first : List E) {es fs : List E} {places : List ℕ} {p : ℕ}
          → es ≡ with_all_new eq first (entries_of (map view (take k xs)))
          → places ≡ places_in eq es (map view (take k xs))
          → fs ≡ with_new eq es (view x).entry
          → StandsAt eq fs (view x).entry p
          → (fs ≡ with_all_new eq first (entries_of (map view (take (k + 1) xs))))
          × (places ++ p ∷ [] ≡ places_in eq fs (map view (take (k + 1) xs)))
      items-more view first {es} {fs} {places} {p} added placed more stands =
          let cs = map view (take k xs) in
          let e = (view x).entry in
          let among : all_in es (entries_of cs) ≡ true =
          ap (λ l. all_in l (entries_of cs)) added ∙ all_in-added first (entries_of cs) in
          let before : places ≡ places_in eq fs cs =
          placed ∙ sym (placed-later es (e ∷ []) (entries_of cs) among) ∙ ap (λ l. places_in eq l cs) (sym more) in
          let all : entries_of cs ++ e ∷ [] ≡ entries_of (map view (take (k + 1) xs)) =
          sym (map-append (λ c. c.entry) cs (view x ∷ [])) ∙ ap (λ l. entries_of l) (sym (grown xs k x within here view)) in (
            more ∙ ap (λ l. with_new eq l e) added ∙ sym (fold_push (with_new eq) first (entries_of cs) e)
                ∙ ap (λ l. with_all_new eq first l) all,
            ap (λ l. l ++ p ∷ []) before ∙ ap (λ n. places_in eq fs cs ++ n ∷ []) stands.at
                ∙ sym (map-append (λ y. place eq y fs) (entries_of cs) (e ∷ []))
                ∙ ap (λ l. map (λ y. place eq y fs) l) all,
          )

      -- one more request is placed
      pub requests-more : (view : X → Request E P) (first : List E) {es fs : List E} {places : List (List ℕ)} {row : List ℕ}
          → es ≡ with_all_new eq first (cited (map view (take k xs)))
          → places ≡ map (λ r. places_in eq es r.cites) (map view (take k xs))
          → fs ≡ with_all_new eq es (entries_of (view x).cites)
          → row ≡ places_in eq fs (view x).cites
          → (fs ≡ with_all_new eq first (cited (map view (take (k + 1) xs))))
          × (places ++ row ∷ [] ≡ map (λ r. places_in eq fs r.cites) (map view (take (k + 1) xs)))
      requests-more view first {es} {fs} {places} {row} added placed more row-is =
          let us = map view (take k xs) in
          let cs = (view x).cites in
          let among : all_in es (cited us) ≡ true = ap (λ l. all_in l (cited us)) added ∙ all_in-added first (cited us) in
          let before : places ≡ map (λ r. places_in eq fs r.cites) us =
          placed ∙ sym (rows-later es (entries_of cs) us among) ∙ ap (λ l. map (λ r. places_in eq l r.cites) us) (sym more) in
          let flat : cited (map view (take (k + 1) xs)) ≡ cited us ++ entries_of cs =
          ap (λ l. cited l) (grown xs k x within here view) ∙ flat_map-append (λ r. entries_of r.cites) us (view x ∷ [])
          ∙ ap (λ l. cited us ++ l) (append-nil (entries_of cs)) in (
            more ∙ ap (λ l. with_all_new eq l (entries_of cs)) added
                ∙ sym (fold-append (with_new eq) first (cited us) (entries_of cs))
                ∙ ap (λ l. with_all_new eq first l) (sym flat),
            ap (λ l. l ++ row ∷ []) before ∙ ap (λ n. map (λ r. places_in eq fs r.cites) us ++ n ∷ []) row-is
                ∙ sym (map-append (λ r. places_in eq fs r.cites) us (view x ∷ []))
                ∙ ap (λ l. map (λ r. places_in eq fs r.cites) l) (sym (grown xs k x within here view)),
          )
