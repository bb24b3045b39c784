-- Stretches of linked members, by neighbours.
use Rattle.std.proofs.Common.{◌≡◌, ◌⊎◌, inl, inr, ℕ, zero, suc, ◌+◌, ◌<◌, ◌≤◌, Bool, true, false, not, ◌&&◌, nat_le, Some, None, Option, List, [], ◌∷◌, length, get_or, refl, ap, sym, subst, ◌∙◌, true≢false, arith, add-one}
use Rattle.std.specs.Prelude.{slice_get}
use Rattle.std.specs.List.{list_all}
use Rattle.std.specs.Option.{option_map_or}
use Rattle.std.proofs.lemmas.Bool.{and_parts, and_from}
use Rattle.std.proofs.lemmas.Option.{slice_get-get_or, slice_get_past}
use Rattle.list_lemmas.specs.Places.{places}
use Rattle.mentions_ranges.specs.Links.{moved, unlinked}
use Rattle.mentions_ranges.specs.Stretches.{both, ends_long, fits_at, is_chain, is_inner, is_later, linked_at}
use Rattle.mentions_ranges.specs.declared.around.Around.{Around}
use Rattle.list_lemmas.proofs.Tests.{each, le-true, of-each, true-le}
use Rattle.list_lemmas.proofs.Wholes.{Chain, IsOfChains, before, ends-three, passes, reaches}

abbrev pub IsSound : {X : Type 0} → (X → Bool) → (X → X → Bool) → Type 0
IsSound {X = X} fits link = (x y : X) → link x y ≡ true → (fits x ≡ true) × (fits y ≡ true)

module _ {X : Type 0} (fits : X → Bool) (link : X → X → Bool) where
  linked-parts : IsSound fits link → (o p : Option X) → both link o p ≡ true → (option_map_or fits o false ≡ true) × (option_map_or fits p false ≡ true)
  linked-parts sound None None h = absurd (true≢false (sym h))
  linked-parts sound None (Some y) h = absurd (true≢false (sym h))
  linked-parts sound (Some x) None h = absurd (true≢false (sym h))
  linked-parts sound (Some x) (Some y) h = sound x y h

  fit-within : (xs : List X) (k : ℕ) → fits_at fits xs k ≡ true → k < length xs
  fit-within [] k h = absurd (true≢false (sym h))
  fit-within (x ∷ xs) zero h = omega arith
  fit-within (x ∷ xs) (suc k) h = let w = fit-within xs k h in omega arith

  module _ (xs : List X) where
    abbrev fit : ℕ → Bool
    fit = fits_at fits xs

    -- k and the next are linked
    abbrev pub goes_on : ℕ → Bool
    goes_on k = both link (slice_get xs k) (slice_get xs (suc k))

    pub goes-on : (k : ℕ) → linked_at link xs k ≡ goes_on k
    goes-on k = ap (λ j. both link (slice_get xs k) (slice_get xs j)) (add-one k)

    on-from : IsSound fits link → (k : ℕ) → goes_on k ≡ true → fit k ≡ true
    on-from sound k h = (linked-parts sound (slice_get xs k) (slice_get xs (suc k)) h).0

    on-to : IsSound fits link → (k : ℕ) → goes_on k ≡ true → fit (suc k) ≡ true
    on-to sound k h = (linked-parts sound (slice_get xs k) (slice_get xs (suc k)) h).1

    all-fit : IsSound fits link → (a b k : ℕ) → Chain fit goes_on a b → a ≤ k → k < b + 1 → fit k ≡ true
    all-fit sound a b zero c u v = let e : zero ≡ a = omega arith in ap fit e ∙ c.start
    all-fit sound a b (suc k) c u v = elim (at u) [ inl e ↦ ap fit e ∙ c.start | inr w ↦ on-to sound k (c.steps k w (omega arith)) ]
      where
        at : a ≤ suc k → (suc k ≡ a) ⊎ (a ≤ k)
        at h = grind arith

    chains : IsSound fits link → IsOfChains (is_chain fits link xs) fit goes_on (length xs)
    chains sound = record { opens = opens; closes = closes; here = on-from sound; there = on-to sound; within = fit-within xs }
      where
        opens : (a b : ℕ) → is_chain fits link xs a b ≡ true → Chain fit goes_on a b
        opens a b h =
            let p = and_parts (nat_le a b && list_all fit (places a (b + 1))) (list_all (linked_at link xs) (places a b)) h in
            let q = and_parts (nat_le a b) (list_all fit (places a (b + 1))) p.0 in
            let o = true-le a b q.0 in
            record {
              order = o;
              start = each fit a (b + 1) a q.1 (omega arith) (omega arith);
              steps = λ k u v. sym (goes-on k) ∙ each (linked_at link xs) a b k p.1 u v;
            }

        closes : (a b : ℕ) → Chain fit goes_on a b → is_chain fits link xs a b ≡ true
        closes a b c =
            and_from _ _
            (and_from _ _ (le-true a b c.order) (of-each fit a (b + 1) (λ k u v. all-fit sound a b k c u v)))
            (of-each (linked_at link xs) a b (λ k u v. goes-on k ∙ c.steps k u v))

    -- whether the place before is linked to this one, and the one before that to it
    abbrev pub came_here : ℕ → Bool
    came_here = before goes_on false

    abbrev pub came_before : ℕ → Bool
    came_before = before came_here false

    pub later : IsSound fits link → (k : ℕ) → is_later fits link xs k ≡ came_here k
    later sound = reaches (chains sound)

    pub inner : IsSound fits link → (k : ℕ) → is_inner fits link xs k ≡ came_here k && goes_on k
    inner sound = passes (chains sound)

    pub ends : IsSound fits link → (k : ℕ) → ends_long fits link xs k ≡ came_before k && came_here k && not (goes_on k)
    ends sound = ends-three (chains sound)

    -- what the code knows behind the place before k, and at k
    pub record IsUpTo (k : ℕ) (a : Around) : Type 0 where
      pub here : a.here ≡ came_before k
      pub behind : a.behind ≡ came_here k

    pub record IsAt (k : ℕ) (a : Around) : Type 0 where
      pub before : a.before ≡ came_before k
      pub here : a.here ≡ came_here k
      pub behind : a.behind ≡ goes_on k

    pub from-first : IsUpTo 0 unlinked
    from-first = record { here = refl; behind = refl }

    pub moved-here : (k : ℕ) (a : Around) (b : Bool) → IsUpTo k a → b ≡ linked_at link xs k → IsAt k (moved a b)
    moved-here k a b u e = record { before = u.here; here = u.behind; behind = e ∙ goes-on k }

    pub on-to-next : (k : ℕ) (a : Around) → IsAt k a → IsUpTo (k + 1) a
    on-to-next k a u = subst (λ j. IsUpTo j a) (sym (add-one k)) (record { here = u.here; behind = u.behind })

    pub later-next : IsSound fits link → (k : ℕ) (b : Bool) → b ≡ linked_at link xs k → b ≡ is_later fits link xs (k + 1)
    later-next sound k b e = e ∙ goes-on k ∙ ap came_here (sym (add-one k)) ∙ sym (later sound (k + 1))

-- the place and the one behind it
module _ {X : Type 0} (link : X → X → Bool) (xs : List X) (k : ℕ) where
  pub linked-within : (d e : X) → k + 1 < length xs → linked_at link xs k ≡ link (get_or xs k d) (get_or xs (k + 1) e)
  linked-within d e h =
      let w : k < length xs = omega arith in
      λ i. both link (slice_get-get_or xs k d w i) (slice_get-get_or xs (k + 1) e h i)

  pub linked-past : length xs ≤ k + 1 → linked_at link xs k ≡ false
  linked-past h = ap (both link (slice_get xs k)) (slice_get_past xs (k + 1) h) ∙ by (slice_get xs k)
    where
      by : (o : Option X) → both link o None ≡ false
      by None = refl
      by (Some x) = refl
