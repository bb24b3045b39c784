-- Cites behind ranges of numbers, one more cite.
use Rattle.std.proofs.Common.{◌≡◌, ◌⊎◌, inl, inr, ℕ, ◌+◌, ◌<◌, Bool, true, false, not, ◌&&◌, ◌||◌, Some, None, Option, List, [], ◌∷◌, ◌++◌, cond, length, map, take, get_or, refl, ap, sym, ◌∙◌, true≢false, arith}
use Rattle.std.specs.Prelude.{is_some, slice_get}
use Rattle.std.specs.List.{enumerate_from, list_all}
use Rattle.std.specs.Option.{option_map_or}
use Rattle.std.proofs.lemmas.Bool.{and_parts, and_from}
use Rattle.std.proofs.lemmas.List.{get_or_default}
use Rattle.std.proofs.lemmas.Option.{slice_get-get_or}
use Rattle.list_lemmas.specs.Places.{places}
use Rattle.mentions_ranges.specs.Links.{ends_long as ends_around, moved, number_made}
use Rattle.mentions_ranges.specs.NumberRanges.{ends_range, follows_range, in_range, is_next, rises, shows_number}
use Rattle.mentions_ranges.specs.Stretches.{fits_at, linked_at}
use Rattle.mentions_ranges.specs.declared.around.Around.{Around}
use Rattle.mentions_ranges.specs.declared.collapsed.CollapsedCite.{CollapsedCite}
use Rattle.mentions_ranges.specs.declared.collapsed.Delimiter.{Delimiter}
use Rattle.mentions_ranges.specs.declared.numbers.NumberedCite.{NumberedCite}
use Rattle.mentions_ranges.proofs.Linked.{IsAt, IsSound, IsUpTo, ends, inner, moved-here, on-to-next}
use Rattle.list_lemmas.proofs.Stepping.{made-next}
use Rattle.list_lemmas.proofs.Tests.{each, of-each, of-some, same_test, some}

next-parts : (m n : Option ℕ) → is_next m n ≡ true → (is_some m ≡ true) × (is_some n ≡ true)
next-parts None None h = absurd (true≢false (sym h))
next-parts None (Some n) h = absurd (true≢false (sym h))
next-parts (Some m) None h = absurd (true≢false (sym h))
next-parts (Some m) (Some n) h = (refl, refl)

pub rises-sound : IsSound shows_number rises
rises-sound c d h = next-parts c.number d.number h

or-left : (a b : Bool) → a ≡ true → a || b ≡ true
or-left true b h = refl
or-left false b h = absurd (true≢false (sym h))

or-right : (a b : Bool) → b ≡ true → a || b ≡ true
or-right true b h = refl
or-right false b h = h

or-cases : (a b : Bool) → a || b ≡ true → (a ≡ true) ⊎ (b ≡ true)
or-cases true b h = inl refl
or-cases false b h = inr h

at-or-below : (e k : ℕ) → e < k + 1 → (e ≡ k) ⊎ (e < k)
at-or-below e k h = grind arith

module _ (cites : List NumberedCite) (k : ℕ) where
  abbrev hidden_at : ℕ → Bool
  hidden_at = fits_at (λ c. c.hidden) cites

  abbrev follows_from : ℕ → ℕ → Bool
  follows_from k e = ends_range cites e && list_all hidden_at (places (e + 1) k)

  -- the next cite follows a range where one ends here, or where this one is hidden and follows one
  follows-more : follows_range cites (k + 1) ≡ ends_range cites k || (follows_range cites k && hidden_at k)
  follows-more = same_test _ _ there back
    where
      there : follows_range cites (k + 1) ≡ true → ends_range cites k || (follows_range cites k && hidden_at k) ≡ true
      there h =
          let e = some (follows_from (k + 1)) 0 (k + 1) h in
          let p = and_parts (ends_range cites e.0) (list_all hidden_at (places (e.0 + 1) (k + 1))) e.3 in
          elim (at-or-below e.0 k e.2) [
            | inl same ↦ or-left _ _ (ap (ends_range cites) (sym same) ∙ p.0)
            | inr less ↦ or-right (ends_range cites k) _
                (and_from _ _
                (of-some (follows_from k) 0 k e.0 (omega arith) less
                (and_from _ _ p.0 (of-each hidden_at (e.0 + 1) k (λ j u v. each hidden_at (e.0 + 1) (k + 1) j p.1 u (omega arith)))))
                (each hidden_at (e.0 + 1) (k + 1) k p.1 (omega arith) (omega arith)))
          ]

      back : ends_range cites k || (follows_range cites k && hidden_at k) ≡ true → follows_range cites (k + 1) ≡ true
      back h = elim (or-cases (ends_range cites k) _ h) [
        | inl now ↦ of-some (follows_from (k + 1)) 0 (k + 1) k (omega arith) (omega arith)
            (and_from _ _ now (of-each hidden_at (k + 1) (k + 1) (λ j u v. absurd (omega arith))))
        | inr both ↦
            let p = and_parts (follows_range cites k) (hidden_at k) both in
            let e = some (follows_from k) 0 k p.0 in
            let q = and_parts (ends_range cites e.0) (list_all hidden_at (places (e.0 + 1) k)) e.3 in
            of-some (follows_from (k + 1)) 0 (k + 1) e.0 (omega arith) (omega arith)
            (and_from _ _ q.0
            (of-each hidden_at (e.0 + 1) (k + 1) (λ j u v. elim (at-or-below j k v) [
              | inl same ↦ ap hidden_at same ∙ p.1
              | inr less ↦ each hidden_at (e.0 + 1) k j q.1 u less
            ])))
      ]

  module _ (c : NumberedCite) (at : slice_get cites k ≡ Some c) (a : Around) (is : IsAt shows_number rises cites k a) where
    ends-here : ends_around a ≡ ends_range cites k
    ends-here = (λ i. is.before i && is.here i && not (is.behind i)) ∙ sym (ends shows_number rises cites rises-sound k)

    pub follows-next : (follows : Bool) → follows ≡ follows_range cites k → ends_around a || (follows && c.hidden) ≡ follows_range cites (k + 1)
    follows-next follows so_far =
        (λ i. ends-here i || (so_far i && ap (λ o. option_map_or (λ c. c.hidden) o false) (sym at) i))
        ∙ sym follows-more

    pub made-here : (follows : Bool) → follows ≡ follows_range cites k → number_made a follows c.hidden ≡ in_range cites k c
    made-here follows so_far = λ i. record {
      is_inner = ((λ j. is.here j && is.behind j) ∙ sym (inner shows_number rises cites rises-sound k)) i;
      is_cut = false;
      delimiter = cond (ends-here i) Delimiter.Dash (cond (so_far i && not c.hidden) Delimiter.AfterCollapse Delimiter.Usual);
    }

-- the walk, one more cite
module _ (cites : List NumberedCite) (k : ℕ) (a b : Around) (up : Bool) (so_far : IsUpTo shows_number rises cites k a) (is_moved : b ≡ moved a up) (goes_up : up ≡ linked_at rises cites k) where
  at-next : IsAt shows_number rises cites k b
  at-next =
      let at = moved-here shows_number rises cites k a up so_far goes_up in
      record {
        before = ap (λ x. x.before) is_moved ∙ at.before;
        here = ap (λ x. x.here) is_moved ∙ at.here;
        behind = ap (λ x. x.behind) is_moved ∙ at.behind;
      }

  pub around-next : IsUpTo shows_number rises cites (k + 1) b
  around-next = on-to-next shows_number rises cites k b at-next

  module _ (c d : NumberedCite) (follows : Bool) (within : k < length cites) (here : c ≡ get_or cites k d) (was : follows ≡ follows_range cites k) where
    found-here : slice_get cites k ≡ Some c
    found-here = slice_get-get_or cites k d within ∙ ap Some (sym here)

    pub follows-now : (now : Bool) → now ≡ (ends_around b || (follows && c.hidden)) → now ≡ follows_range cites (k + 1)
    follows-now now h = h ∙ follows-next cites k c found-here b at-next follows was

    pub collapsed-next : (made all : List CollapsedCite) (x : CollapsedCite) → made ≡ map (λ p. in_range cites p.0 p.1) (take k (enumerate_from 0 cites)) → x ≡ number_made b follows c.hidden → all ≡ made ++ x ∷ []
        → all ≡ map (λ p. in_range cites p.0 p.1) (take (k + 1) (enumerate_from 0 cites))
    collapsed-next made all x made_so_far is pushed =
        pushed ∙ (λ i. made_so_far i ++ (is ∙ made-here cites k c found-here b at-next follows was) i ∷ [])
        ∙ sym (made-next cites k c within (here ∙ get_or_default cites k d c within) (λ p. in_range cites p.0 p.1))
