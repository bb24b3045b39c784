-- The law for ranges of citation numbers.
use Rattle.std.proofs.Common.{◌≡◌, ℕ, suc, ◌+◌, true, false, not, ◌&&◌, Option, None, Some, List, refl, ap, sym, subst, true≢false}
use Rattle.std.specs.Prelude.{if◌then◌else◌, is_some, slice_get}
use Rattle.std.specs.Cmp.{unsigned_Decides}
use Rattle.std.proofs.lemmas.List.Elements.{All-get_or}
use Rattle.std.proofs.lemmas.Option.{get_or_from_slice_get, slice_get_within}
use Rattle.mentions_ranges.specs.NumberRanges.{follows_range, in_range, is_next, number_ranges, rises, shows_number}
use Rattle.mentions_ranges.specs.declared.collapsed.Delimiter.{Delimiter}
use Rattle.mentions_ranges.specs.declared.numbers.NumberedCite.{NumberedCite}
use Rattle.mentions_ranges.proofs.Following.{rises-sound}
use Rattle.mentions_ranges.specs.ReadBack.{NumberRangesCanBeReadBack, RangedAreShown}
use Rattle.mentions_ranges.proofs.Law.{AreCounted, HidesInner, hides-inner, law}
use Rattle.mentions_ranges.proofs.Placed.{at-place}

next-number : (m n : Option ℕ) → is_next m n ≡ true → (h : ℕ) × (m ≡ Some h) × (n ≡ Some (h + 1))
next-number None n h = absurd (true≢false (sym h))
next-number (Some m) None h = absurd (true≢false (sym h))
next-number (Some m) (Some n) h = (m, refl, ap Some ((unsigned_Decides n (m + 1)).0 h))

module _ (cites : List NumberedCite) where
  hides : HidesInner shows_number rises cites (number_ranges cites)
  hides =
      hides-inner shows_number rises cites (number_ranges cites) rises-sound (in_range cites) (at-place (λ p. in_range cites p.0 p.1) cites) (λ k c. refl)
      (λ k c e. ap (λ b. if b then Delimiter.Dash else if follows_range cites k && not c.hidden then Delimiter.AfterCollapse else Delimiter.Usual) e)

  module _ (ranged : RangedAreShown cites) where
    shown : (k : ℕ) (c : NumberedCite) (n : ℕ) → slice_get cites k ≡ Some c → c.number ≡ Some n → c.hidden ≡ false
    shown k c n at e =
        subst (λ d. is_some d.number ≡ true → d.hidden ≡ false) (get_or_from_slice_get cites k c c at)
        (All-get_or (λ d. is_some d.number ≡ true → d.hidden ≡ false) cites k c (slice_get_within cites k c at) ranged) (ap is_some e)

    counted : (k : ℕ) (c d : NumberedCite) → slice_get cites k ≡ Some c → slice_get cites (suc k) ≡ Some d → rises c d ≡ true → AreCounted (λ c. c.hidden) (λ c. Some 0) (λ c. c.number) c d
    counted k c d at behind h =
        let n = next-number c.number d.number h in
        record { shown = shown k c n.0 at n.1; next_shown = shown (suc k) d (n.0 + 1) behind n.2; same_class = refl; here = n.0; is_here = n.1; is_next = n.2 }

    pub numbers-read-back : NumberRangesCanBeReadBack cites
    numbers-read-back = law shows_number rises cites (number_ranges cites) (λ c. c.hidden) (λ c. Some 0) (λ c. c.number) rises-sound hides counted
