-- The names of a cite that is cut stand before it.
use Rattle.std.proofs.Common.{◌≡◌, ◌⊎◌, inl, inr, ℕ, zero, suc, ◌<◌, ◌≤◌, Bool, true, false, cond, Option, Some, None, List, refl, ap, sym, ◌∙◌, true≢false, arith}
use Rattle.std.proofs.lemmas.Option.{none-some}
use Rattle.mentions_blocks.specs.Parts.{joins, names_at, shown_at}
use Rattle.mentions_blocks.specs.declared.parts.ShownCite.{ShownCite}
use Rattle.mentions_laws.specs.Cuts.{NamesStandBefore}
use Rattle.mentions_laws.proofs.Parting.{shown-names}

-- a cite is cut only where it goes on with the part before it, or shows the names of the cite before it
module _ (cites : List ShownCite) (cut : ℕ → Bool) where
  abbrev pub Follows : ℕ → ℕ → Type 0
  Follows n zero = ⊥
  Follows n (suc k) = (joins cites k ≡ true) ⊎ (shown_at cites k ≡ Some n)

  abbrev pub IsWhole : ℕ → Type 0
  IsWhole k = cut k ≡ false

  module _ (follows : (k n : ℕ) → cut k ≡ true → shown_at cites k ≡ Some n → Follows n k) where
    -- the last whole cite up to k that shows names shows these
    record LastWhole (k n : ℕ) : Type 0 where
      last : ℕ
      up_to : last ≤ k
      whole : IsWhole last
      same : shown_at cites last ≡ Some n
      none_between : (j : ℕ) → last < j → j ≤ k → IsWhole j → shown_at cites j ≡ None

    itself : (k n : ℕ) → cut k ≡ false → shown_at cites k ≡ Some n → LastWhole k n
    itself k n whole shows = record { last = k; up_to = omega arith; whole = whole; same = shows; none_between = λ j u v. absurd (omega (arith, u, v)) }

    -- one more cite, which is cut or shows no names
    one-more : (k n : ℕ) → LastWhole k n → (IsWhole (suc k) → shown_at cites (suc k) ≡ None) → LastWhole (suc k) n
    one-more k n l none = record {
      last = l.last;
      up_to = let u = l.up_to in omega (arith, u);
      whole = l.whole;
      same = l.same;
      none_between = λ j u v w. elim (at j v) [ inl e ↦ ap (shown_at cites) e ∙ none (sym (ap cut e) ∙ w) | inr low ↦ l.none_between j u low w ];
    }
      where
        at : (j : ℕ) → j ≤ suc k → (j ≡ suc k) ⊎ (j ≤ k)
        at j v = grind arith

    last-whole : (k n : ℕ) → names_at cites k ≡ Some n → LastWhole k n
    last-whole zero n h = by (cut zero) refl
      where
        by : (b : Bool) → cut zero ≡ b → LastWhole zero n
        by true e = absurd (follows zero n e h)
        by false e = itself zero n e h
    last-whole (suc k) n h = by (shown_at cites (suc k)) (joins cites k) (cut (suc k)) refl refl refl h (last-whole k n)
      where
        by : (o : Option ℕ) (b c : Bool) → shown_at cites (suc k) ≡ o → joins cites k ≡ b → cut (suc k) ≡ c → cond b (names_at cites k) (shown_at cites (suc k)) ≡ Some n
            → (names_at cites k ≡ Some n → LastWhole k n) → LastWhole (suc k) n
        by None true c shows goes whole is more = one-more k n (more is) (λ w. shows)
        by None false c shows goes whole is more = absurd (none-some n (sym shows ∙ is))
        by (Some m) b false shows goes whole is more = itself (suc k) n whole (shows ∙ sym (shown-names cites (suc k) m shows) ∙ h)
        by (Some m) b true shows goes whole is more = one-more k n (more (before (follows (suc k) m whole shows))) (λ w. absurd (true≢false (sym whole ∙ w)))
          where
            before : Follows m (suc k) → names_at cites k ≡ Some n
            before (inl e) = sym (ap (λ b. cond b (names_at cites k) (shown_at cites (suc k))) e) ∙ h
            before (inr s) = shown-names cites k m s ∙ sym (shown-names cites (suc k) m shows) ∙ h

    pub stands-before : (k n : ℕ) → cut k ≡ true → shown_at cites k ≡ Some n → NamesStandBefore (shown_at cites) IsWhole k
    stands-before zero n h shows = absurd (follows zero n h shows)
    stands-before (suc k) n h shows =
        let l = last-whole k n (before (follows (suc k) n h shows)) in
        record {
          names = n;
          has_names = shows;
          last = l.last;
          before = let u = l.up_to in omega (arith, u);
          whole = l.whole;
          same = l.same;
          none_between = λ j u v w. l.none_between j u (omega (arith, v)) w;
        }
      where
        before : Follows n (suc k) → names_at cites k ≡ Some n
        before (inl e) = sym (ap (λ b. cond b (names_at cites k) (shown_at cites (suc k))) e) ∙ shown-names cites (suc k) n shows
        before (inr s) = shown-names cites k n s
