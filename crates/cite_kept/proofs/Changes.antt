-- The versions after one id has another one, or none.
use Rattle.std.proofs.Common.{◌≡◌, ◌≢◌, ℕ, ◌+◌, ◌<◌, ◌⊎◌, List, Option, Some, None, ap, sym, ◌∙◌, inl, inr, arith}
use Rattle.std.specs.Prelude.{bytes_eq}
use Rattle.std.specs.Map.{update}
use Rattle.std.specs.Option.{unwrap_or}
use Rattle.std.proofs.lemmas.Bool.{both_ways, cases_Bool, cond-false, cond-true}
use Rattle.std.proofs.lemmas.Slice.Eq.{bytes_eq-Decides}
use Rattle.cite_kept.specs.Known.{AreKnown, Known, version_of}
use mathlib.Core.Logic.{⊎_elim}

same_number : {a b : ℕ} → Some a ≡ Some b → a ≡ b
same_number e = ap (λ o. unwrap_or o 0) e

-- only id has changed, to what it has now
abbrev pub Changes : Known → Known → List ℕ → Option ℕ → Type 0
Changes old new id now = (other : List ℕ) → version_of new other ≡ update bytes_eq (version_of old) id now other

module _ (old new : Known) (id : List ℕ) (now : Option ℕ) (at : Changes old new id now) where
  -- it is the id, or one that has what it had
  id_or_other : (other : List ℕ) → ((other ≡ id) × (version_of new other ≡ now)) ⊎ ((other ≢ id) × (version_of new other ≡ version_of old other))
  id_or_other other = ⊎_elim
      (λ same. inl (sym ((bytes_eq-Decides id other).0 same), at other ∙ cond-true _ now (version_of old other) same))
      (λ apart. inr ((λ e. both_ways _ apart ((bytes_eq-Decides id other).1 (sym e))), at other ∙ cond-false _ now (version_of old other) apart))
      (cases_Bool (bytes_eq id other))

  pub others : (other : List ℕ) → other ≢ id → version_of new other ≡ version_of old other
  others other apart = ⊎_elim (λ p. absurd (apart p.0)) (λ p. p.1) (id_or_other other)

-- once an id has none
module _ (old new : Known) (id : List ℕ) (at : Changes old new id None) (given : new.given ≡ old.given) (known : AreKnown old) where
  -- what one has now, it had
  had : (other : List ℕ) (n : ℕ) → version_of new other ≡ Some n → version_of old other ≡ Some n
  had other n is = ⊎_elim (λ p. absurd (none-some (sym p.1 ∙ is))) (λ p. sym p.1 ∙ is) (id_or_other old new id None at other)
    where
      none-some : None ≡ Some n → ⊥
      none-some e = cc

  pub known-without : AreKnown new
  known-without = record {
    below = λ other n is. let b : n < old.given = known.below other n (had other n is) in omega (arith, given, b);
    apart = λ a b n p q. known.apart a b n (had a n p) (had b n q);
  }

-- once an id has the next one
module _ (old new : Known) (id : List ℕ) (at : Changes old new id (Some old.given)) (given : new.given ≡ old.given + 1) (known : AreKnown old) where
  -- it is the id with the next one, or another one with an earlier one
  next_or_earlier : (other : List ℕ) (n : ℕ) → version_of new other ≡ Some n
      → ((other ≡ id) × (n ≡ old.given)) ⊎ ((version_of old other ≡ Some n) × (n < old.given))
  next_or_earlier other n is = ⊎_elim
      (λ p. inl (p.0, sym (same_number (sym p.1 ∙ is))))
      (λ p. let was = sym p.1 ∙ is in inr (was, known.below other n was))
      (id_or_other old new id (Some old.given) at other)

  pub known-with : AreKnown new
  known-with = record {
    below = λ other n is. ⊎_elim (λ p. omega (arith, given, p.1)) (λ p. omega (arith, given, p.1)) (next_or_earlier other n is);
    apart = λ a b n p q. ⊎_elim
        (λ x. ⊎_elim (λ y. x.0 ∙ sym y.0) (λ y. absurd (omega (arith, x.1, y.1))) (next_or_earlier b n q))
        (λ x. ⊎_elim (λ y. absurd (omega (arith, x.1, y.1))) (λ y. known.apart a b n x.0 y.0) (next_or_earlier b n q))
        (next_or_earlier a n p);
  }

  pub own : (other : List ℕ) → version_of new other ≡ Some old.given → other ≡ id
  own other is = ⊎_elim (λ p. p.0) (λ p. absurd (omega (arith, p.1))) (next_or_earlier other old.given is)
