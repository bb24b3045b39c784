-- Parts of cites in their final order: their laws.
use Rattle.std.proofs.Common.{◌≡◌, ◌⊎◌, inl, inr, ℕ, zero, suc, ◌<◌, ◌≤◌, Bool, true, false, cond, Option, Some, None, List, refl, ap, sym, ◌∙◌, true≢false, arith}
use Rattle.std.specs.Prelude.{nat_eq, nat_lt, slice_get}
use Rattle.std.specs.Cmp.{nat_eq_equiv}
use Rattle.std.specs.Option.{option_and_then, option_map_or}
use Rattle.std.proofs.lemmas.Bool.Decides.{nat_tests}
use Rattle.std.proofs.lemmas.Bool.{and_from, and_parts, eqb-true}
use Rattle.std.proofs.lemmas.Option.{none-some, same_Some}
use Rattle.mentions_ranges.specs.Stretches.{both}
use Rattle.mentions_blocks.specs.Parts.{goes_on, joins, names_at, part_at, shown_at}
use Rattle.mentions_blocks.specs.declared.parts.ShownCite.{ShownCite}
use Rattle.mentions_laws.specs.Parts.{GoesOn, HasParts, are_of_one_block}

module _ (cites : List ShownCite) where
  -- what holds where a cite goes on with the part before it
  pub record IsJoined (k : ℕ) : Type 0 where
    pub names : ℕ
    pub has_names : names_at cites k ≡ Some names
    pub one_block : are_of_one_block cites k ≡ true
    pub none_or_them : (shown_at cites (suc k) ≡ None) ⊎ (shown_at cites (suc k) ≡ Some names)

  pub joined : (k : ℕ) → joins cites k ≡ true → IsJoined k
  joined k = by (names_at cites k) (slice_get cites k) (slice_get cites (suc k)) refl refl refl
    where
      by : (n : Option ℕ) (b c : Option ShownCite) → names_at cites k ≡ n → slice_get cites k ≡ b → slice_get cites (suc k) ≡ c → both (goes_on n) b c ≡ true → IsJoined k
      by n None c en eb ec h = absurd (true≢false (sym h))
      by n (Some b) None en eb ec h = absurd (true≢false (sym h))
      by None (Some b) (Some c) en eb ec h = absurd (true≢false (sym h))
      by (Some n) (Some b) (Some c) en eb ec h =
          let p = and_parts (nat_eq b.block c.block) (option_map_or (nat_eq n) c.names true) h in
          record {
            names = n;
            has_names = en;
            one_block = (λ i. both (λ b c. nat_eq b.block c.block) (eb i) (ec i)) ∙ p.0;
            none_or_them = shows c.names refl p.1;
          }
        where
          shows : (o : Option ℕ) → c.names ≡ o → option_map_or (nat_eq n) o true ≡ true → (shown_at cites (suc k) ≡ None) ⊎ (shown_at cites (suc k) ≡ Some n)
          shows None e t = inl (ap (option_and_then (λ c. c.names)) ec ∙ e)
          shows (Some m) e t = inr (ap (option_and_then (λ c. c.names)) ec ∙ e ∙ ap Some (sym (eqb-true n m t)))

  -- and where it doesn't
  pub joins-from : (k n : ℕ) → names_at cites k ≡ Some n → are_of_one_block cites k ≡ true → (shown_at cites (suc k) ≡ None) ⊎ (shown_at cites (suc k) ≡ Some n) → joins cites k ≡ true
  joins-from k n en block shows = by (slice_get cites k) (slice_get cites (suc k)) refl refl block
    where
      by : (b c : Option ShownCite) → slice_get cites k ≡ b → slice_get cites (suc k) ≡ c → both (λ b c. nat_eq b.block c.block) b c ≡ true → both (goes_on (names_at cites k)) b c ≡ true
      by None c eb ec h = absurd (true≢false (sym h))
      by (Some b) None eb ec h = absurd (true≢false (sym h))
      by (Some b) (Some c) eb ec h =
          ap (λ o. goes_on o b c) en ∙ and_from (nat_eq b.block c.block) (option_map_or (nat_eq n) c.names true) h (of shows)
        where
          of : (shown_at cites (suc k) ≡ None) ⊎ (shown_at cites (suc k) ≡ Some n) → option_map_or (nat_eq n) c.names true ≡ true
          of (inl e) = ap (λ o. option_map_or (nat_eq n) o true) (sym (ap (option_and_then (λ c. c.names)) ec) ∙ e)
          of (inr e) = ap (λ o. option_map_or (nat_eq n) o true) (sym (ap (option_and_then (λ c. c.names)) ec) ∙ e) ∙ nat_eq_equiv.refl n

  -- the names of a part are those of its first cite
  pub names-of-first : (k : ℕ) → names_at cites k ≡ shown_at cites (part_at cites k)
  names-of-first zero = refl
  names-of-first (suc k) = by (joins cites k) (names-of-first k)
    where
      by : (b : Bool) → names_at cites k ≡ shown_at cites (part_at cites k) → cond b (names_at cites k) (shown_at cites (suc k)) ≡ shown_at cites (cond b (part_at cites k) (suc k))
      by true h = h
      by false h = refl

  -- the names that a cite shows are those of its part
  pub shown-names : (k n : ℕ) → shown_at cites k ≡ Some n → names_at cites k ≡ Some n
  shown-names zero n h = h
  shown-names (suc k) n h = by (joins cites k) refl
    where
      by : (b : Bool) → joins cites k ≡ b → cond b (names_at cites k) (shown_at cites (suc k)) ≡ Some n
      by false e = h
      by true e =
          let j = joined k e in
          j.has_names ∙ of j.names j.none_or_them
        where
          of : (m : ℕ) → (shown_at cites (suc k) ≡ None) ⊎ (shown_at cites (suc k) ≡ Some m) → Some m ≡ Some n
          of m (inl none) = absurd (none-some n (sym none ∙ h))
          of m (inr some) = sym some ∙ h

  pub part-within : (k : ℕ) → part_at cites k ≤ k
  part-within zero = omega arith
  part-within (suc k) = by (joins cites k) (part-within k)
    where
      by : (b : Bool) → part_at cites k ≤ k → cond b (part_at cites k) (suc k) ≤ suc k
      by true h = omega arith
      by false h = omega arith

  pub begins-one : (k : ℕ) → (GoesOn cites (part_at cites k) k → ⊥) → part_at cites (suc k) ≡ suc k
  begins-one k none = by (joins cites k) refl
    where
      by : (b : Bool) → joins cites k ≡ b → cond b (part_at cites k) (suc k) ≡ suc k
      by true e =
          let j = joined k e in
          absurd (none (record { names = j.names; first_shows = sym (names-of-first k) ∙ j.has_names; one_block = j.one_block; shows_none_or_them = j.none_or_them }))
      by false e = refl

  pub with-names : (k : ℕ) → part_at cites k < k → (n : ℕ) × (shown_at cites (part_at cites k) ≡ Some n)
  with-names zero h = absurd (omega (arith, h))
  with-names (suc k) h = by (joins cites k) refl h
    where
      by : (b : Bool) → joins cites k ≡ b → cond b (part_at cites k) (suc k) < suc k → (n : ℕ) × (shown_at cites (cond b (part_at cites k) (suc k)) ≡ Some n)
      by true e l = let j = joined k e in (j.names, sym (names-of-first k) ∙ j.has_names)
      by false e l = absurd (omega (arith, l))

  abbrev pub has-parts : HasParts cites
  has-parts = record {
    begins = part_at cites;
    first = refl;
    goes_on = λ k g. ap (λ b. cond b (part_at cites k) (suc k)) (joins-from k g.names (names-of-first k ∙ g.first_shows) g.one_block g.shows_none_or_them);
    begins_one = begins-one;
    same_names = λ j k m n e hj hk.
        same_Some m n (sym (shown-names j m hj) ∙ names-of-first j ∙ ap (shown_at cites) e ∙ sym (names-of-first k) ∙ shown-names k n hk);
    begins_with_names = with-names;
  }

  -- a cite that isn't the first of its part follows another one of it
  pub follows-is : (k : ℕ) → nat_eq (part_at cites k) (part_at cites (suc k)) ≡ nat_lt (part_at cites (suc k)) (suc k)
  follows-is k = by (joins cites k) (part-within k)
    where
      by : (b : Bool) → part_at cites k ≤ k → nat_eq (part_at cites k) (cond b (part_at cites k) (suc k)) ≡ nat_lt (cond b (part_at cites k) (suc k)) (suc k)
      by true h = grind (arith, nat_tests)
      by false h = grind (arith, nat_tests)

  pub follows-joins : (k : ℕ) → nat_eq (part_at cites k) (part_at cites (suc k)) ≡ true → joins cites k ≡ true
  follows-joins k = by (joins cites k) (part-within k)
    where
      by : (b : Bool) → part_at cites k ≤ k → nat_eq (part_at cites k) (cond b (part_at cites k) (suc k)) ≡ true → b ≡ true
      by true h e = refl
      by false h e = absurd (let same : part_at cites k ≡ suc k = eqb-true (part_at cites k) (suc k) e in omega (arith, same, h))
