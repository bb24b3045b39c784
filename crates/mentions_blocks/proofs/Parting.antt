-- Parts of blocks, one more cite.
use Rattle.std.proofs.Common.{◌≡◌, ℕ, zero, suc, ◌+◌, ◌<◌, cond, Some, None, Option, List, [], ◌∷◌, ◌++◌, length, map, get_or, ap, sym, ◌∙◌, add-one, arith}
use Rattle.std.specs.Prelude.{slice_get}
use Rattle.std.specs.List.{range_with_len}
use Rattle.std.specs.Option.{option_and_then}
use Rattle.std.proofs.lemmas.List.{get_or_default}
use Rattle.std.proofs.lemmas.List.FromFn.{map-range_with_len_more}
use Rattle.mentions_ranges.specs.Stretches.{both}
use Rattle.mentions_blocks.specs.Parts.{goes_on, names_at, part_at}
use Rattle.mentions_blocks.specs.declared.parts.ShownCite.{ShownCite}
use Rattle.mentions_blocks.proofs.Placing.{before_at, stands}

-- where the part of the cite before the one at k begins, and the names that it shows
abbrev pub begins_before : List ShownCite → ℕ → ℕ
begins_before cites zero = zero
begins_before cites (suc k) = part_at cites k

abbrev pub names_before : List ShownCite → ℕ → Option ℕ
names_before cites zero = None
names_before cites (suc k) = names_at cites k

begins-at : (cites : List ShownCite) (k : ℕ) (c : ShownCite) → slice_get cites k ≡ Some c → (p : ℕ) (n : Option ℕ) (b : Option ShownCite) → p ≡ begins_before cites k → n ≡ names_before cites k → b ≡ before_at cites k
    → cond (both (goes_on n) b (Some c)) p k ≡ part_at cites k
begins-at cites zero c s p n b hp hn hb = ap (λ o. cond (both (goes_on n) o (Some c)) p zero) hb
begins-at cites (suc k) c s p n b hp hn hb = λ i. cond (both (goes_on (hn i)) (hb i) (sym s i)) (hp i) (suc k)

names-at : (cites : List ShownCite) (k : ℕ) (c : ShownCite) → slice_get cites k ≡ Some c → (n : Option ℕ) (b : Option ShownCite) → n ≡ names_before cites k → b ≡ before_at cites k
    → cond (both (goes_on n) b (Some c)) n c.names ≡ names_at cites k
names-at cites zero c s n b hn hb = ap (λ o. cond (both (goes_on n) o (Some c)) n c.names) hb ∙ sym (ap (option_and_then (λ x. x.names)) s)
names-at cites (suc k) c s n b hn hb = λ i. cond (both (goes_on (hn i)) (hb i) (sym s i)) (hn i) (option_and_then (λ x. x.names) (sym s i))

module _ (cites : List ShownCite) (k : ℕ) (c d : ShownCite) (within : k < length cites) (given : c ≡ get_or cites k d) where
  here : c ≡ get_or cites k c
  here = given ∙ get_or_default cites k d c within

  module _ (p : ℕ) (n : Option ℕ) (b : Option ShownCite) (hn : n ≡ names_before cites k) (hb : b ≡ before_at cites k) where
    pub begins-is : (q : ℕ) → p ≡ begins_before cites k → q ≡ cond (both (goes_on n) b (Some c)) p k → q ≡ part_at cites k
    begins-is q hp is = is ∙ begins-at cites k c (stands cites k c within here) p n b hp hn hb

    pub names-next : (m : Option ℕ) → m ≡ cond (both (goes_on n) b (Some c)) n c.names → m ≡ names_before cites (k + 1)
    names-next m is = is ∙ names-at cites k c (stands cites k c within here) n b hn hb ∙ sym (ap (names_before cites) (add-one k))

pub begins-next : (cites : List ShownCite) (k q : ℕ) → q ≡ part_at cites k → q ≡ begins_before cites (k + 1)
begins-next cites k q is = is ∙ sym (ap (begins_before cites) (add-one k))

pub parts-next : (cites : List ShownCite) (k : ℕ) (found all : List ℕ) (q : ℕ) → found ≡ map (part_at cites) (range_with_len 0 k) → q ≡ part_at cites k → all ≡ found ++ q ∷ []
    → all ≡ map (part_at cites) (range_with_len 0 (k + 1))
parts-next cites k found all q so_far is pushed =
    let e : 0 + k ≡ k = omega arith in
    pushed ∙ (λ i. so_far i ++ is i ∷ []) ∙ sym (map-range_with_len_more (part_at cites) 0 k k e)
