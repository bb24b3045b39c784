-- Years of blocks, one more cite.
use mathlib.Core.Bool.{or-false}
use Rattle.std.proofs.Common.{◌≡◌, ℕ, zero, suc, ◌+◌, ◌<◌, ◌≤◌, Bool, ◌&&◌, ◌||◌, Some, Option, List, [], ◌∷◌, ◌++◌, length, map, take, get_or, ap, sym, ◌∙◌, add-one}
use Rattle.std.specs.Prelude.{nat_eq, slice_get}
use Rattle.std.specs.List.{enumerate_from, list_any}
use Rattle.std.proofs.lemmas.List.{get_or_default, take_all}
use Rattle.std.proofs.lemmas.List.Folds.{list_any-append}
use Rattle.mentions_ranges.specs.Stretches.{both}
use Rattle.list_lemmas.proofs.Stepping.{made-next, next}
use Rattle.mentions_blocks.specs.Years.{collapses, follows, in_one_part, is_located, year_by, year_of}
use Rattle.mentions_blocks.specs.declared.years.BlockCite.{BlockCite}
use Rattle.mentions_blocks.specs.declared.years.BlockYear.{BlockYear}
use Rattle.mentions_blocks.specs.declared.years.YearCollapse.{YearCollapse}
use Rattle.mentions_blocks.proofs.Placing.{before_at, stands}

follows-at : (cites : List BlockCite) (k : ℕ) (c : BlockCite) → slice_get cites k ≡ Some c → (b : Option BlockCite) → b ≡ before_at cites k → both in_one_part b (Some c) ≡ follows cites k
follows-at cites zero c s b hb = ap (λ o. both in_one_part o (Some c)) hb
follows-at cites (suc k) c s b hb = λ i. both in_one_part (hb i) (sym s i)

pub collapses-next : (cites : List BlockCite) (how : YearCollapse) (k : ℕ) (f e : Bool) → f ≡ follows cites k → e ≡ (how.by_year || f) → e ≡ collapses cites how (k + 1)
collapses-next cites how k f e is made = made ∙ ap (λ b. how.by_year || b) is ∙ sym (ap (collapses cites how) (add-one k))

module _ (cites : List BlockCite) (k : ℕ) (c d : BlockCite) (within : k < length cites) (given : c ≡ get_or cites k d) where
  here : c ≡ get_or cites k c
  here = given ∙ get_or_default cites k d c within

  pub follows-is : (b : Option BlockCite) (f : Bool) → b ≡ before_at cites k → f ≡ both in_one_part b (Some c) → f ≡ follows cites k
  follows-is b f hb is = is ∙ follows-at cites k c (stands cites k c within here) b hb

  module _ (how : YearCollapse) where
    pub years-next : (found all : List BlockYear) (y : BlockYear) (f e l : Bool) → found ≡ map (year_of cites how) (take k (enumerate_from 0 cites)) → f ≡ follows cites k → e ≡ collapses cites how k
        → l ≡ is_located cites c.part → y ≡ year_by how c f e l → all ≡ found ++ y ∷ [] → all ≡ map (year_of cites how) (take (k + 1) (enumerate_from 0 cites))
    years-next found all y f e l so_far is_f is_e is_l is pushed =
        pushed ∙ (λ i. so_far i ++ (is ∙ (λ j. year_by how c (is_f j) (is_e j) (is_l j))) i ∷ []) ∙ sym (made-next cites k c within here (year_of cites how))

  -- blocks with locators
  pub located-next : (old new : List ℕ) → ((n : ℕ) → list_any (nat_eq n) old ≡ is_located (take k cites) n)
      → ((n : ℕ) → list_any (nat_eq n) new ≡ (list_any (nat_eq n) old || (c.has_locator && nat_eq n c.part))) → (n : ℕ) → list_any (nat_eq n) new ≡ is_located (take (k + 1) cites) n
  located-next old new so_far added n =
      added n ∙ (λ i. so_far n i || sym (or-false (c.has_locator && nat_eq n c.part)) i)
      ∙ sym (list_any-append (λ x. x.has_locator && nat_eq n x.part) (take k cites) (c ∷ [])) ∙ ap (list_any (λ x. x.has_locator && nat_eq n x.part)) (sym (next cites k c within here))

pub all-located : (cites : List BlockCite) (k : ℕ) (keys : List ℕ) → ((n : ℕ) → list_any (nat_eq n) keys ≡ is_located (take k cites) n) → length cites ≤ k → (n : ℕ) → list_any (nat_eq n) keys ≡ is_located cites n
all-located cites k keys so_far past n = so_far n ∙ ap (λ cs. is_located cs n) (take_all k cites past)
