-- What a caller may rely on where numbers collapse, without reading how runs are hidden.
use Rattle.std.specs.Prelude.{◌≡◌, ℕ, ◌+◌, ◌<◌, Bool, true, false, List, Option, Some, length, map, slice_get, slice_index, slice_range}
use Rattle.std.specs.Option.{option_and_then, option_map_or}
use Rattle.driver_lookup.specs.Between.{between}
use Rattle.value_styles.specs.declared.style.Collapse.{Collapse}
use Rattle.value_styles.specs.declared.style.Collapse.TheVariants.{CitationNumber}
use Rattle.driver_passes.specs.Renders.{ItemRender}
use Rattle.rounds_grouping.specs.NumberRuns.{en_dash, is_run, shown_number}

module _ {E P : Type 0} where
  -- the cite at k is hidden
  abbrev pub is_hidden : List (ItemRender E P) → ℕ → Bool
  is_hidden cites k = option_map_or (λ c. c.hidden) (slice_get cites k) false

  -- the citation numbers of cites
  abbrev pub numbers_of : List (ItemRender E P) → List ℕ
  numbers_of cites = map (λ c. c.properties.speculative.citation_number) cites

  -- what stands before the cite at k in place of the layout's delimiter
  abbrev pub override_at : List (ItemRender E P) → ℕ → Option (List ℕ)
  override_at cites k = option_and_then (λ c. c.delimiter_override) (slice_get cites k)

-- of the cites of a request, and what collapsing made of them
module _ {E P : Type 0} (cites collapsed : List (ItemRender E P)) where
  -- collapsing hid the cite at k
  abbrev pub WasHid : ℕ → Type 0
  WasHid k = (is_hidden cites k ≡ false) × (is_hidden collapsed k ≡ true)

  -- p and q are shown, and all cites between them are hidden
  pub record AreNextShown (p q : ℕ) : Type 0 where
    pub in_order : p < q
    pub in_request : q < length collapsed
    pub first_shown : is_hidden collapsed p ≡ false
    pub last_shown : is_hidden collapsed q ≡ false
    pub between_hidden : (k : ℕ) → p < k → k < q → is_hidden collapsed k ≡ true

  -- the cites between p and q: collapsing hid them all, their numbers in order are exactly those
  -- strictly between the numbers of p and q, and a dash stands before q
  pub record AreCollapsed (p q : ℕ) : Type 0 where
    pub all_were_hid : (k : ℕ) → p < k → k < q → WasHid k
    pub numbers_between : slice_range (numbers_of collapsed) (p + 1) q
        ≡ between (slice_index (numbers_of collapsed) p) (slice_index (numbers_of collapsed) q)
    pub dash : override_at collapsed q ≡ Some en_dash

  -- k is inside one run of numbers, and inside no other
  pub record IsInnerToOneRun (k : ℕ) : Type 0 where
    pub first : ℕ
    pub last : ℕ
    pub is_inside : (is_run (map shown_number cites) first last ≡ true) × (first < k) × (k < last)
    pub no_other : (a b : ℕ) → is_run (map shown_number cites) a b ≡ true → a < k → k < b
        → (a ≡ first)
        × (b ≡ last)

  -- the laws, for a style with this collapse
  pub record CanBeReadBack (collapse : Option Collapse) : Type 0 where
    -- no number changes
    pub numbers_stay : numbers_of collapsed ≡ numbers_of cites
    -- nothing is hidden but by the collapse of numbers
    pub only_numbers_hide : (k : ℕ) → WasHid k → collapse ≡ Some CitationNumber
    -- where collapsing hid one of the cites between two shown ones, what is hidden there can be
    -- read back
    pub hidden_can_be_read_back : (p q k : ℕ) → AreNextShown p q → p < k → k < q → WasHid k
        → AreCollapsed p q
    -- what collapsing hid is inside exactly one run
    pub hidden_in_one_run : (k : ℕ) → WasHid k → IsInnerToOneRun k
