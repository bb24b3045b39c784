-- What a caller may rely on where arranging hides cites, without reading how ranges are found: what
-- is hidden can be read back from what is shown.
use Rattle.std.specs.Prelude.{◌≡◌, ℕ, ◌+◌, ◌<◌, ◌≤◌, ◌⊎◌, Bool, List, Option, Some, map, option_map, slice_range}
use Rattle.rounds_grouping.specs.NumberLaws.{AreCollapsed, AreNextShown, WasHid, override_at}
use Rattle.driver_entries.specs.Entries.{place}
use Rattle.driver_passes.specs.Renders.{CiteRender, ItemRender}
use Rattle.driver_lookup.specs.Between.{between}
use Rattle.mentions_ranges.specs.ReadBack.{IsBetweenShown, read_at}
use Rattle.value_styles.specs.declared.style.Collapse.{Collapse}
use Rattle.mentions_cites.specs.Arranging.{en_dash}
use Rattle.mentions_cites.specs.Mentions.{entry_suffix}
use Rattle.driver_writers.specs.Writing.{Writing}
use Rattle.csl_driver.specs.Answer.{Job}
use Rattle.csl_driver.specs.CslAnswer.{entry_suffixes, listed, shown_mentions}

-- ranges of citation numbers collapse, or of suffixes
abbrev pub CollapsesRanges : Option Collapse → Type 0
CollapsesRanges collapse = (collapse ≡ Some Collapse.CitationNumber)
    ⊎ (collapse ≡ Some Collapse.YearSuffixRanged)

-- the suffix that a cite is told, if its entry has one
abbrev pub suffix_of : {E P : Type 0} → ItemRender E P → Option ℕ
suffix_of i = i.properties.speculative.means.suffix

-- of the cites of a request in their final order, and of the same as they are arranged
module _ {E P : Type 0} (ordered arranged : List (ItemRender E P)) where
  -- where suffixes are of classes
  module _ (class : ItemRender E P → Option ℕ) where
    -- the cites between p and q: arranging hid them all, their suffixes are of the class of those
    -- of p and q, and in order exactly those strictly between, and a dash stands before q
    pub record HaveSuffixesBetween (p q : ℕ) : Type 0 where
      pub all_were_hid : (k : ℕ) → p < k → k < q → WasHid ordered arranged k
      pub one_class : (k : ℕ) → p ≤ k → k ≤ q → read_at class arranged k ≡ read_at class arranged p
      pub first_suffix : ℕ
      pub last_suffix : ℕ
      pub is_first : read_at suffix_of arranged p ≡ Some first_suffix
      pub is_last : read_at suffix_of arranged q ≡ Some last_suffix
      pub suffixes_between : slice_range (map suffix_of arranged) (p + 1) q
          ≡ map Some (between first_suffix last_suffix)
      pub dash : override_at arranged q ≡ Some en_dash

    -- the law, for a style with this collapse
    pub record HiddenCanBeReadBack (collapse : Option Collapse) : Type 0 where
      -- nothing is hidden but where ranges collapse
      pub only_ranges_hide : (k : ℕ) → WasHid ordered arranged k → CollapsesRanges collapse
      -- what arranging hid stands between two shown cites
      pub hidden_between_shown : (k : ℕ) → WasHid ordered arranged k
          → IsBetweenShown (AreNextShown ordered arranged) k
      -- where it hid one of the cites between two shown ones, what is hidden there can be read
      -- back: from their citation numbers
      pub numbers_read_back : collapse ≡ Some Collapse.CitationNumber
          → (p q k : ℕ) → AreNextShown ordered arranged p q → p < k → k < q
          → WasHid ordered arranged k → AreCollapsed ordered arranged p q
      -- or from their suffixes
      pub suffixes_read_back : collapse ≡ Some Collapse.YearSuffixRanged
          → (p q k : ℕ) → AreNextShown ordered arranged p q → p < k → k < q
          → WasHid ordered arranged k → HaveSuffixesBetween p q

module _ {E P : Type 0} (eq : E → E → Bool) (writing : Writing E P) (job : Job E P) where
  -- the class of the suffix of a cite's entry, if it has one: what its later mention reads as
  abbrev pub suffix_class : ItemRender E P → Option ℕ
  suffix_class i = option_map (λ s. s.class)
      (entry_suffix (shown_mentions eq job writing) (entry_suffixes eq job writing)
      (place eq i.entry (listed eq job)))

  -- what is hidden of the cites of a request can be read back
  abbrev pub CanBeReadBack : CiteRender E P → CiteRender E P → Type 0
  CanBeReadBack ordered arranged = HiddenCanBeReadBack ordered.items arranged.items suffix_class
      ordered.request.style.citation.collapse
