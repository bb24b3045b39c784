-- What a caller may rely on of collapsed cites, without reading how ranges and stretches are found:
-- what is to collapse does, and nothing else changes.
use Rattle.std.specs.Prelude.{◌≡◌, ℕ, ◌+◌, ◌<◌, ◌≤◌, Bool, true, false, ◌&&◌, List, Option, Some, if◌then◌else◌, is_some, option_and_then, slice_get}
use Rattle.rounds_grouping.specs.NumberLaws.{AreCollapsed, AreNextShown, WasHid, is_hidden, override_at}
use Rattle.rounds_grouping.specs.NumberRuns.{en_dash, shown_number}
use Rattle.rounds_grouping.specs.Stretches.{after_collapse}
use Rattle.rounds_grouping.specs.YearStretches.{cut_to_date, cut_to_suffix, has_later_suffix}
use Rattle.driver_lookup.specs.declared.state.CollapseVerdict.{CollapseVerdict}
use Rattle.driver_passes.specs.Purposes.{has_no_purpose}
use Rattle.driver_passes.specs.Renders.{CiteRender, ItemRender}
use Rattle.value_styles.specs.Style.{CitationValue}
use Rattle.value_styles.specs.declared.style.Collapse.{Collapse}
use Rattle.value_styles.specs.declared.style.Collapse.TheVariants.{CitationNumber, Year, YearSuffix, YearSuffixRanged}
use Rattle.rounds_laws.specs.BlockLaws.{block_at}

module _ {E P : Type 0} where
  -- the number that the cite at k shows, if it shows one
  abbrev pub number_shown_at : List (ItemRender E P) → ℕ → Option ℕ
  number_shown_at cites k = option_and_then shown_number (slice_get cites k)

  -- the cite at k and the two right after it show numbers, each one more than the one before
  pub record AreInARow (cites : List (ItemRender E P)) (k : ℕ) : Type 0 where
    pub number : ℕ
    pub first : number_shown_at cites k ≡ Some number
    pub second : number_shown_at cites (k + 1) ≡ Some (number + 1)
    pub third : number_shown_at cites (k + 2) ≡ Some (number + 2)

  -- the cite at k is the middle one of such three
  pub record IsMiddle (cites : List (ItemRender E P)) (k : ℕ) : Type 0 where
    pub before : ℕ
    pub directly : k ≡ before + 1
    pub in_a_row : AreInARow cites before

  -- the cite at k has a block, and the one right before it is of the same
  pub record FollowsOwn (cites : List (ItemRender E P)) (k : ℕ) : Type 0 where
    pub before : ℕ
    pub directly : k ≡ before + 1
    pub block : ℕ
    pub own : block_at cites k ≡ Some block
    pub same : block_at cites before ≡ Some block

  -- the cite at k doesn't, but the one right before it does
  pub record FollowsBlock (cites : List (ItemRender E P)) (k : ℕ) : Type 0 where
    pub before : ℕ
    pub directly : k ≡ before + 1
    pub after_own : FollowsOwn cites before
    pub other : ¬ FollowsOwn cites k

  -- how the cite at k is cut, if it is: to its date, or to its suffix
  abbrev pub verdict_at : List (ItemRender E P) → ℕ → Option CollapseVerdict
  verdict_at cites k = option_and_then (λ c. c.verdict) (slice_get cites k)

-- of the cites of a request, and of what collapsing made of them
module _ {E P : Type 0} (cites collapsed : List (ItemRender E P)) where
  -- the cite at k is shown, and collapsing hid the one right before it
  pub record EndsRange (k : ℕ) : Type 0 where
    pub before : ℕ
    pub directly : k ≡ before + 1
    pub hid : WasHid cites collapsed before
    pub shown : is_hidden collapsed k ≡ false

  -- the cite at k shows a number, and the one right before it ends a range
  pub record FollowsRange (k : ℕ) : Type 0 where
    pub before : ℕ
    pub directly : k ≡ before + 1
    pub after_range : EndsRange before
    pub shows : is_some (number_shown_at cites k) ≡ true

  -- between the cite at k and the one shown before it collapsing hid all, and their numbers are
  -- exactly those strictly between the two
  pub record HasHiddenNumbers (k : ℕ) : Type 0 where
    pub first : ℕ
    pub next_shown : AreNextShown cites collapsed first k
    pub numbers : AreCollapsed cites collapsed first k

  -- where citation numbers collapse, with this delimiter after ranges
  pub record NumbersCollapse (after : Option (List ℕ)) : Type 0 where
    -- the middle one of three cites in a row is hidden, and collapsing hid no other
    pub middle_hides : (k : ℕ) → IsMiddle cites k → is_hidden collapsed k ≡ true
    pub no_other_hides : (k : ℕ) → WasHid cites collapsed k → IsMiddle cites k
    -- a dash stands before the end of a range, and it means hidden numbers
    pub dash : (k : ℕ) → EndsRange k → override_at collapsed k ≡ Some en_dash
    pub for_numbers : (k : ℕ) → EndsRange k → HasHiddenNumbers k
    -- a number right after a range has the delimiter
    pub after_range : (k : ℕ) → FollowsRange k → override_at collapsed k ≡ after
    -- every other cite keeps its override: else only a delimiter of the style can be a dash
    pub else_stays : (k : ℕ) → ¬ EndsRange k → ¬ FollowsRange k
        → override_at collapsed k ≡ override_at cites k

  -- the cite at k follows one of its block that isn't cut, and all between them are of this block;
  -- that one may be hidden by its caller
  pub record FollowsWhole (k : ℕ) : Type 0 where
    pub first : ℕ
    pub before : first < k
    pub one_block : (j : ℕ) → first ≤ j → j ≤ k → block_at cites j ≡ block_at cites k
    pub whole : verdict_at collapsed first ≡ verdict_at cites first

  -- where years collapse, with these cuts and with this delimiter after blocks
  pub record YearsCollapse (cut : ItemRender E P → ItemRender E P) (after : Option (List ℕ))
      : Type 0 where
    -- a cite right after one of its own block is cut
    pub cut_after_own : (k : ℕ) (c : ItemRender E P) → FollowsOwn cites k
        → slice_get cites k ≡ Some c → slice_get collapsed k ≡ Some (cut c)
    -- so names are left out only where a cite before, of the same block, isn't cut
    pub names_before : (k : ℕ) → FollowsOwn cites k → FollowsWhole k
    -- what follows a block with cites that are cut has the delimiter
    pub after_block : (k : ℕ) (c : ItemRender E P) → FollowsBlock cites k
        → slice_get cites k ≡ Some c
        → slice_get collapsed k ≡ Some (record c { delimiter_override = after })
    -- every other cite stays as it was
    pub else_stays : (k : ℕ) → ¬ FollowsOwn cites k → ¬ FollowsBlock cites k
        → slice_get collapsed k ≡ slice_get cites k

-- years collapse
abbrev pub collapses_years : Option Collapse → Bool
collapses_years (Some Year) = true
collapses_years (Some YearSuffix) = true
collapses_years (Some YearSuffixRanged) = true
collapses_years _ = false

-- cites are cut to their suffixes, but for the first of these
abbrev pub cuts_to_suffixes : Option Collapse → Bool
cuts_to_suffixes (Some YearSuffix) = true
cuts_to_suffixes _ = false

module _ {E P : Type 0} where
  -- a cite cut to its suffix where the style asks for that, and else to its date
  abbrev pub cut_by : CitationValue → ItemRender E P → ItemRender E P
  cut_by citation c = if cuts_to_suffixes citation.collapse && has_later_suffix c
      then cut_to_suffix citation c else cut_to_date citation c

  -- the cites of a request, and the same as they are drawn: where none has a purpose they collapse
  -- as the style asks for
  pub record DoCollapse (cites drawn : CiteRender E P) : Type 0 where
    pub numbers : has_no_purpose cites.items ≡ true
        → cites.request.style.citation.collapse ≡ Some CitationNumber
        → NumbersCollapse cites.items drawn.items (after_collapse cites.request.style.citation)
    pub years : has_no_purpose cites.items ≡ true
        → collapses_years cites.request.style.citation.collapse ≡ true
        → YearsCollapse cites.items drawn.items (cut_by cites.request.style.citation)
        (after_collapse cites.request.style.citation)
