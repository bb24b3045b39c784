-- Stretches of cites of one group, and what collapsing their years makes of each cite.
use Rattle.std.specs.Prelude.{ℕ, ◌+◌, ◌-◌, Bool, false, ◌&&◌, List, Option, None, Some, is_some, if◌then◌else◌, length, map, nat_eq, nat_le, nat_lt, slice_index_or}
use Rattle.std.specs.List.{list_all, list_any}
use Rattle.std.specs.Option.{option_eq, option_map_or, option_or}
use Rattle.list_lemmas.specs.Places.{places, is_maximal}
use Rattle.value_styles.specs.Style.{CitationValue}
use Rattle.driver_lookup.specs.States.{year_suffix}
use Rattle.driver_lookup.specs.declared.state.CollapseVerdict.TheVariants as verdict
use Rattle.driver_passes.specs.Renders.{ItemRender}
use Rattle.rounds_grouping.specs.Stretches.{after_collapse}

-- of the groups of a request's cites
module _ (groups : List (Option ℕ)) where
  -- that of the cite at k; none behind the last
  abbrev pub group_at : ℕ → Option ℕ
  group_at k = slice_index_or groups k None

  -- the cites from a to b have one and the same group
  abbrev pub shares : ℕ → ℕ → Bool
  shares a b = nat_le a b && list_all (λ k. is_some (group_at k)
      && option_eq nat_eq (group_at k) (group_at a)) (places a (b + 1))

  abbrev pub is_stretch : ℕ → ℕ → Bool
  is_stretch = is_maximal shares

  -- the cite at k stands in a stretch that begins before it
  abbrev pub is_later_in_stretch : ℕ → Bool
  is_later_in_stretch k =
      list_any (λ a. list_any (λ b. is_stretch a b) (places k (length groups))) (places 0 k)

  -- a stretch of two or more cites ends right before k
  abbrev pub follows_stretch : ℕ → Bool
  follows_stretch k = nat_lt 0 k && list_any (λ a. is_stretch a (k - 1)) (places 0 (k - 1))

module _ {E P : Type 0} where
  -- its entry is disambiguated by the suffix of the year, and by another than the first
  abbrev pub has_later_suffix : ItemRender E P → Bool
  has_later_suffix c = option_map_or (λ n. nat_lt 0 n)
      (year_suffix c.properties.speculative.disambiguation) false

  -- a cite cut to its suffix, and one cut to its date
  abbrev pub cut_to_suffix : CitationValue → ItemRender E P → ItemRender E P
  cut_to_suffix citation c =
      record c {
        delimiter_override = option_or citation.year_suffix_delimiter citation.cite_group_delimiter;
        verdict = Some verdict.YearSuffix;
      }

  abbrev pub cut_to_date : CitationValue → ItemRender E P → ItemRender E P
  cut_to_date citation c = record c {
    delimiter_override = citation.cite_group_delimiter;
    verdict = Some verdict.First;
  }

  -- the cite at k of these, where cites are cut to suffixes if asked for
  abbrev pub year_collapsed : CitationValue → Bool → List (ItemRender E P) → ℕ → ItemRender E P
      → ItemRender E P
  year_collapsed citation to_suffixes cites k c =
      let groups = map (λ d. d.group) cites in
      if is_later_in_stretch groups k
      then (if to_suffixes && has_later_suffix c then cut_to_suffix citation c
      else cut_to_date citation c)
      else if follows_stretch groups k
      then record c { delimiter_override = after_collapse citation }
      else c
