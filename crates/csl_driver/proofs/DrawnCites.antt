-- What collapsing changes of cites: whether they are hidden, their overrides and their verdicts.
use Rattle.std.proofs.Common.{◌≡◌, ℕ, zero, suc, ◌+◌, ◌&&◌, Bool, true, false, List, [], ◌∷◌, Option, Some, None, map, refl, sym, ◌∙◌, true≢false}
use Rattle.std.specs.Prelude.{if◌then◌else◌}
use Rattle.std.specs.List.{enumerate_from}
use Rattle.std.proofs.lemmas.Bool.{or_left}
use Rattle.value_styles.specs.Style.{CitationValue}
use Rattle.value_styles.specs.declared.style.Collapse.{Collapse}
use Rattle.value_styles.specs.declared.style.Collapse.TheVariants.{CitationNumber, Year, YearSuffix, YearSuffixRanged}
use Rattle.rounds_grouping.specs.Collapsed.{collapsed, collapsed_by, collapsed_cites, collapsed_finally}
use Rattle.rounds_grouping.specs.NumberLaws.{CanBeReadBack, is_hidden}
use Rattle.rounds_grouping.specs.NumberRuns.{is_inner, shown_number}
use Rattle.rounds_grouping.specs.Stretches.{after_collapse}
use Rattle.rounds_grouping.specs.YearStretches.{cut_to_date, cut_to_suffix, follows_stretch, has_later_suffix, is_later_in_stretch, year_collapsed}
use Rattle.csl_driver.specs.AnswerLaws.{IsReadBack, uncollapsed}
use Rattle.csl_driver.proofs.Standing.{same-changed}
use Rattle.driver_passes.specs.Purposes.{has_no_purpose}
use Rattle.driver_passes.specs.Renders.{CiteRender, ItemRender}

module _ {E P : Type 0} where
  -- where years are collapsed
  module _ (citation : CitationValue) (to_suffixes : Bool) (cites : List (ItemRender E P)) (k : ℕ) (c : ItemRender E P) where
    module _ {B : Type 0} (v : ItemRender E P → B) (to_suffix : v (cut_to_suffix citation c) ≡ v c) (to_date : v (cut_to_date citation c) ≡ v c)
        (after : v (record c { delimiter_override = after_collapse citation }) ≡ v c) where
      cut-same : (b : Bool) → v (if b then cut_to_suffix citation c else cut_to_date citation c) ≡ v c
      cut-same true = to_suffix
      cut-same false = to_date

      after-same : (b : Bool) → v (if b then record c { delimiter_override = after_collapse citation } else c) ≡ v c
      after-same true = after
      after-same false = refl

      year-by : (cut later follows : Bool) → v (if later then (if cut then cut_to_suffix citation c else cut_to_date citation c) else if follows then record c { delimiter_override = after_collapse citation } else c) ≡ v c
      year-by cut true follows = cut-same cut
      year-by cut false follows = after-same follows

      year-same : v (year_collapsed citation to_suffixes cites k c) ≡ v c
      year-same =
          let groups : List (Option ℕ) = map (λ d. d.group) cites in
          year-by (to_suffixes && has_later_suffix c) (is_later_in_stretch groups k) (follows_stretch groups k)

  -- but for these three each cite is the same
  by-same : (kind : Collapse) (citation : CitationValue) (cites : List (ItemRender E P)) (k : ℕ) (c : ItemRender E P) → uncollapsed (collapsed_by kind citation cites k c) ≡ uncollapsed c
  by-same CitationNumber citation cites k c = refl
  by-same Year citation cites k c = year-same citation false cites k c uncollapsed refl refl refl
  by-same YearSuffix citation cites k c = year-same citation true cites k c uncollapsed refl refl refl
  by-same YearSuffixRanged citation cites k c = year-same citation false cites k c uncollapsed refl refl refl

  all-same : (kind : Option Collapse) (citation : CitationValue) (cites : List (ItemRender E P)) → map uncollapsed (collapsed_cites kind citation cites) ≡ map uncollapsed cites
  all-same None citation cites = refl
  all-same (Some kind) citation cites = same-changed (collapsed_by kind citation cites) uncollapsed (by-same kind citation cites) 0 cites

  -- what is hidden stays hidden
  up-by : (kind : Collapse) (citation : CitationValue) (cites : List (ItemRender E P)) (k : ℕ) (c : ItemRender E P) → c.hidden ≡ true → (collapsed_by kind citation cites k c).hidden ≡ true
  up-by CitationNumber citation cites k c h = or_left c.hidden (is_inner (map shown_number cites) k) h
  up-by Year citation cites k c h = year-same citation false cites k c (λ i. i.hidden) refl refl refl ∙ h
  up-by YearSuffix citation cites k c h = year-same citation true cites k c (λ i. i.hidden) refl refl refl ∙ h
  up-by YearSuffixRanged citation cites k c h = year-same citation false cites k c (λ i. i.hidden) refl refl refl ∙ h

  up-from : (change : ℕ → ItemRender E P → ItemRender E P) → ((k : ℕ) (c : ItemRender E P) → c.hidden ≡ true → (change k c).hidden ≡ true)
      → (n : ℕ) (cites : List (ItemRender E P)) (k : ℕ) → is_hidden cites k ≡ true → is_hidden (map (λ p. change p.0 p.1) (enumerate_from n cites)) k ≡ true
  up-from change up n [] k h = h
  up-from change up n (c ∷ cs) zero h = up n c h
  up-from change up n (c ∷ cs) (suc k) h = up-from change up (n + 1) cs k h

  all-up : (kind : Option Collapse) (citation : CitationValue) (cites : List (ItemRender E P)) (k : ℕ) → is_hidden cites k ≡ true → is_hidden (collapsed_cites kind citation cites) k ≡ true
  all-up None citation cites k h = h
  all-up (Some kind) citation cites k h = up-from (collapsed_by kind citation cites) (up-by kind citation cites) 0 cites k h

  -- the kinds that cut none
  cuts-none : (kind : Option Collapse) (citation : CitationValue) (cites : List (ItemRender E P)) → kind ≡ Some CitationNumber
      → map (λ i. i.verdict) (collapsed_cites kind citation cites) ≡ map (λ i. i.verdict) cites
  cuts-none (Some CitationNumber) citation cites is = same-changed (collapsed_by CitationNumber citation cites) (λ i. i.verdict) (λ k c. refl) 0 cites
  cuts-none _ citation cites is = cc

  stays-without : (kind : Option Collapse) (citation : CitationValue) (cites : List (ItemRender E P)) → kind ≡ None → collapsed_cites kind citation cites ≡ cites
  stays-without None citation cites is = refl
  stays-without (Some kind) citation cites is = cc

  -- collapsed where no cite has a purpose, and else as they were
  pub read-back : ((c : CiteRender E P) → CanBeReadBack c.items (collapsed c).items c.request.style.citation.collapse) → (c : CiteRender E P) → IsReadBack c (collapsed_finally c)
  read-back law c = by (has_no_purpose c.items) refl
    where
      by : (b : Bool) → has_no_purpose c.items ≡ b → IsReadBack c (if b then collapsed c else c)
      by true e = record {
        same_request = refl;
        same_cites = all-same c.request.style.citation.collapse c.request.style.citation c.items;
        hidden_stays = all-up c.request.style.citation.collapse c.request.style.citation c.items;
        numbers_cut_none = cuts-none c.request.style.citation.collapse c.request.style.citation c.items;
        uncollapsed_stays = stays-without c.request.style.citation.collapse c.request.style.citation c.items;
        purpose_stays = λ some. absurd (true≢false (sym e ∙ some));
        read_back = λ plain. law c;
      }
      by false e = record {
        same_request = refl;
        same_cites = refl;
        hidden_stays = λ k h. h;
        numbers_cut_none = λ is. refl;
        uncollapsed_stays = λ is. refl;
        purpose_stays = λ some. refl;
        read_back = λ plain. absurd (true≢false (sym plain ∙ e));
      }
