-- What is to collapse does.
use Rattle.std.proofs.Common.{◌≡◌, Bool, true, false, List, Option, Some, None, refl, sym, ◌∙◌, true≢false}
use Rattle.std.specs.Prelude.{if◌then◌else◌}
use Rattle.rounds_grouping.specs.Collapsed.{collapsed, collapsed_cites, collapsed_finally}
use Rattle.rounds_grouping.specs.Stretches.{after_collapse}
use Rattle.rounds_grouping.proofs.ReadBack.{all-read-back}
use Rattle.driver_passes.specs.Purposes.{has_no_purpose}
use Rattle.driver_passes.specs.Renders.{CiteRender, ItemRender}
use Rattle.value_styles.specs.Style.{CitationValue}
use Rattle.value_styles.specs.declared.style.Collapse.{Collapse}
use Rattle.value_styles.specs.declared.style.Collapse.TheVariants.{CitationNumber, Year, YearSuffix, YearSuffixRanged}
use Rattle.rounds_grouping.specs.YearStretches.{cut_to_date, cut_to_suffix, has_later_suffix}
use Rattle.rounds_laws.specs.CollapseLaws.{DoCollapse, NumbersCollapse, YearsCollapse, collapses_years, cuts_to_suffixes}
use Rattle.std.specs.Prelude.{◌&&◌}
use Rattle.rounds_laws.proofs.Cuts.{years-collapse}
use Rattle.rounds_laws.proofs.Ranges.{numbers-collapse}

module _ {E P : Type 0} (citation : CitationValue) (cites : List (ItemRender E P)) where
  by-numbers : (kind : Option Collapse) → kind ≡ Some CitationNumber → NumbersCollapse cites (collapsed_cites kind citation cites) (after_collapse citation)
  by-numbers (Some CitationNumber) is = numbers-collapse (after_collapse citation) cites (Some CitationNumber) (all-read-back (Some CitationNumber) citation cites)
  by-numbers _ is = cc

  by-years : (kind : Option Collapse) → collapses_years kind ≡ true
      → YearsCollapse cites (collapsed_cites kind citation cites) (λ c. if cuts_to_suffixes kind && has_later_suffix c then cut_to_suffix citation c else cut_to_date citation c) (after_collapse citation)
  by-years (Some Year) is = years-collapse citation false cites
  by-years (Some YearSuffix) is = years-collapse citation true cites
  by-years (Some YearSuffixRanged) is = years-collapse citation false cites
  by-years (Some CitationNumber) is = absurd (true≢false (sym is))
  by-years None is = absurd (true≢false (sym is))

pub do-collapse : {E P : Type 0} (c : CiteRender E P) → DoCollapse c (collapsed_finally c)
do-collapse c = by (has_no_purpose c.items) refl
  where
    by : (b : Bool) → has_no_purpose c.items ≡ b → DoCollapse c (if b then collapsed c else c)
    by true e = record {
      numbers = λ plain. by-numbers c.request.style.citation c.items c.request.style.citation.collapse;
      years = λ plain. by-years c.request.style.citation c.items c.request.style.citation.collapse;
    }
    by false e = record {
      numbers = λ plain. absurd (true≢false (sym plain ∙ e));
      years = λ plain. absurd (true≢false (sym plain ∙ e));
    }
