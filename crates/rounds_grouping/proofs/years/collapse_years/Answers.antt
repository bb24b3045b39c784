use Rattle.std.proofs.Common.{◌≡◌, ap, get_or, map, sym, ◌∙◌}
use Rattle.std.specs.Prelude.{None}
use Rattle.list_lemmas.proofs.Stepping.{within-view}
use Rattle.value_styles.specs.StyleView.{citation_view}
use Rattle.driver_passes.specs.RendersView.{item_view, items_view}
use Rattle.rounds_grouping.specs.YearStretches.{group_at, year_collapsed}
use Rattle.rounds_grouping.specs.CollapseSteps.{is_same}
use Rattle.rounds_grouping.proofs.ByPlaces.{at-map, cite-at, step}
use Rattle.rounds_grouping.proofs.StretchLemmas.{later-is, stands-before, step-is, was-later-next}
use Rattle.rounds_grouping.proofs.years.collapse_years.Goals as goal

pub loop-k-preserved : goal.loop-k-preserved
loop-k-preserved g c =
    let citation = citation_view c.args.citation.now in
    let items = c.args.items.now in
    let old = items_view items in
    let groups = map (λ d. d.group) old in
    let k = c.loop-k.k in
    let change = year_collapsed citation c.args.to_suffixes old in
    let half = c.loop-k.invariant.items in
    let first = c.index-items-k.result in
    let found = c.index-items-k-in-loop-k.result in
    let within = within-view item_view items k c.loop-k-test.true in
    let group : (get_or c.loop-k.items k first).group_idx ≡ group_at groups k =
    ap (λ d. d.group) (cite-at item_view change k items c.loop-k.items first half c.index-items-k.is)
    ∙ sym (at-map (λ d. d.group) old k (item_view (get_or c.loop-k.items k first)) None within) in
    let later = c.is_same-is_later.ensures ∙ (λ i. is_same (c.loop-k.invariant.before i) (group i)) ∙ later-is groups k in
    let changed = step-is citation c.args.to_suffixes old k c.is_same-is_later.result c.loop-k.was_later (item_view (get_or c.loop-k.items k found))
    (cite-at item_view change k items c.loop-k.items found half c.index-items-k-in-loop-k.is) later c.loop-k.invariant.was_later in
    record {
      items = step item_view change k items c.loop-k.items found c.collapse_year.new.cite half c.loop-k-test.true (c.collapse_year.ensures ∙ changed);
      before = group ∙ stands-before groups k;
      was_later = later ∙ was-later-next groups k;
    }
