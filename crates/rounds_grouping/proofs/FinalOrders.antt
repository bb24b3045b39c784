-- The cites of a request have a final order.
use Rattle.std.proofs.Common.{◌≡◌, ℕ, ◌+◌, Bool, true, false, ◌&&◌, ◌||◌, Option, None, Some, List, length, map, slice_get, refl, ap, sym, subst, true≢false, arith}
use Rattle.std.specs.Prelude.{Result, OnOk, if◌then◌else◌, is_some}
use Rattle.std.specs.List.{range_with_len}
use Rattle.std.specs.Option.{option_or}
use Rattle.std.proofs.lemmas.List.Sorted.{IsPermutation-refl}
use Rattle.std.proofs.lemmas.Result.{on_ok_weaker}
use Rattle.value_styles.specs.Style.{CitationValue}
use Rattle.driver_passes.specs.Renders.{CiteRender, ItemRender}
use Rattle.rounds_grouping.specs.Blocks.{final_order, group_delimiter, grouped, grouped_cites, is_grouped}
use Rattle.rounds_grouping.specs.FinalOrder.{HasFinalOrder}
use Rattle.rounds_grouping.specs.Laws.{bare}
use Rattle.rounds_grouping.proofs.Kept.{places-seen}
use Rattle.rounds_grouping.proofs.OrderLaws.{ordered, together}
use Rattle.rounds_grouping.proofs.Whole.{final-permuted}

module _ {E P : Type 0} where
  in-blocks : (delimiter : Option (List ℕ)) (cites : List (ItemRender E P)) → HasFinalOrder true cites (grouped_cites delimiter cites)
  in-blocks delimiter cites = record {
    final_order = final_order cites;
    each_place_once = final-permuted cites;
    cites_in_this_order = ordered cites delimiter;
    equal_names_are_adjacent = λ e. together cites;
    else_nothing_changes = λ e. absurd (true≢false e);
  }

  as-it-was : (cites : List (ItemRender E P)) → HasFinalOrder false cites cites
  as-it-was cites = record {
    final_order = range_with_len 0 (length cites);
    each_place_once = IsPermutation-refl (range_with_len 0 (length cites));
    cites_in_this_order = sym (places-seen 0 cites cites (λ k. let m : 0 + k ≡ k = omega arith in ap (slice_get (map bare cites)) m));
    equal_names_are_adjacent = λ e. absurd (true≢false (sym e));
    else_nothing_changes = λ e. refl;
  }

  pub grouped-ordered : (render : CiteRender E P) → HasFinalOrder (is_grouped render.request.style.citation) render.items (grouped render).items
  grouped-ordered render = by (is_grouped render.request.style.citation)
    where
      by : (b : Bool) → HasFinalOrder b render.items (if b then record render { items = grouped_cites (group_delimiter render.request.style.citation) render.items } else render).items
      by true = in-blocks (group_delimiter render.request.style.citation) render.items
      by false = as-it-was render.items

  -- where the style gives a delimiter of groups, and a call brings the cites together
  pub brought-together : {V F : Type 0} (r : Result V F) (citation : CitationValue) (delimiter : List ℕ) (cites after : List (ItemRender E P))
      → Some delimiter ≡ (if is_grouped citation then group_delimiter citation else None) → OnOk r (after ≡ grouped_cites (Some delimiter) cites)
      → OnOk r (HasFinalOrder (is_grouped citation) cites after)
  brought-together r citation delimiter cites after found =
      on_ok_weaker r (λ e. subst (HasFinalOrder (is_grouped citation) cites) (sym e) (by (is_grouped citation) found))
    where
      by : (b : Bool) → Some delimiter ≡ (if b then group_delimiter citation else None) → HasFinalOrder b cites (grouped_cites (Some delimiter) cites)
      by true h = in-blocks (Some delimiter) cites
      by false h = cc

  -- and where it gives none
  pub not-brought : (citation : CitationValue) (cites after : List (ItemRender E P)) → None ≡ (if is_grouped citation then group_delimiter citation else None) → after ≡ cites
      → HasFinalOrder (is_grouped citation) cites after
  not-brought citation cites after found e =
      subst (HasFinalOrder (is_grouped citation) cites) (sym e) (by (is_grouped citation) (groups-by citation.cite_group_delimiter citation.layout.delimiter (is_some citation.collapse) found))
    where
      groups-by : (own layout : Option (List ℕ)) (collapses : Bool) → None ≡ (if is_some own || (collapses && is_some layout) then option_or own layout else None)
          → is_some own || (collapses && is_some layout) ≡ false
      groups-by (Some d) layout collapses h = cc
      groups-by None (Some d) true h = cc
      groups-by None (Some d) false h = refl
      groups-by None None true h = refl
      groups-by None None false h = refl

      by : (b : Bool) → b ≡ false → HasFinalOrder b cites cites
      by true h = absurd (true≢false h)
      by false h = as-it-was cites
