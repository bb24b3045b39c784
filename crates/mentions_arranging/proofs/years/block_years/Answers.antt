use Rattle.std.proofs.Common.{◌≡◌, true, false, cond, ap, map, sym, zip, ◌∙◌}
use Rattle.std.specs.List.{enumerate_from}
use Rattle.mentions_blocks.specs.Years.{years}
use Rattle.mentions_arranging.specs.Collapsing.{block_cite, block_cites, part_places, whole_in_part, year_collapse}
use Rattle.mentions_arranging.specs.Order.{collapses_years}
use Rattle.mentions_arranging.proofs.Walking.{same-items}
use Rattle.mentions_arranging.proofs.years.block_years.Goals as goal

pub returns-then-collapses_years : goal.returns-then-collapses_years
returns-then-collapses_years g c =
    let cites = c.args.cites.now in
    let how = year_collapse c.args.style c.args.collapse in
    let yes : collapses_years c.args.collapse ≡ true = sym c.collapses_years.ensures ∙ c.if-collapses_years.true in
    let parts = c.deref.ensures.value ∙ c.in_ok-parts.ensures in
    let blocks = c.deref-then-collapses_years.ensures.value ∙ c.in_ok-blocks.ensures ∙ ap (λ ps. map block_cite (zip ps cites)) parts in
    same-items c.years_of_parts.result (λ v. v.items) _ _
    ((λ i. years (blocks i) (c.year_collapse.ensures i)) ∙ sym (ap (λ b. cond b (years (block_cites cites) how) (map whole_in_part (enumerate_from 0 (part_places cites)))) yes)) c.years_of_parts.ensures

pub returns : goal.returns
returns g c =
    let cites = c.args.cites.now in
    let how = year_collapse c.args.style c.args.collapse in
    let no : collapses_years c.args.collapse ≡ false = sym c.collapses_years.ensures ∙ c.if-collapses_years.false in
    let parts = c.deref-else-collapses_years.ensures.value ∙ c.in_ok-parts.ensures in
    same-items c.whole_in_parts.result (λ v. v.items) _ _
    (ap (λ ps. map whole_in_part (enumerate_from 0 ps)) parts ∙ sym (ap (λ b. cond b (years (block_cites cites) how) (map whole_in_part (enumerate_from 0 (part_places cites)))) no)) c.whole_in_parts.ensures
