use Rattle.std.proofs.Common.{◌≡◌, drop, map, option_map}
use Rattle.value_styles.specs.StyleView.{locale_view}
use Rattle.driver_styles.specs.Terms.{locale_of}
use Rattle.driver_styles.proofs.terms.TermTables.term_of.Given as goal

abbrev pub invariant-loop-table : goal.invariant-loop-table
invariant-loop-table l =
    let language = option_map (λ t. t.now) l.language in
    locale_of language (map (λ t. locale_view t.locale.now) (drop l.table-index l.table-items)) ≡ locale_of language (map (λ t. locale_view t.locale.now) l.table-items)
