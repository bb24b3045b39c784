use Rattle.std.proofs.Common.{◌≡◌, drop, map, find}
use Rattle.value_styles.specs.StyleView.{term_view}
use Rattle.driver_styles.specs.Terms.{is_term}
use Rattle.driver_lookup.proofs.lookup.term_in.Given as goal

abbrev pub invariant-loop-term : goal.invariant-loop-term
invariant-loop-term l =
    find (is_term l.name l.form) (map term_view (drop l.term-index l.term-items)) ≡ find (is_term l.name l.form) (map term_view l.term-items)
