use Rattle.std.proofs.Common.{◌≡◌, map, take}
use Rattle.value_sources.specs.declared.taxonomy.Term.{Term}
use Rattle.value_sources.specs.declared.taxonomy.TermForm.{TermForm}
use Rattle.value_sources.specs.Found.{first_at}
use Rattle.value_styles.specs.StyleView.{term_view}
use Rattle.driver_styles.specs.Terms.{is_term}
use Rattle.driver_styles.specs.TermsPlaced.{term_placed}
use Rattle.driver_styles.proofs.term_table.term_places.Given as goal

abbrev pub invariant-loop-i : goal.invariant-loop-i
invariant-loop-i l = (key : Term × TermForm) → term_placed l.places key ≡ first_at (is_term key.0 key.1) (map term_view (take l.i l.locale.terms.items))
