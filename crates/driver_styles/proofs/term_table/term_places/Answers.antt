-- One more term.
use Rattle.std.proofs.Common.{◌≡◌, ◌<◌, ◌∙◌, List, Some, length, map, take, cond, unwrap_or, Bool, sym, ap, subst, arith}
use Rattle.value_sources.specs.declared.taxonomy.Term.{Term}
use Rattle.value_sources.specs.declared.taxonomy.TermForm.{TermForm}
use Rattle.value_sources.specs.Found.{first_at}
use Rattle.value_styles.specs.Style.{TermValue}
use Rattle.value_styles.specs.StyleView.{term_view}
use Rattle.value_styles.proofs.FirstPlaces.{next_place}
use Rattle.driver_styles.specs.Terms.{is_term}
use Rattle.driver_styles.specs.TermsPlaced.{term_placed}
use Rattle.driver_styles.proofs.TermPlaces.{alike, terms-next, length-terms}
use Rattle.driver_styles.proofs.term_table.term_places.Goals as goal

pub loop-i-preserved : goal.loop-i-preserved
loop-i-preserved c =
    let l = c.loop-i in
    let terms = c.args.locale.now.terms in
    let xs = terms.items in
    let t = term_view c.index-term.result.now in
    let key : Term × TermForm = (t.name, t.form) in
    let test : Term × TermForm → TermValue → Bool = λ k. is_term k.0 k.1 in
    let before = map term_view (take l.i xs) in
    let lt : l.i < length xs = omega (arith, c.loop-i-test.true, c.len-i-end.ensures, terms.ok.0) in
    let at = length-terms xs l.i lt in
    let first : c.unwrap_or-first.result ≡ unwrap_or (term_placed l.places key) l.i = c.unwrap_or-first.ensures ∙ ap (λ o. unwrap_or o l.i) (c.copied.ensures ∙ c.get.ensures.value) in
    let adds : (k : Term × TermForm) → term_placed c.insert.new.self k ≡ cond (test k t) (Some (unwrap_or (term_placed l.places key) (length before))) (term_placed l.places k) = λ k.
    c.in_ok-insert.ensures.updates.0 k
    ∙ (λ j. cond (test k t) (Some (first j)) (term_placed l.places k))
    ∙ (λ j. cond (test k t) (Some (unwrap_or (term_placed l.places key) (sym at j))) (term_placed l.places k)) in
    let Holds : List TermValue → Type 0 = λ ts. (k : Term × TermForm) → term_placed c.insert.new.self k ≡ first_at (test k) ts in
    subst Holds (sym (terms-next xs l.i c.index-term.result.now lt c.index-term.ensures)) (next_place test t key (alike t) (term_placed l.places) (term_placed c.insert.new.self) before l.invariant adds)
