use Rattle.std.proofs.Common.{◌∙◌, sym}
use Rattle.std.specs.Option.{option_or}
use Rattle.driver_lookup.specs.Lookup.{first_answer, asked_own, asked_files}
use Rattle.driver_lookup.specs.PreparedLookup.{prepared_lookup}
use Rattle.driver_styles.specs.Terms.{term_in}
use Rattle.driver_lookup.proofs.FirstAnswers.{answer-append}
use Rattle.driver_lookup.proofs.prepared.term_by_tables.Goals as goal

pub returns-in-Some : goal.returns-in-Some
returns-in-Some c =
    let f = term_in c.args.name c.args.form in
    let k = prepared_lookup c.args.prepared c.args.code.now in
    sym (answer-append f (asked_own k) (asked_files k) ∙ (λ i. option_or (sym c.in-Some.ensures i) (first_answer f (asked_files k))))

pub returns-in-None : goal.returns-in-None
returns-in-None c =
    let f = term_in c.args.name c.args.form in
    let k = prepared_lookup c.args.prepared c.args.code.now in
    c.file_term.ensures ∙ sym (answer-append f (asked_own k) (asked_files k) ∙ (λ i. option_or (sym c.in-None.ensures i) (first_answer f (asked_files k))))
