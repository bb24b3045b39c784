use Rattle.std.proofs.Common.{ap}
use Rattle.std.specs.Cmp.{booleans_Decides}
use Rattle.value_styles.proofs.Seen.{codes_told, texts_told}
use Rattle.value_sources.proofs.Told.{list_seen, option_told, some_seen}
use Rattle.value_sources.specs.Finds.{both, and-true}
use Rattle.value_styles.specs.StyleView.{term_view}
use Rattle.value_sources.specs.Tells.{TellsSeen}
use Rattle.value_styles.specs.contracts.locale.LocalizedTermPartialEq.TheImpl as term_eq
use Rattle.value_styles.proofs.laws.locale_equality_decides.Goals as goal

pub returns-clause-term : goal.returns-clause-term
returns-clause-term c a b =
    let told = c.taxonomy_equality_decides.ensures in (
      λ e. let p = both _ _ e in let q = both _ _ p.1 in let r = both _ _ q.1 in
          λ i. record {
            name = (told.term a.name b.name).0 p.0 i;
            form = (told.form a.form b.form).0 q.0 i;
            single = (texts_told a.single b.single).0 r.0 i;
            multiple = (texts_told a.multiple b.multiple).0 r.1 i;
          },
      λ e.
          and-true _ _ ((told.term a.name b.name).1 (ap (λ t. t.name) e))
          (and-true _ _ ((told.form a.form b.form).1 (ap (λ t. t.form) e))
          (and-true _ _ ((texts_told a.single b.single).1 (ap (λ t. t.single) e))
          ((texts_told a.multiple b.multiple).1 (ap (λ t. t.multiple) e)))),
    )

pub returns-clause-locale : goal.returns-clause-locale
returns-clause-locale c a b =
    let term : TellsSeen term_view (term_eq.ghosts).eq = returns-clause-term c in
    let terms = list_seen term in
    let codes = some_seen codes_told in
    let truths = option_told booleans_Decides in (
      λ e. let p = both _ _ e in let q = both _ _ p.1 in
          λ i. record {
            lang = (codes a.lang b.lang).0 p.0 i;
            terms = (terms a.terms.items b.terms.items).0 q.0 i;
            punctuation_in_quote = (truths a.punctuation_in_quote b.punctuation_in_quote).0 q.1 i;
          },
      λ e.
          and-true _ _ ((codes a.lang b.lang).1 (ap (λ l. l.lang) e))
          (and-true _ _ ((terms a.terms.items b.terms.items).1 (ap (λ l. l.terms) e))
          ((truths a.punctuation_in_quote b.punctuation_in_quote).1 (ap (λ l. l.punctuation_in_quote) e))),
    )
