use Rattle.std.proofs.Common.{◌≡◌, ap, sym, true≢false}
use Rattle.std.specs.Cmp.{booleans_Decides, unsigned_Decides}
use Rattle.std.specs.Prelude.{string_bytes}
use Rattle.value_styles.proofs.Seen.{texts_told}
use Rattle.value_sources.proofs.Told.{option_told, strings_told}
use Rattle.value_styles.specs.Element.{value_target, standard_target, macro_target, term_target}
use Rattle.value_styles.specs.ElementView.{target_view}
use Rattle.value_sources.specs.Finds.{both, and-true}
use Rattle.value_sources.specs.Tells.{TellsEqual, TellsSeen}
use Rattle.value_styles.specs.contracts.element.TextTargetPartialEq.TheImpl as target_eq
use Rattle.value_sources.specs.contracts.taxonomy.StandardVariablePartialEq.TheImpl as standard_eq
use Rattle.value_sources.specs.contracts.taxonomy.TermPartialEq.TheImpl as term_eq
use Rattle.value_sources.specs.contracts.taxonomy.TermFormPartialEq.TheImpl as form_eq
use Rattle.value_styles.specs.declared.element.TextTarget.TheVariants as v
use Rattle.value_styles.proofs.laws.options_equality_decides.Goals as goal

pub returns-clause-options : goal.returns-clause-options
returns-clause-options c a b =
    let chosen = c.choice_equality_decides.ensures in
    let ands = option_told chosen.and in
    let names = option_told chosen.name in
    let numbers = option_told unsigned_Decides in (
      λ e. let p = both _ _ e in let q = both _ _ p.1 in let r = both _ _ q.1 in let s = both _ _ r.1 in let t = both _ _ s.1 in let u = both _ _ t.1 in
          λ i. record {
            and = (ands a.and b.and).0 p.0 i;
            name_delimiter = (texts_told a.name_delimiter b.name_delimiter).0 q.0 i;
            names_delimiter = (texts_told a.names_delimiter b.names_delimiter).0 r.0 i;
            et_al_min = (numbers a.et_al_min b.et_al_min).0 s.0 i;
            et_al_use_first = (numbers a.et_al_use_first b.et_al_use_first).0 t.0 i;
            name_form = (names a.name_form b.name_form).0 u.0 i;
            initialize_with = (texts_told a.initialize_with b.initialize_with).0 u.1 i;
          },
      λ e.
          and-true _ _ ((ands a.and b.and).1 (ap (λ o. o.and) e))
          (and-true _ _ ((texts_told a.name_delimiter b.name_delimiter).1 (ap (λ o. o.name_delimiter) e))
          (and-true _ _ ((texts_told a.names_delimiter b.names_delimiter).1 (ap (λ o. o.names_delimiter) e))
          (and-true _ _ ((numbers a.et_al_min b.et_al_min).1 (ap (λ o. o.et_al_min) e))
          (and-true _ _ ((numbers a.et_al_use_first b.et_al_use_first).1 (ap (λ o. o.et_al_use_first) e))
          (and-true _ _ ((names a.name_form b.name_form).1 (ap (λ o. o.name_form) e))
          ((texts_told a.initialize_with b.initialize_with).1 (ap (λ o. o.initialize_with) e))))))),
    )

module _ (standard : TellsEqual (standard_eq.ghosts).eq) (term : TellsEqual (term_eq.ghosts).eq) (form : TellsEqual (form_eq.ghosts).eq) where
  targets : TellsSeen target_view (target_eq.ghosts).eq
  targets (v.Value s) (v.Value t) = (
    λ e. ap value_target ((strings_told s t).0 e),
    λ e. let same : string_bytes s ≡ string_bytes t = cc in (strings_told s t).1 same,
  )
  targets (v.Standard s) (v.Standard t) = (
    λ e. ap standard_target ((standard s t).0 e),
    λ e. let same : s ≡ t = cc in (standard s t).1 same,
  )
  targets (v.Macro s) (v.Macro t) = (
    λ e. ap macro_target ((strings_told s t).0 e),
    λ e. let same : string_bytes s ≡ string_bytes t = cc in (strings_told s t).1 same,
  )
  targets (v.Term s f p) (v.Term t g q) = (
    λ e. let x = both _ _ e in let y = both _ _ x.1 in
        λ i. term_target ((term s t).0 x.0 i) ((form f g).0 y.0 i) ((booleans_Decides p q).0 y.1 i),
    λ e.
        let terms : s ≡ t = cc in
        let forms : f ≡ g = cc in
        let plural : p ≡ q = cc in
        and-true _ _ ((term s t).1 terms) (and-true _ _ ((form f g).1 forms) ((booleans_Decides p q).1 plural)),
  )
  targets _ _ = (λ e. absurd (true≢false (sym e)), λ e. cc)

pub returns-clause-target : goal.returns-clause-target
returns-clause-target c =
    let told = c.taxonomy_equality_decides.ensures in
    targets told.standard told.term told.form
