use Rattle.std.proofs.Common.{◌≡◌, IfOk, Ok, Err, ap, subst, sym, ◌∙◌}
use Rattle.cite_names.proofs.OwnForms.{own-lead, own-shown}
use Rattle.cite_names.specs.EtAl.{shown_names}
use Rattle.cite_names.specs.NameForms.{ShowsLeading, first_in_form, own_forms, shown_by}
use Rattle.cite_names.proofs.forms.own_forms.Goals as goal

pub returns-clause-shown : goal.returns-clause-shown
returns-clause-shown c =
    let rules = c.args.rules.now in
    let count = c.args.count in
    let form = c.form_of.ensures in
    let shown = c.shown_names-shown.ensures in
    let first = c.first_names.ensures in
    elim c.first_in_form.result as (λ r. IfOk r (λ v. v.items ≡ first_in_form c.form_of.result c.first_names.result count)
    → IfOk r (λ v. shown_by v.items rules.use_last count count ≡ shown_names rules.cut rules.use_last count)) [
      | Ok v ↦ λ e. let all : v.items ≡ own_forms rules count = cc in ap (λ f. shown_by f rules.use_last count count) all ∙ own-shown rules count
      | Err e ↦ λ _. tt
    ] c.first_in_form.ensures

pub returns-clause-leading : goal.returns-clause-leading
returns-clause-leading c =
    let rules = c.args.rules.now in
    let count = c.args.count in
    let form = c.form_of.ensures in
    let shown = c.shown_names-shown.ensures in
    let first = c.first_names.ensures in
    elim c.first_in_form.result as (λ r. IfOk r (λ v. v.items ≡ first_in_form c.form_of.result c.first_names.result count)
    → IfOk r (λ v. ShowsLeading v.items)) [
      | Ok v ↦ λ e. let all : v.items ≡ own_forms rules count = cc in subst ShowsLeading (sym all) (own-lead rules count)
      | Err e ↦ λ _. tt
    ] c.first_in_form.ensures
