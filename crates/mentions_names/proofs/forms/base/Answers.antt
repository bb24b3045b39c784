use Rattle.std.proofs.Common.{ap, sym, take, ◌∙◌, ◌∷◌, []}
use Rattle.std.proofs.lemmas.List.Sums.{fold-append}
use Rattle.list_lemmas.proofs.Stepping.{map-next}
use Rattle.value_sources.specs.declared.names.DisambiguatedNameForm.{DisambiguatedNameForm}
use Rattle.mentions_names.specs.Forms.{greater, greatest_form}
use Rattle.mentions_names.specs.Persons.{own_forms}
use Rattle.mentions_names.proofs.forms.base.Goals as goal

pub loop-name-preserved : goal.loop-name-preserved
loop-name-preserved c =
    let names = c.args.names.now in
    let k = c.loop-name.name-index in
    let x = c.name-item.result in
    c.greater-base.ensures ∙ ap (λ b. greater b x.own) c.loop-name.invariant
    ∙ sym (ap greatest_form (map-next names k x c.loop-name-test.true c.name-item.is (λ n. n.own))
    ∙ fold-append greater DisambiguatedNameForm.Short (own_forms (take k names)) (x.own ∷ []))
