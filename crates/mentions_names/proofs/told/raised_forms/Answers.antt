use Rattle.std.proofs.Common.{◌++◌, ◌∷◌, [], ap, map, sym, ◌∙◌}
use Rattle.std.specs.List.{enumerate_from}
use Rattle.list_lemmas.proofs.Stepping.{enumerate-all, made-next}
use Rattle.mentions_names.specs.ByDocument.{document_form}
use Rattle.mentions_names.specs.Forms.{base, greater, raised_form}
use Rattle.mentions_names.specs.Persons.{own_forms}
use Rattle.mentions_names.specs.Raising.{form_needed_by}
use Rattle.mentions_names.proofs.InDocument.{document-form}
use Rattle.mentions_names.proofs.told.raised_forms.Goals as goal

pub loop-i-preserved : goal.loop-i-preserved
loop-i-preserved c =
    let k = c.loop-i.i in
    let x = c.index-names-i.result in
    let m = c.args.mention.now in
    let needs = c.args.needs.now in
    c.in_ok-push.ensures.items
    ∙ (λ t. c.loop-i.invariant t
    ++ (c.raised_form.ensures
    ∙ (λ u. raised_form ((c.base-base.ensures ∙ ap (λ ns. base (own_forms ns)) c.as_slice-names.ensures) u) needs.count k
    ((c.greater-least.ensures
    ∙ (λ v. greater ((c.in_ok-in_document.ensures ∙ document-form c.args.document.now c.args.mentions.now c.requires m.rule k x) v) (c.form_needed.ensures v))) u) x.own)) t ∷ [])
    ∙ sym (made-next c.as_slice-names.result.now k x c.loop-i-test.true c.index-names-i.is
    (λ p. raised_form (base (own_forms m.names)) needs.count p.0 (greater (document_form c.args.mentions.now m.rule p.0 p.1) (form_needed_by needs p.0)) p.1.own))

pub returns : goal.returns
returns c =
    let m = c.args.mention.now in
    let needs = c.args.needs.now in
    c.loop-i.invariant
    ∙ ap (map (λ p. raised_form (base (own_forms m.names)) needs.count p.0 (greater (document_form c.args.mentions.now m.rule p.0 p.1) (form_needed_by needs p.0)) p.1.own))
    (enumerate-all c.as_slice-names.result.now c.loop-i.i c.loop-i-test.false ∙ ap (enumerate_from 0) c.as_slice-names.ensures)
