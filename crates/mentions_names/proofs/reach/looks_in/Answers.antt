use Rattle.std.proofs.Common.{◌++◌, ◌∷◌, [], ap, map, sym, ◌∙◌}
use Rattle.std.specs.List.{enumerate_from}
use Rattle.list_lemmas.proofs.Stepping.{enumerate-all, made-next}
use Rattle.mentions_names.specs.ByDocument.{document_form}
use Rattle.mentions_names.specs.Forms.{base}
use Rattle.mentions_names.specs.Looks.{look}
use Rattle.mentions_names.specs.Persons.{own_forms}
use Rattle.mentions_names.specs.Reaches.{can_be_shown, reach_form}
use Rattle.mentions_names.proofs.reach.looks_in.Goals as goal

pub loop-i-preserved : goal.loop-i-preserved
loop-i-preserved c =
    let k = c.loop-i.i in
    let x = c.index-names-i.result in
    let rule = c.args.mention.now.rule in
    c.in_ok-push.ensures.items
    ∙ (λ t. c.loop-i.invariant t
    ++ (c.in_ok-look_of.ensures
    ∙ ap (λ b. look (reach_form c.args.by_cite b (document_form c.args.mentions.now rule k x) x.own) x.person) (c.base-base.ensures ∙ ap (λ ns. base (own_forms ns)) c.as_slice.ensures)) t ∷ [])
    ∙ sym (made-next c.can_be_shown-names.result.now k x c.loop-i-test.true c.index-names-i.is
    (λ p. look (reach_form c.args.by_cite (base (own_forms c.args.mention.now.names)) (document_form c.args.mentions.now rule p.0 p.1) p.1.own) p.1.person))

pub returns : goal.returns
returns c =
    let rule = c.args.mention.now.rule in
    c.loop-i.invariant
    ∙ ap (map (λ p. look (reach_form c.args.by_cite (base (own_forms c.args.mention.now.names)) (document_form c.args.mentions.now rule p.0 p.1) p.1.own) p.1.person))
    (enumerate-all c.can_be_shown-names.result.now c.loop-i.i c.loop-i-test.false
    ∙ ap (enumerate_from 0) (c.can_be_shown-names.ensures ∙ ap (can_be_shown c.args.adds_names) c.as_slice-2.ensures))
