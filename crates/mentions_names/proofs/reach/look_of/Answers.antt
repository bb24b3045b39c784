use Rattle.std.proofs.Common.{◌≡◌, ap, subst, ◌∙◌}
use Rattle.std.specs.Prelude.{IfOk}
use Rattle.mentions_names.specs.Looks.{look}
use Rattle.mentions_names.specs.Reaches.{reach_form}
use Rattle.mentions_names.proofs.InDocument.{document-form}
use Rattle.mentions_names.proofs.reach.look_of.Goals as goal

pub returns : goal.returns
returns c =
    subst (λ f. IfOk c.shown_as.result (λ r. r ≡ look f c.args.name.now.person))
    (c.reach_form.ensures
    ∙ ap (λ f. reach_form c.args.by_cite c.args.base f c.args.name.now.own)
    (c.in_ok-in_document.ensures ∙ document-form c.args.document.now c.args.mentions.now c.requires c.args.mention.now.rule c.args.i c.args.name.now))
    c.shown_as.ensures
