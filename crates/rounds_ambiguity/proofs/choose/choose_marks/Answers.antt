use Rattle.std.proofs.Common.{ap, sym, ◌∙◌}
use Rattle.std.specs.Prelude.{option_map}
use Rattle.std.proofs.lemmas.Result.{IfOk-weaker}
use Rattle.driver_passes.specs.RendersView.{renders_view}
use Rattle.rounds_ambiguity.specs.Members.{members}
use Rattle.rounds_ambiguity.proofs.Chosen.{marks-chosen}
use Rattle.rounds_ambiguity.proofs.choose.choose_marks.Goals as goal

pub returns-in-Some : goal.returns-in-Some
returns-in-Some g c =
    IfOk-weaker c.marks_of_others.result _ _
    (λ v made. marks-chosen g.T.PartialEq.eq (members (renders_view c.args.cites.now) c.args.group.now) c.may_be_chosen.result c.in-Some.spared.now v.items
    c.may_be_chosen.ensures c.if-not-may_be_chosen.false (sym (ap (option_map (λ e. e.now)) c.in-Some.is) ∙ c.first_asking.ensures) made)
    c.marks_of_others.ensures
