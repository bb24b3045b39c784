use Rattle.std.proofs.Common.{ap, subst, sym, ◌∙◌}
use Rattle.driver_passes.specs.RendersView.{renders_view}
use Rattle.rounds_names.specs.Classes.{StandApart}
use Rattle.rounds_names.specs.NamedCites.{greatest_step, named_cites}
use Rattle.rounds_names.specs.NameMarks.{marks_after}
use Rattle.rounds_names.specs.Steps.{step, steps}
use Rattle.rounds_names.proofs.Apart.{members-apart}
use Rattle.rounds_names.proofs.Marking.{in_other_words, marks-are}
use Rattle.rounds_names.proofs.marks.disambiguate_names.Goals as goal

pub group_marks-requires : goal.group_marks-requires
group_marks-requires g c =
    let cites = renders_view c.args.cites.now in
    subst StandApart (sym (c.deref-3.ensures.value ∙ c.in_ok-members.ensures ∙ ap (named_cites cites) c.deref.ensures.value))
    (members-apart cites c.args.group.now.items c.requires.distinct)

pub returns : goal.returns
returns g c =
    let cites = renders_view c.args.cites.now in
    let m = c.greatest_step-greatest.result in
    in_other_words c.group_marks.result (λ v. v.items) _ _
    (ap (λ l. marks_after l (steps l m) (step l m)) c.deref-3.ensures.value
    ∙ marks-are cites c.args.group.now.items c.in_ok-members.members.items m
    (c.in_ok-members.ensures ∙ ap (named_cites cites) c.deref.ensures.value)
    (c.greatest_step-greatest.ensures ∙ ap (λ b. greatest_step b c.deref-2.result.now) c.first_adds_names.ensures ∙ ap (greatest_step _) c.deref-2.ensures.value))
    c.group_marks.ensures
