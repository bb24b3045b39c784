use Rattle.std.proofs.Common.{refl, sym, true≢false, arith}
use Rattle.std.proofs.lemmas.List.Elements.{All-head}
use Rattle.std.specs.Prelude.{map}
use Rattle.mentions_groups.specs.declared.state.MentionState.{MentionState}
use Rattle.mentions_tables.specs.Tables.{named}
use Rattle.mentions_tables.specs.declared.subject.Subject.{Subject}
use Rattle.value_sources.specs.declared.names.DisambiguatedNameForm.{DisambiguatedNameForm}
use Rattle.mentions_laws.specs.Adding.{AddsAsStylesSay}
use Rattle.test_wrong_answers.specs.Given.{both_names, names, subject, subjects, write}
use Rattle.test_wrong_answers.proofs.given.names_in_spite_of_the_style.Goals as goal

pub returns-clause-refuted : goal.returns-clause-refuted
returns-clause-refuted c = λ h.
    let first : AddsAsStylesSay (map (named write subjects) subjects) (named write subjects (subject 65 0)) both_names.names = h 0 (subject 65 0, both_names) (omega arith) in
    true≢false (sym (first.no_names refl 1 _ DisambiguatedNameForm.Short (record { is_name = refl; is_form = refl }) refl))

pub returns-clause-right : goal.returns-clause-right
returns-clause-right c = c.names_are_as_styles_say.ensures write subjects
