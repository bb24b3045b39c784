-- Given names that are expanded in all cites of a document.
use Rattle.std.specs.Prelude.{ℕ, ◌==◌, List, Option, None, Some, if◌then◌else◌}
use Rattle.value_sources.specs.declared.names.DisambiguatedNameForm.{DisambiguatedNameForm}
use Rattle.value_styles.specs.declared.style.DisambiguationRule.{DisambiguationRule}
use Rattle.mentions_names.specs.Looks.{full_look, needed}
use Rattle.mentions_names.specs.Persons.{all_persons, first_persons}
use Rattle.mentions_names.specs.declared.mention.MentionedName.{MentionedName}
use Rattle.mentions_names.specs.declared.mention.NamedMention.{NamedMention}

-- a name that initials don't tell apart stays short
abbrev pub without_full : DisambiguatedNameForm → DisambiguatedNameForm
without_full DisambiguatedNameForm.LongFull = DisambiguatedNameForm.Short
without_full form = form

-- the form of name i by a rule, from the form that it needs among all persons (`all`) and the one
-- that it needs among first persons (`first`)
abbrev pub form_by_rule : Option DisambiguationRule → ℕ → DisambiguatedNameForm
    → DisambiguatedNameForm → DisambiguatedNameForm
form_by_rule None i all first = DisambiguatedNameForm.Short
form_by_rule (Some DisambiguationRule.ByCite) i all first = DisambiguatedNameForm.Short
form_by_rule (Some DisambiguationRule.AllNames) i all first = all
form_by_rule (Some DisambiguationRule.AllNamesWithInitials) i all first = without_full all
form_by_rule (Some DisambiguationRule.PrimaryName) i all first = if i == 0 then first
    else DisambiguatedNameForm.Short
form_by_rule (Some DisambiguationRule.PrimaryNameWithInitials) i all first =
    if i == 0 then without_full first else DisambiguatedNameForm.Short

-- the form of name i of a mention of this rule, among all mentions of the document
abbrev pub document_form : List NamedMention → Option DisambiguationRule → ℕ → MentionedName
    → DisambiguatedNameForm
document_form mentions rule i name = form_by_rule rule i
    (needed (full_look name.person) (all_persons mentions))
    (needed (full_look name.person) (first_persons mentions))
