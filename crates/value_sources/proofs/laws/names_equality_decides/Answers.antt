use Rattle.std.proofs.Common.{ap}
use denote.Enum.Bare.{same_true, true_same}
use Rattle.value_sources.proofs.Told.{list_told}
use Rattle.value_sources.specs.Tells.{TellsEqual}
use Rattle.value_sources.specs.contracts.names.DisambiguatedNameForm as form
use Rattle.value_sources.specs.contracts.names.DisambiguatedNameFormPartialEq.TheImpl as form_eq
use Rattle.value_sources.proofs.laws.names_equality_decides.Goals as goal

forms_told : TellsEqual (form_eq.ghosts).eq
forms_told a b = (same_true form.the_type tt a b, true_same form.the_type a b)

pub returns-clause-properties : goal.returns-clause-properties
returns-clause-properties c a b =
    let forms = list_told forms_told a.forms b.forms in (
      λ e. let same = forms.0 e in λ i. record { forms = same i },
      λ e. forms.1 (ap (λ p. p.forms) e),
    )
