-- The forms of names: adding a name, and a write through a borrowed form.
use Rattle.std.specs.Prelude.{ℕ, zero, suc, List, Option, option_map, unwrap_or, slice_get, slice_set}
use Rattle.std.specs.Borrow.{LendsIf, MutBor, Fml}
use Rattle.value_sources.specs.declared.names.DisambiguatedNameForm.{DisambiguatedNameForm}
use Rattle.value_sources.specs.declared.names.NameDisambiguationProperties.{NameDisambiguationProperties}
use Rattle.value_sources.specs.contracts.names.DisambiguatedNameForm as form
use Rattle.value_sources.specs.contracts.names.NameDisambiguationProperties as properties

abbrev pub Forms : Type 0
Forms = List DisambiguatedNameForm

-- a form with the name written: where it only counts, the short form
abbrev pub form_written : DisambiguatedNameForm → DisambiguatedNameForm
form_written DisambiguatedNameForm.Count = DisambiguatedNameForm.Short
form_written form = form

-- the forms with name i, counted from one, written, if there is such a name
abbrev pub add_name : ℕ → Forms → Forms
add_name zero forms = forms
add_name (suc i) forms = unwrap_or
    (option_map (λ form. slice_set forms i (form_written form)) (slice_get forms i)) forms

-- the forms end as they were, with form i set to the last value behind r
abbrev pub LendsForm : MutBor NameDisambiguationProperties → ℕ
    → Option (MutBor DisambiguatedNameForm) → Fml
LendsForm names i r = LendsIf properties.the_row form.the_row names r
    (λ w. record { forms = slice_set names.now.forms i w }) names.now
