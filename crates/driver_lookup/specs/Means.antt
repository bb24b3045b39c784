-- What tells an entry from others: one means, which is a state, or several taken together.
use Rattle.std.specs.Prelude.{ℕ, ◌++◌, Bool, true, false, not, ◌&&◌, Option, Some, None, is_none, length, take, drop, map, slice_get}
use Rattle.std.specs.List.{enumerate_from}
use Rattle.std.specs.Ordering.{ord_max}
use Rattle.value_sources.specs.Forms.{Forms}
use Rattle.value_sources.specs.Ordered.{form_cmp}
use Rattle.value_sources.specs.declared.names.DisambiguatedNameForm.{DisambiguatedNameForm}
use Rattle.value_sources.specs.declared.names.NameDisambiguationProperties.{NameDisambiguationProperties}
use Rattle.driver_lookup.specs.declared.means.Means.{Means}
use Rattle.driver_lookup.specs.declared.state.DisambiguateState.{DisambiguateState}

abbrev pub no_means : Means
no_means = record { names = None; choose = false; suffix = None }

abbrev pub are_none : Means → Bool
are_none m = (is_none m.names && not m.choose) && is_none m.suffix

-- the greater of a form and of the one that is told for it, if any
abbrev pub at_least : Option DisambiguatedNameForm → DisambiguatedNameForm → DisambiguatedNameForm
at_least None form = form
at_least (Some told) form = ord_max form_cmp form told

-- forms, each at least the one that is told at its place
abbrev pub raised_forms : Forms → Forms → Forms
raised_forms least forms = map (λ p. at_least (slice_get least p.0) p.1) (enumerate_from 0 forms)

-- a state of names has forms of its own for the first names
abbrev pub forms_in : DisambiguateState → Forms → Forms
forms_in (DisambiguateState.NameDisambiguation own) forms = take (length forms) own.forms
    ++ drop (length own.forms) forms
forms_in _ forms = forms

-- the means have the least forms; without names among them the state has its say
abbrev pub told_forms : Option NameDisambiguationProperties → DisambiguateState → Forms → Forms
told_forms (Some least) state forms = raised_forms least.forms forms
told_forms None state forms = forms_in state forms

-- the forms of names to which the rules of their style give these
abbrev pub names_told : DisambiguateState → Means → Forms → Forms
names_told state means forms = told_forms means.names state forms

-- whether the test of `disambiguate` holds
abbrev pub is_chosen : DisambiguateState → Means → Bool
is_chosen DisambiguateState.Choose means = true
is_chosen _ means = means.choose

-- the suffix of the year
abbrev pub suffix_told : DisambiguateState → Means → Option ℕ
suffix_told (DisambiguateState.YearSuffix suffix) means = Some suffix
suffix_told _ means = means.suffix
