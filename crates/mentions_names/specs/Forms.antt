-- The forms of the names of a mention, and these raised.
use Rattle.std.specs.Prelude.{ℕ, Bool, true, false, Option, None, Some, if◌then◌else◌, map, nat_lt}
use Rattle.std.specs.Cmp.Lexicographic.{pointwise}
use Rattle.std.specs.List.{enumerate_from, fold, position_or_len}
use Rattle.std.specs.Ordering.{ord_max}
use Rattle.value_sources.specs.Forms.{Forms}
use Rattle.value_sources.specs.Ordered.{form_cmp}
use Rattle.value_sources.specs.contracts.names.DisambiguatedNameFormPartialEq.TheImpl as form_eq
use Rattle.value_sources.specs.declared.names.DisambiguatedNameForm.{DisambiguatedNameForm}
use Rattle.value_sources.specs.declared.names.NameDisambiguationProperties.{NameDisambiguationProperties}

-- the form that writes more of a name
abbrev pub greater : DisambiguatedNameForm → DisambiguatedNameForm → DisambiguatedNameForm
greater = ord_max form_cmp

-- the greatest of these, and the short form at least
abbrev pub greatest_form : Forms → DisambiguatedNameForm
greatest_form forms = fold greater DisambiguatedNameForm.Short forms

-- whether two forms are equal, by their derived test
abbrev pub same_form : DisambiguatedNameForm → DisambiguatedNameForm → Bool
same_form = (form_eq.ghosts).eq

abbrev pub only_counts : DisambiguatedNameForm → Bool
only_counts DisambiguatedNameForm.Count = true
only_counts _ = false

-- the form in which a style writes names, of those that it writes by itself
abbrev pub base : Forms → DisambiguatedNameForm
base own = greatest_form own

-- the form of a name that is written: the base where by itself it only counts
abbrev pub written : DisambiguatedNameForm → DisambiguatedNameForm → DisambiguatedNameForm
written base own = if only_counts own then base else own

-- how many names a style shows by itself, before the first that it leaves out
abbrev pub shown : Forms → ℕ
shown own = position_or_len only_counts own

-- the form of name i where so many names are shown, and a written one has this form at least
abbrev pub raised_form : DisambiguatedNameForm → ℕ → ℕ → DisambiguatedNameForm
    → DisambiguatedNameForm → DisambiguatedNameForm
raised_form base count i least DisambiguatedNameForm.Count =
    if nat_lt i count then greater least base else DisambiguatedNameForm.Count
raised_form base count i least own = greater least own

-- the forms where so many names are shown, each that is written in its least form
abbrev pub raised_forms : Forms → ℕ → (ℕ → DisambiguatedNameForm) → Forms
raised_forms own count least =
    map (λ p. raised_form (base own) count p.0 (least p.0) p.1) (enumerate_from 0 own)

abbrev pub same_forms : Forms → Forms → Bool
same_forms = pointwise same_form

-- these, if they differ from what the style shows by itself
abbrev pub raised : Forms → ℕ → (ℕ → DisambiguatedNameForm) → Option NameDisambiguationProperties
raised own count least = if same_forms (raised_forms own count least) own then None
    else Some (record { forms = raised_forms own count least })
