-- The forms of the names of a list, and which names these show.
use Rattle.std.specs.Prelude.{◌≡◌, ℕ, ◌-◌, min, Bool, ◌&&◌, true, false, List, ◌++◌, All, drop, length, replicate, nat_eq, is_some}
use Rattle.std.specs.List.{position_or_len, suffix_len}
use Rattle.cite_names.specs.EtAl.{first_names, shown_names, truncated}
use Rattle.value_sources.specs.declared.names.DisambiguatedNameForm.{DisambiguatedNameForm}
use Rattle.value_sources.specs.declared.names.DisambiguatedNameForm.TheVariants.{Count, LongInitialized, LongFull}
use Rattle.style_file.specs.declared.names.NameForm.{NameForm}
use Rattle.cite_names.specs.declared.rules.NameRules.{NameRules}
use Rattle.cite_names.specs.declared.shown.ShownNames.{ShownNames}

abbrev pub only_counts : DisambiguatedNameForm → Bool
only_counts Count = true
only_counts _ = false

-- the form of a name that is written, where its given names are initials or not
abbrev pub written_form : NameForm → Bool → DisambiguatedNameForm
written_form NameForm.Short initials = DisambiguatedNameForm.Short
written_form _ true = LongInitialized
written_form _ false = LongFull

-- so many forms: the first ones are this form, and the others only count
abbrev pub first_in_form : DisambiguatedNameForm → ℕ → ℕ → List DisambiguatedNameForm
first_in_form form first count = replicate first form ++ replicate (count - first) Count

-- the forms of so many names by the rules alone
abbrev pub form_by : NameRules → DisambiguatedNameForm
form_by rules = written_form rules.form (is_some rules.initialize_with && rules.initialize)

abbrev pub own_forms : NameRules → ℕ → List DisambiguatedNameForm
own_forms rules count = first_in_form (form_by rules)
    (first_names (shown_names rules.cut rules.use_last count) count) count

-- how many names there are up to the last one that is written
abbrev pub written_names : List DisambiguatedNameForm → ℕ
written_names forms = length forms - suffix_len only_counts forms

-- which names of a list of `count` these forms show. Where fewer are named the last one stands for
-- others: it is no name, and never shown
abbrev pub shown_by : List DisambiguatedNameForm → Bool → ℕ → ℕ → ShownNames
shown_by forms use_last named count =
    truncated (min (written_names forms) named) (use_last && nat_eq named count) count

-- the names that only count are the last ones
abbrev pub ShowsLeading : List DisambiguatedNameForm → Type 0
ShowsLeading forms =
    All (λ f. only_counts f ≡ true) (drop (position_or_len only_counts forms) forms)
