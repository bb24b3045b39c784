-- The name options that hold in the end, and the forms that they give the names of one variable
-- (CSL 1.0.2, name, et-al abbreviation).
use Rattle.std.specs.Prelude.{ℕ, ◌-◌, min, max, List, [], ◌++◌, replicate, Bool, false, nat_le, Option, Some, None, unwrap_or, codes, if◌then◌else◌}
use Rattle.value_styles.specs.declared.element.NameAnd.{NameAnd}
use Rattle.value_styles.specs.declared.element.NameForm.{NameForm}
use Rattle.value_sources.specs.declared.names.DisambiguatedNameForm.{DisambiguatedNameForm}
use Rattle.value_styles.specs.Element.{NameOptions}
use Rattle.value_sources.specs.Forms.{Forms}

pub record Rules : Type 0 where
  -- the word before the last name
  pub and : Option NameAnd
  -- what stands between two names, and between the names of two variables
  pub name_delimiter : List ℕ
  pub names_delimiter : List ℕ
  -- from how many names on they are cut, and how many are kept then
  pub et_al_min : Option ℕ
  pub kept : ℕ
  -- how a name is written that isn't cut
  pub form : DisambiguatedNameForm
  -- what follows each initial
  pub initial_end : List ℕ

-- short names, else initials where something is to follow them, else full names
abbrev pub base_form : Option NameForm → Option (List ℕ) → DisambiguatedNameForm
base_form (Some NameForm.Short) end = DisambiguatedNameForm.Short
base_form _ (Some end) = DisambiguatedNameForm.LongInitialized
base_form _ None = DisambiguatedNameForm.LongFull

-- without an option: no word, `, ` between names, none cut, one kept
abbrev pub rules_of : NameOptions → Rules
rules_of o = record {
  and = o.and;
  name_delimiter = unwrap_or o.name_delimiter (codes ", ");
  names_delimiter = unwrap_or o.names_delimiter (codes ", ");
  et_al_min = o.et_al_min;
  kept = max 1 (unwrap_or o.et_al_use_first 1);
  form = base_form o.name_form o.initialize_with;
  initial_end = unwrap_or o.initialize_with [];
}

-- whether so many names are cut
abbrev pub is_cut : Option ℕ → ℕ → Bool
is_cut None count = false
is_cut (Some least) count = nat_le least count

-- how many of so many names are written
abbrev pub written_count : Rules → ℕ → ℕ
written_count r count = if is_cut r.et_al_min count then min r.kept count else count

-- the forms of so many names: those behind the written ones only count
abbrev pub forms_by : Rules → ℕ → Forms
forms_by r count =
    replicate (written_count r count) r.form
    ++ replicate (count - written_count r count) DisambiguatedNameForm.Count
