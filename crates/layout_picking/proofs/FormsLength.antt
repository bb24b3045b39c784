-- The forms of names are as many as the names.
use Rattle.std.proofs.Common.{◌≡◌, ◌-◌, ◌≤◌, ℕ, length, replicate, min, Bool, true, false, cond, arith, length-append, is_none, Option, refl}
use Rattle.std.proofs.lemmas.List.{length-replicate}
use Rattle.value_sources.specs.declared.names.DisambiguatedNameForm.{DisambiguatedNameForm}
use Rattle.value_sources.specs.declared.names.NameDisambiguationProperties.{NameDisambiguationProperties}
use Rattle.value_sources.specs.Forms.{Forms}
use Rattle.layout_picking.specs.declared.notes.Notes.{Notes}
use Rattle.driver_lookup.specs.declared.state.DisambiguateState.{DisambiguateState}
use Rattle.driver_lookup.specs.Means.{told_forms}
use Rattle.driver_lookup.proofs.Told.{as_many_told}
use Rattle.layout_picking.specs.NameRules.{Rules, is_cut, written_count, forms_by}

at_most : (cut : Bool) (kept count : ℕ) → cond cut (min kept count) count ≤ count
at_most true kept count = omega arith
at_most false kept count = omega arith

pub length_of_forms : (r : Rules) (count : ℕ) → length (forms_by r count) ≡ count
length_of_forms r count =
    let h : written_count r count ≤ count = at_most (is_cut r.et_al_min count) r.kept count in
    omega (
      arith,
      h,
      length-append (replicate (written_count r count) r.form) (replicate (count - written_count r count) DisambiguatedNameForm.Count),
      length-replicate (written_count r count) r.form,
      length-replicate (count - written_count r count) DisambiguatedNameForm.Count,
    )

chosen : (b : Bool) (told forms : Forms) → length told ≡ length forms → length (cond b told forms) ≡ length forms
chosen true told forms h = h
chosen false told forms h = refl

-- those of the first block, where means have these least forms
pub length_of_first_forms : (least : Option NameDisambiguationProperties) (s : DisambiguateState) (n : Notes) (forms : Forms)
    → length (cond (is_none n.first_name) (told_forms least s forms) forms) ≡ length forms
length_of_first_forms least s n forms = chosen (is_none n.first_name) (told_forms least s forms) forms (as_many_told least s forms)
