use Rattle.std.proofs.Common.{◌≡◌, ℕ, Bool, true, false, Option, None, Some, refl, ap, sym, true≢false}
use Rattle.std.specs.Prelude.{is_some}
use Rattle.std.proofs.lemmas.Option.{none-some, same_Some}
use Rattle.driver_lookup.specs.declared.state.DisambiguateState.{DisambiguateState}
use Rattle.driver_lookup.specs.declared.state.IbidState.{IbidState}
use Rattle.mentions_notes.specs.declared.notes.CiteNotes.{CiteNotes}
use Rattle.mentions_cites.specs.Arranging.{en_dash}
use Rattle.test_wrong_answers.proofs.given.given_otherwise.Goals as goal

abbrev chooses : DisambiguateState → Bool
chooses DisambiguateState.Choose = true
chooses _ = false

abbrev repeats : IbidState → Bool
repeats IbidState.Ibid = true
repeats _ = false

pub returns-clause-state : goal.returns-clause-state
returns-clause-state c = λ h. true≢false (ap chooses h.state)

pub returns-clause-nearness : goal.returns-clause-nearness
returns-clause-nearness c = λ h.
    true≢false (sym (ap (λ (n : CiteNotes). n.is_near) (same_Some _ _ h.notes)))

pub returns-clause-note : goal.returns-clause-note
returns-clause-note c = λ h. none-some 7 (sym h.note_number)

pub returns-clause-position : goal.returns-clause-position
returns-clause-position c = λ h. true≢false (ap repeats h.ibid)

pub returns-clause-dash : goal.returns-clause-dash
returns-clause-dash c = λ h. none-some en_dash (sym h.delimiter)

pub returns-clause-right : goal.returns-clause-right
returns-clause-right c = record {
  place = refl;
  own = refl;
  notes = refl;
  note_number = refl;
  ibid = refl;
  state = refl;
  usage = refl;
  hidden = refl;
  verdict = refl;
  delimiter = refl;
  shows = λ e. refl;
}
