-- The account of an answer: what it cost, and how it numbers its entries and tells them apart.
use Rattle.std.specs.Prelude.{ℕ, ◌+◌, ◌*◌, Bool, List, Option, None, Some, length}
use Rattle.driver_writers.specs.Writing.{Writing}
use Rattle.csl_driver.specs.Answer.{Job, entries_listed, rendered_first}
use Rattle.driver_lookup.specs.declared.state.DisambiguateState.{DisambiguateState}
use Rattle.driver_passes.specs.Request.{Request, Wanted, cited, cites_of}
use Rattle.rounds_runs.specs.Rerenders.{rerenders}
use Rattle.rounds_runs.specs.Rounds.{told_by}
use Rattle.rounds_runs.specs.Tables.{last_states, round_tables, rounds}
use Rattle.rounds_runs.specs.declared.mode.RoundMode.{RoundMode}

-- so many where there is a bibliography
abbrev pub where_listed : {B : Type 0} → Option B → ℕ → ℕ
where_listed None n = 0
where_listed (Some b) n = n

-- the entries of the bibliography, where the style that was asked for has one
abbrev pub listed_count : {E P : Type 0} → (E → E → Bool) → Wanted E → List (Request E P) → ℕ
listed_count eq wanted requests =
    where_listed wanted.style.bibliography (length (entries_listed eq wanted requests))

module _ {E P : Type 0} (eq : E → E → Bool) (payload_eq : P → P → Bool) (writing : Writing E P)
    (mode : RoundMode) (job : Job E P) where
  -- how many rounds mark
  abbrev pub marking : ℕ
  marking = rounds mode eq writing (rendered_first eq payload_eq writing job)

  -- the renderings of the rounds: one in each that marks for each cite whose entry it marks
  abbrev pub rerendered : ℕ
  rerendered = rerenders (cited job.requests)
      (round_tables mode eq writing (rendered_first eq payload_eq writing job))

  -- the renderings: two for each cite, hidden or not; those of the rounds; and one for each entry
  -- of the bibliography, where there is one
  abbrev pub cost : ℕ
  cost = 2 * length (cites_of job.requests) + rerendered + listed_count eq job.wanted job.requests

  -- by what an entry is disambiguated in the end
  abbrev pub final_state : E → DisambiguateState
  final_state e = told_by (last_states mode eq writing (rendered_first eq payload_eq writing job) e)
