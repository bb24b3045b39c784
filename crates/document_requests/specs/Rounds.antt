-- How a document has works told apart.
use Rattle.std.specs.Prelude.{[], ◌∷◌, Option, codes}
use Rattle.serde_json.specs.Data.{Data}
use Rattle.rounds_runs.specs.declared.mode.RoundMode.{RoundMode}
use Rattle.document_requests.specs.declared.rounds.Rounds.{Rounds}
use Rattle.document_values.specs.Names.{one_of}
use Rattle.document_values.specs.Tables.{NameTable}
use Rattle.document_values.specs.Words.{optional}

-- in so many rounds, or as CSL has it
abbrev pub round_modes : NameTable Rounds
round_modes =
    (codes "three", Rounds.Mode RoundMode.Three) ∷
    (codes "full", Rounds.Mode RoundMode.Full) ∷
    (codes "csl", Rounds.Csl) ∷
    []

-- what an object says of it; three rounds where it says nothing
abbrev pub rounds_form : Data → Option Rounds
rounds_form = optional (Rounds.Mode RoundMode.Three) (one_of round_modes) (codes "rounds")
