-- Places that a map keeps by name and form.
use Rattle.std.specs.Prelude.{ℕ, Option, ◌&&◌}
use Rattle.std.specs.HashMap.{HashMap, get_by}
use Rattle.value_sources.specs.declared.taxonomy.Term.{Term}
use Rattle.value_sources.specs.declared.taxonomy.TermForm.{TermForm}
use Rattle.value_sources.specs.contracts.taxonomy.TermPartialEq.TheImpl as term_eq
use Rattle.value_sources.specs.contracts.taxonomy.TermFormPartialEq.TheImpl as form_eq

-- the place that the map keeps for a name and a form
abbrev pub term_placed : {S : Type 0} → HashMap (Term × TermForm) ℕ S → Term × TermForm → Option ℕ
term_placed places key =
    get_by (λ k. (term_eq.ghosts).eq key.0 k.0 && (form_eq.ghosts).eq key.1 k.1) places
