-- The means by which a mention is told from others.
use Rattle.std.specs.Prelude.{ℕ, None, Option}
use Rattle.driver_lookup.specs.Properties.{Properties}
use Rattle.driver_lookup.specs.declared.means.Means.{Means}
use Rattle.driver_lookup.specs.declared.state.IbidState.{IbidState}
use Rattle.driver_lookup.specs.declared.state.IdentifierUsage.{IdentifierUsage}
use Rattle.mentions_groups.specs.declared.state.MentionState.{MentionState}

-- those of a mention in a state, whose entry has this suffix
abbrev pub means_of : MentionState → Option ℕ → Means
means_of state suffix = record { names = state.names; choose = state.chosen; suffix = suffix }

-- properties with the means of a mention, which is compared without its entry's suffix
abbrev pub with_means : {P : Type 0} → Properties P → MentionState → IdentifierUsage → Properties P
with_means p state usage = record p {
  speculative = record p.speculative { means = means_of state None; identifier_usage = usage };
}

-- properties of a cite that repeats the one before it in this way
abbrev pub with_ibid : {P : Type 0} → Properties P → IbidState → Properties P
with_ibid p ibid = record p { speculative = record p.speculative { ibid = ibid } }
