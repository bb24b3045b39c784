-- The tables keep all laws.
use Rattle.std.proofs.Common.{◌≡◌, ℕ, List, map, sym, subst}
use Rattle.std.specs.List.{range_with_len}
use Rattle.mentions_groups.specs.Suffixes.{laters, suffixes}
use Rattle.mentions_groups.specs.declared.mention.Mention.{Mention}
use Rattle.mentions_groups.specs.declared.state.MentionState.{MentionState}
use Rattle.mentions_groups.specs.declared.written.Written.{Written}
use Rattle.mentions_tables.specs.Tables.{mentions_in, second_table, third_table, year_suffixes}
use Rattle.mentions_tables.specs.declared.subject.Subject.{Subject}
use Rattle.mentions_table_laws.specs.Pairs.{AreMentionsInPairs}
use Rattle.mentions_table_laws.specs.TellingLaws.{KeepsTellingLaws}
use Rattle.mentions_table_laws.proofs.Bounded.{has-bounds}
use Rattle.mentions_table_laws.proofs.Choosing.{condition-holds}
use Rattle.mentions_table_laws.proofs.Counted.{none-in-vain, nothing-is-left, suffixes-count}
use Rattle.mentions_table_laws.proofs.Fuller.{states-grow}
use Rattle.mentions_table_laws.proofs.NamesTelling.{names-tell}
use Rattle.mentions_table_laws.proofs.Paired.{entries-in-order}
use Rattle.mentions_table_laws.proofs.Settled.{settled, third-table}
use Rattle.mentions_table_laws.proofs.Sparing.{only-ambiguous}

module _ {M : Type 0} (write : M → MentionState → Written) (entries : ℕ) (subjects : List (Subject M)) (pairs : AreMentionsInPairs entries subjects) where
  abbrev last : List MentionState
  last = map (settled write subjects) subjects

  abbrev told : List Mention
  told = mentions_in write subjects last

  one-each : map (λ m. m.entry) (laters told) ≡ range_with_len 0 entries
  one-each = entries-in-order write (settled write subjects) entries subjects pairs

  by-mentions : KeepsTellingLaws write subjects entries last (suffixes told)
  by-mentions = record {
    by_names = second_table write subjects;
    grow = states-grow write subjects;
    condition = condition-holds write subjects;
    names_tell = names-tell write subjects;
    count = suffixes-count told entries one-each;
    none_left = nothing-is-left told entries one-each;
    none_in_vain = none-in-vain told entries one-each;
    only_ambiguous = only-ambiguous write subjects entries pairs;
    bounds = has-bounds write subjects entries pairs (suffixes told);
  }

  pub keeps-laws : KeepsTellingLaws write subjects entries (third_table write subjects) (year_suffixes write subjects)
  keeps-laws = subst (λ t. KeepsTellingLaws write subjects entries t (suffixes (mentions_in write subjects t))) (sym (third-table write subjects)) by-mentions
