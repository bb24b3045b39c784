-- What is kept of what was written.
use Rattle.std.specs.Prelude.{Bool, false, List, [], Option, None, unwrap_or}
use Rattle.ordered_map.specs.Entries.{Entries, keys_of, value_at}
use Rattle.driver_lookup.specs.declared.state.IdentifierUsage.{IdentifierUsage}
use Rattle.host_memo.specs.contracts.key.TaskKeyPartialEq.TheImpl as key_equality
use Rattle.host_memo.specs.declared.key.TaskKey.{TaskKey}
use Rattle.driver_writers.specs.declared.cite.Cite.{Cite}

-- `==` of keys
abbrev pub key_eq : TaskKey → TaskKey → Bool
key_eq = (key_equality.ghosts).eq

-- what a map has for a key
abbrev pub found : Entries TaskKey Cite → TaskKey → Option Cite
found map key = value_at key_eq map.entries key

-- what was written, by what it was asked for, in the order in which it was
abbrev pub keys : Entries TaskKey Cite → List TaskKey
keys map = keys_of map.entries

-- what was written; an empty tree where nothing was
abbrev pub written_as : Option Cite → Cite
written_as written = unwrap_or written (record {
  children = [];
  checked_disambiguate = false;
  first_name = None;
  identifier_usage = IdentifierUsage.None;
})
