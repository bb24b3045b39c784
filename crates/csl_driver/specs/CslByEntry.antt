-- What an account has, entry by entry.
use Rattle.std.specs.Prelude.{ℕ, Bool, false, List, [], ◌∷◌, flat_map, if◌then◌else◌, map, slice_get, unwrap_or}
use Rattle.std.specs.List.{zip}
use Rattle.driver_assembly.specs.declared.by_means.ItemMeans.{ItemMeans}
use Rattle.mentions_groups.specs.declared.state.MentionState.{MentionState}
use Rattle.mentions_tables.specs.Asked.{untold}
use Rattle.mentions_cites.specs.Mentions.{suffix_number}
use Rattle.csl_driver.specs.declared.csl_account.CslAccount.{CslAccount}

module _ {E : Type 0} (account : CslAccount E) where
  -- its entries
  abbrev pub entries_had : List E
  entries_had = map (λ e. e.now) account.entries.items

  -- the states of all mentions: of each entry that of the first one, then that of the later one
  abbrev pub states_had : List MentionState
  states_had = flat_map (λ p. p.0 ∷ p.1 ∷ [])
      (zip account.first_mentions.items account.later_mentions.items)

  -- those of the first mentions alone, or of the later ones
  abbrev pub states_of : Bool → List MentionState
  states_of is_first =
      if is_first then account.first_mentions.items else account.later_mentions.items

  -- the state of the first mention of the entry at an index, or of its later one
  abbrev pub state_of : ℕ → Bool → MentionState
  state_of k is_first = unwrap_or (slice_get (states_of is_first) k) untold

  -- by what the entry at an index is told apart in the bibliography: the choice of its later
  -- mention, and its suffix
  abbrev pub means_had : ℕ → ItemMeans
  means_had k = record {
    choose = (state_of k false).chosen;
    suffix = suffix_number account.suffixes.items k;
  }
