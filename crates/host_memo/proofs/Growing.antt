-- A table that was given what it lacked.
use Rattle.std.proofs.Common.{◌≡◌, true, cond, [], ◌∷◌, ◌++◌, None, Some, ap, refl, sym, ◌∙◌}
use Rattle.std.specs.Prelude.{is_some}
use Rattle.std.specs.List.{list_any}
use Rattle.std.proofs.lemmas.Map.Made.{is_some-lookup}
use Rattle.ordered_map.specs.Entries.{Entries, keys_of, value_at, with_entry}
use Rattle.ordered_map.proofs.Lookups.{entry-added, keys-with_entry, value-stays}
use Rattle.ordered_set.specs.Keys.{with_key}
use Rattle.value_sources.specs.Tells.{TellsEqual}
use Rattle.driver_writers.specs.declared.cite.Cite.{Cite}
use Rattle.host_memo.specs.Memo.{Grows}
use Rattle.host_memo.specs.Written.{found, key_eq, keys}
use Rattle.host_memo.specs.declared.key.TaskKey.{TaskKey}

module _ (m : Entries TaskKey Cite) (key : TaskKey) where
  -- a key has a text exactly where it is among the keys
  pub has_key : is_some (found m key) ≡ list_any (key_eq key) (keys m)
  has_key = is_some-lookup (key_eq key) m.entries

  -- a key that is there is noted
  pub noted_before : (cite : Cite) → found m key ≡ Some cite → keys m ≡ with_key key_eq (keys m) key
  noted_before cite there =
      let among : list_any (key_eq key) (keys m) ≡ true = sym has_key ∙ ap is_some there in
      ap (λ b. cond b (keys m) (keys m ++ key ∷ [])) (sym among)

  module _ (n : Entries TaskKey Cite) (cite : Cite) (put : n.entries ≡ with_entry key_eq m.entries key cite) where
    -- one that is put in is noted
    pub noted_now : keys n ≡ with_key key_eq (keys m) key
    noted_now = ap keys_of put ∙ keys-with_entry key_eq m.entries key cite

    -- what was there stays
    pub put_grows : Grows (found m) (found n)
    put_grows = record { at = λ q had there. ap (λ es. value_at key_eq es q) put ∙ value-stays key_eq m.entries key cite q had there }

    -- and what was lacked is there
    pub put_found : TellsEqual key_eq → found m key ≡ None → found n key ≡ Some cite
    put_found tells lacked = ap (λ es. value_at key_eq es key) put ∙ entry-added key_eq m.entries key cite ((tells key key).1 refl) lacked
