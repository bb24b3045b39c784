-- The keys of an object are looked at one after another.
use Rattle.std.proofs.Common.{◌≡◌, ℕ, true, List, map, string_bytes}
use Rattle.std.specs.List.{list_all}
use Rattle.serde_json.specs.View.{members_view}
use Rattle.document_values.specs.Words.{is_one_of, member_keys}
use Rattle.document_values.proofs.words.unknown_key.Given as goal

-- the keys that are left decide, and are keys of the object
abbrev pub invariant-loop-key : goal.invariant-loop-key
invariant-loop-key l = record {
  decided : list_all (is_one_of (map (λ k. k.now) l.keys)) (member_keys (members_view l.members.entries)) ≡ list_all (is_one_of (map (λ k. k.now) l.keys)) (map string_bytes l.key-iterator);
  within : (k : List ℕ) → is_one_of (map string_bytes l.key-iterator) k ≡ true → is_one_of (member_keys (members_view l.members.entries)) k ≡ true;
}
