-- The keys of an object, as the code meets them.
use Rattle.std.proofs.Common.{◌≡◌, List, [], ◌∷◌, map, refl, ap, sym, ◌∙◌, string_bytes}
use Rattle.std.specs.Prelude.{String}
use Rattle.std.specs.declared.alloc.Global.{Global}
use Rattle.serde_json.specs.declared.value.Value.{Value}
use Rattle.serde_json.specs.View.{members_view}
use Rattle.document_values.specs.Words.{member_keys}

pub keys_of_view : (ms : List (String Global × Value)) → member_keys (members_view ms) ≡ map string_bytes (map (λ m. m.0) ms)
keys_of_view [] = refl
keys_of_view (m ∷ ms) = ap (λ t. string_bytes m.0 ∷ t) (keys_of_view ms)

-- the keys that a loop begins with are those of the object
pub keys_from : (ms : List (String Global × Value)) (rest : List (String Global)) → rest ≡ map (λ m. m.0) ms → member_keys (members_view ms) ≡ map string_bytes rest
keys_from ms rest r = keys_of_view ms ∙ ap (map string_bytes) (sym r)
