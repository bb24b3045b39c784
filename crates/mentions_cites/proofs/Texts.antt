-- The bytes of texts that stand in the code.
use Rattle.std.proofs.Common.{◌≡◌, [], ◌∷◌, refl}
use Rattle.std.specs.Char.{encode_utf8}
use Rattle.mentions_cites.specs.Arranging.{en_dash}

pub en_dash_bytes : 226 ∷ 128 ∷ 147 ∷ [] ≡ en_dash
unfolding encode_utf8
en_dash_bytes = refl
