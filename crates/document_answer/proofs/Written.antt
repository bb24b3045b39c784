-- What some calls wrote to a text stands at its end.
use Rattle.std.proofs.Common.{◌≡◌, ℕ, List, ◌++◌, string_bytes}
use Rattle.std.specs.Prelude.{String}
use Rattle.std.specs.declared.alloc.Global.{Global}
use Rattle.std.specs.Fmt.{WritesInCalls}
use Rattle.std.proofs.lemmas.Fmt.{contents_after_writes}

-- one call of a text
abbrev pub takes : String Global → List ℕ → String Global → Type 0
takes s bs t = string_bytes t ≡ string_bytes s ++ bs

pub text_after : (s : String Global) (bs : List ℕ) (t : String Global) → WritesInCalls takes s bs t → string_bytes t ≡ string_bytes s ++ bs
text_after = contents_after_writes takes string_bytes (λ w bs v e. e)
