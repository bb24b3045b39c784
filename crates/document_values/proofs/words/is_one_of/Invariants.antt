-- A text is sought among keys.
use Rattle.std.proofs.Common.{◌≡◌, map, drop}
use Rattle.document_values.specs.Words.{is_one_of}
use Rattle.document_values.proofs.words.is_one_of.Given as goal

-- what is left decides
abbrev pub invariant-loop-key : goal.invariant-loop-key
invariant-loop-key l =
    is_one_of (map (λ k. k.now) l.keys) l.text ≡ is_one_of (map (λ k. k.now) (drop l.key-index l.keys)) l.text
