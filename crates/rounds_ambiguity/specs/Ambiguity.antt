-- Ambiguous groups: cites that read alike and don't all cite the same entry.
use Rattle.std.specs.Prelude.{ℕ, Bool, not, List, map, filter, length, take, nat_eq, bytes_eq}
use Rattle.std.specs.List.{enumerate_from, list_any}
use Rattle.driver_lookup.specs.States.{may_get_suffix}
use Rattle.driver_passes.specs.Renders.{CiteRender, Place}
use Rattle.rounds_ambiguity.specs.Members.{Member, document, entry_of, place_of, state_of, shown_text}

module _ {E P : Type 0} where
  -- those of the cites that have this plain text
  abbrev pub class_of : List (Member E P) → List ℕ → List (Member E P)
  class_of cites text = filter (λ m. bytes_eq text (shown_text m)) cites

  -- the n-th of the cites is the second with its text: one before it has the same
  abbrev pub is_second : List (Member E P) → ℕ × Member E P → Bool
  is_second cites p = nat_eq (length (class_of (take p.0 cites) (shown_text p.1))) 1

  -- the cites that are the second with their text, in order
  abbrev pub seconds : List (Member E P) → List (Member E P)
  seconds cites = map (λ p. p.1) (filter (is_second cites) (enumerate_from 0 cites))

  -- the classes of two or more cites with equal texts, in the order of their second members
  abbrev pub classes : List (Member E P) → List (List (Member E P))
  classes cites = map (λ m. class_of cites (shown_text m)) (seconds cites)

  -- those of the cites whose entry has no suffix
  abbrev pub without_suffix : List (Member E P) → List (Member E P)
  without_suffix cites = filter (λ m. may_get_suffix (state_of m)) cites

  module _ (eq : E → E → Bool) where
    -- some two of them cite different entries
    abbrev pub cite_different : List (Member E P) → Bool
    cite_different cites =
        list_any (λ a. list_any (λ b. not (eq (entry_of a) (entry_of b))) cites) cites

    -- the ambiguous groups of a document, as places
    abbrev pub ambiguous_groups : List (CiteRender E P) → List (List Place)
    ambiguous_groups cites =
        map (map place_of) (filter cite_different (classes (without_suffix (document cites))))
