use Rattle.std.proofs.Common.{take}
use Rattle.std.specs.List.{flat_map}
use Rattle.mentions_names.specs.Known.{person_keys}
use Rattle.mentions_names.specs.Persons.{names_asking}
use Rattle.mentions_names.specs.Rivals.{AreRivals}
use Rattle.mentions_names.proofs.document.first_rivals.Given as goal

abbrev pub invariant-loop-mention : goal.invariant-loop-mention
invariant-loop-mention l = AreRivals l.rivals (flat_map (λ m. flat_map person_keys (take 1 (names_asking m))) (take l.mention-index l.mentions))
