-- In mode full rounds come to an end by themselves, since each that marks raises the sum of ranks; so in both modes nothing is left.
use Rattle.std.proofs.Common.{◌≡◌, Bool, false, List, subst, arith}
use Rattle.std.specs.Cmp.{IsEquivalence}
use Rattle.rounds_ambiguity.specs.MarkLaws.{AmbiguousStandTogether}
use Rattle.driver_writers.specs.Writing.{Writing}
use Rattle.driver_entries.specs.Entries.{distinct}
use Rattle.driver_passes.specs.Renders.{CiteRender}
use Rattle.rounds_runs.specs.FirstRenders.{AreBegun}
use Rattle.rounds_runs.specs.RoundMarks.{has_any}
use Rattle.rounds_runs.specs.Rounds.{entries_cited, no_states}
use Rattle.rounds_runs.specs.RunLaws.{NothingLeft}
use Rattle.rounds_runs.specs.Tables.{last_states, marks_at, most_rounds, rounds, tables}
use Rattle.rounds_runs.specs.declared.mode.RoundMode.{RoundMode}
use Rattle.rounds_runs.proofs.GoneOn.{AreMarkLaws, are-steps, goes_on, next}
use Rattle.rounds_runs.proofs.Left.{nothing-left, three-ends}
use Rattle.rounds_runs.proofs.RankSums.{IsSound, in-distinct, ranks, ranks-most, ranks-rise, sound-after, sound-begun}
use Rattle.rounds_runs.proofs.Runs.{final, run-bounded}

-- at the last table of mode full nothing marks
full-ends : {E P : Type 0} (eq : E → E → Bool) (writing : Writing E P) (firsts : List (CiteRender E P)) → IsEquivalence eq → AreBegun firsts
    → has_any (marks_at RoundMode.Full eq writing firsts (last_states RoundMode.Full eq writing firsts)) ≡ false
full-ends eq writing firsts laws begun =
    let es = distinct eq (entries_cited firsts) in
    subst (λ ts. goes_on RoundMode.Full eq writing firsts (final ts no_states) ≡ false) (are-steps RoundMode.Full eq writing firsts)
    (run-bounded (goes_on RoundMode.Full eq writing firsts) (next RoundMode.Full eq writing firsts) (IsSound writing firsts begun eq laws)
    (λ t sound go. sound-after writing firsts begun eq laws t sound) (ranks writing firsts begun es) (most_rounds RoundMode.Full eq firsts)
    (λ t sound go. ranks-rise writing firsts begun eq laws t sound es (in-distinct writing firsts begun eq laws) go) (λ t sound. ranks-most writing firsts begun eq laws t sound es)
    no_states (most_rounds RoundMode.Full eq firsts) no_states (sound-begun writing firsts begun eq laws) (omega arith))

-- in both modes nothing is left
pub nothing-is-left : {E P : Type 0} (mode : RoundMode) (eq : E → E → Bool) (writing : Writing E P) (firsts : List (CiteRender E P)) → AreMarkLaws E P eq
    → ((cites : List (CiteRender E P)) → AmbiguousStandTogether eq cites) → AreBegun firsts
    → NothingLeft mode eq writing firsts (tables mode eq writing firsts) (rounds mode eq writing firsts)
nothing-is-left RoundMode.Three eq writing firsts laws together begun = nothing-left RoundMode.Three eq writing firsts laws (together _) (three-ends eq writing firsts)
nothing-is-left RoundMode.Full eq writing firsts laws together begun = nothing-left RoundMode.Full eq writing firsts laws (together _) (λ ended. full-ends eq writing firsts laws.equal begun)
