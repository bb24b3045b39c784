-- One more character, and the end of the key.
use Rattle.std.proofs.Common.{◌≡◌, ◌∙◌, ◌++◌, ℕ, ◌+◌, ◌<◌, List, length, drop, get_or, arith, sym, ap, append_assoc, append-nil}
use Rattle.std.proofs.lemmas.Iterator.{YieldsList-from_chars}
use Rattle.std.proofs.lemmas.Iterator.Consumers.{YieldsList-turn, YieldsList-end}
use Rattle.std.proofs.lemmas.List.{at_drop_all, at_drop_more, length_push}
use Rattle.std.specs.List.{flat_map}
use Rattle.std.specs.Str.{chars}
use Rattle.document_answer.specs.FaultText.{escaped}
use Rattle.document_answer.proofs.faults.push_key.Goals as goal

-- one more character is escaped
escaped_step : (cs : List ℕ) (n c : ℕ) (new old all : List ℕ) → (n < length cs) × (c ≡ get_or cs n c) → new ≡ old ++ escaped c
    → old ++ flat_map escaped (drop n cs) ≡ all → new ++ flat_map escaped (drop (n + 1) cs) ≡ all
escaped_step cs n c new old all h p i =
    let e : flat_map escaped (drop n cs) ≡ escaped c ++ flat_map escaped (drop (n + 1) cs) =
    at_drop_more (flat_map escaped) cs n c h.0 ∙ ap (λ x. escaped x ++ flat_map escaped (drop (n + 1) cs)) (sym h.1) in
    rw (p, append_assoc, ← e) i

pub loop-c-preserved : goal.loop-c-preserved
loop-c-preserved c =
    let t = YieldsList-turn (YieldsList-from_chars c.args.key.now c.utf8.key cc) c.loop-c.yielded _ c.loop-c.yielded_by _ _ c.in-Some.c c.in-Some.is c.next.ensures.steps in
    rw (length_push c.loop-c.yielded c.in-Some.c) (escaped_step (chars c.args.key.now) _ _ _ _ _ t c.in_ok-push_escaped.ensures c.loop-c.invariant)

pub returns : goal.returns
returns c =
    let t = YieldsList-end (YieldsList-from_chars c.args.key.now c.utf8.key cc) c.loop-c.yielded _ c.loop-c.yielded_by _ _ c.in-None.is c.next.ensures.steps in
    rw (t.1, at_drop_all (flat_map escaped) (chars c.args.key.now) (length (chars c.args.key.now)) (omega arith), append-nil) at c.loop-c.invariant
