use Rattle.std.proofs.Common.{◌∙◌, ◌++◌, ℕ, List, [], ◌∷◌, length, drop, false, arith, sym, ap, append_assoc, encode_utf8}
use Rattle.std.proofs.lemmas.List.{append-nil}
use Rattle.std.proofs.lemmas.Iterator.{YieldsList-from_chars}
use Rattle.std.proofs.lemmas.Iterator.Consumers.{YieldsList-turn, YieldsList-end}
use Rattle.std.specs.List.{flat_map}
use Rattle.std.specs.Str.{chars}
use Rattle.value_sources.proofs.GivenNames.{initials_left, next_between, next_first, next_inside, none_left}
use Rattle.layout_picking.proofs.name_text.ended_initials.Goals as goal

abbrev spelled : List ℕ → List ℕ → List ℕ
spelled end = flat_map (λ c. encode_utf8 c ++ end)

pub loop-c-preserved-then-parts_name : goal.loop-c-preserved-then-parts_name
loop-c-preserved-then-parts_name c =
    let l = c.loop-c in
    let t = YieldsList-turn (YieldsList-from_chars c.args.given.now c.utf8.given cc) l.yielded _ l.yielded_by _ _ c.in-Some.c c.in-Some.is c.next.ensures.steps in
    let step = next_between (chars c.args.given.now) l.yielded c.in-Some.c t l.part_begins (sym c.parts_name.ensures ∙ c.if-parts_name.true) in
    ap (λ cs. l.initials ++ spelled c.args.end.now cs) (sym step) ∙ l.invariant

pub loop-c-preserved-then-part_begins : goal.loop-c-preserved-then-part_begins
loop-c-preserved-then-part_begins c =
    let l = c.loop-c in
    let t = YieldsList-turn (YieldsList-from_chars c.args.given.now c.utf8.given cc) l.yielded _ l.yielded_by _ _ c.in-Some.c c.in-Some.is c.next.ensures.steps in
    let step = next_first (chars c.args.given.now) l.yielded c.in-Some.c t l.part_begins c.if-part_begins.true (sym c.parts_name.ensures ∙ c.if-parts_name.false) in
    let rest = spelled c.args.end.now (initials_left false (drop (length (l.yielded ++ c.in-Some.c ∷ [])) (chars c.args.given.now))) in
    ap (λ bs. bs ++ rest) c.in_ok-push_initial.ensures
    ∙ append_assoc l.initials (encode_utf8 c.in-Some.c ++ c.args.end.now) rest
    ∙ ap (λ cs. l.initials ++ spelled c.args.end.now cs) (sym step)
    ∙ l.invariant

pub loop-c-preserved : goal.loop-c-preserved
loop-c-preserved c =
    let l = c.loop-c in
    let t = YieldsList-turn (YieldsList-from_chars c.args.given.now c.utf8.given cc) l.yielded _ l.yielded_by _ _ c.in-Some.c c.in-Some.is c.next.ensures.steps in
    let step = next_inside (chars c.args.given.now) l.yielded c.in-Some.c t l.part_begins c.if-part_begins.false (sym c.parts_name.ensures ∙ c.if-parts_name.false) in
    ap (λ cs. l.initials ++ spelled c.args.end.now cs) (sym step) ∙ l.invariant

pub returns : goal.returns
returns c =
    let l = c.loop-c in
    let t = YieldsList-end (YieldsList-from_chars c.args.given.now c.utf8.given cc) l.yielded _ l.yielded_by _ _ c.in-None.is c.next.ensures.steps in
    let end = none_left (chars c.args.given.now) l.yielded l.part_begins (omega (arith, t.1)) in
    sym (append-nil l.initials) ∙ ap (λ cs. l.initials ++ spelled c.args.end.now cs) (sym end) ∙ l.invariant
