use Rattle.std.proofs.Common.{◌≡◌, ◌<◌, ◌∙◌, ◌+◌, ◌-◌, ◌≤◌, ℕ, [], Vec, Global, sym, ap, subst, length, arith}
use Rattle.std.proofs.lemmas.List.{length-map}
use Rattle.value_styles.specs.Places.{steps_from, add_each}
use Rattle.value_styles.proofs.Rows.{rows_of, row_read, row_within}
use Rattle.value_styles.proofs.Reached.{left, IsReached, reached-start, reached-more, next_within, falls, mark_read, on_round}
use Rattle.value_styles.proofs.graph.is_on_round.Goals as goal

pub add_places-requires-clause-within : goal.add_places-requires-clause-within
add_places-requires-clause-within c =
    let rows = c.args.rows.now in
    let m = c.in_ok-marks.ensures in
    let n : length c.in_ok-marks.marks.items ≡ length rows = sym c.in_ok-marks.marks.ok.0 ∙ m.len in
    row_within rows c.args.start _ c.index-rows-start.result _ c.requires.closed c.requires.start c.index-rows-start.is c.deref.ensures.value n

pub loop-at-init : goal.loop-at-init
loop-at-init c =
    let rows = c.args.rows.now in
    let m = c.in_ok-marks.ensures in
    let n : length c.in_ok-marks.marks.items ≡ length rows = sym c.in_ok-marks.marks.ok.0 ∙ m.len in
    let a = c.in_ok-add_places.ensures in
    let row = c.deref.ensures.value ∙ row_read rows c.args.start c.index-rows-start.result c.requires.start c.index-rows-start.is in
    let found : c.add_places.new.found.items ≡ add_each (steps_from (rows_of rows) c.args.start) [] = a.found ∙ ap (λ xs. add_each xs c.new-found.result.items) row ∙ ap (add_each (steps_from (rows_of rows) c.args.start)) c.new-found.ensures.items in
    (subst (λ xs. IsReached (rows_of rows) c.args.start xs 0) (sym found) (reached-start (rows_of rows) c.requires.closed c.args.start), a.marked, a.length ∙ n)

pub bounds-rows-next : goal.bounds-rows-next
bounds-rows-next c =
    let rows = c.args.rows.now in
    let l = c.loop-at in
    let next = c.index-next.result.now in
    let at : l.at < length l.found.items = omega (arith, c.loop-at-test.true, c.len.ensures, l.found.ok.0) in
    let n : length (rows_of rows) ≡ length rows = length-map rows (λ (r : Vec ℕ Global). r.items) in
    omega (arith, n, next_within (rows_of rows) c.requires.closed c.args.start l.found.items l.at next l.invariant.0 at c.index-next.ensures)

pub offset_bounds-rows-next : goal.offset_bounds-rows-next
offset_bounds-rows-next c =
    let rows = c.args.rows.now in
    let l = c.loop-at in
    let next = c.index-next.result.now in
    let at : l.at < length l.found.items = omega (arith, c.loop-at-test.true, c.len.ensures, l.found.ok.0) in
    let n : length (rows_of rows) ≡ length rows = length-map rows (λ (r : Vec ℕ Global). r.items) in
    let lt : next < length rows = omega (arith, n, next_within (rows_of rows) c.requires.closed c.args.start l.found.items l.at next l.invariant.0 at c.index-next.ensures) in
    omega (arith, lt)

pub add_places-requires-in-loop-at-clause-within : goal.add_places-requires-in-loop-at-clause-within
add_places-requires-in-loop-at-clause-within c =
    let rows = c.args.rows.now in
    let l = c.loop-at in
    let next = c.index-next.result.now in
    let at : l.at < length l.found.items = omega (arith, c.loop-at-test.true, c.len.ensures, l.found.ok.0) in
    let n : length (rows_of rows) ≡ length rows = length-map rows (λ (r : Vec ℕ Global). r.items) in
    let lt : next < length rows = omega (arith, n, next_within (rows_of rows) c.requires.closed c.args.start l.found.items l.at next l.invariant.0 at c.index-next.ensures) in
    row_within rows next _ c.index-rows-next.result _ c.requires.closed lt c.index-rows-next.is c.deref-in-loop-at.ensures.value l.invariant.2

pub loop-at-smaller : goal.loop-at-smaller
loop-at-smaller c =
    let rows = c.args.rows.now in
    let l = c.loop-at in
    let next = c.index-next.result.now in
    let at : l.at < length l.found.items = omega (arith, c.loop-at-test.true, c.len.ensures, l.found.ok.0) in
    let n : length (rows_of rows) ≡ length rows = length-map rows (λ (r : Vec ℕ Global). r.items) in
    let lt : next < length rows = omega (arith, n, next_within (rows_of rows) c.requires.closed c.args.start l.found.items l.at next l.invariant.0 at c.index-next.ensures) in
    let row = c.deref-in-loop-at.ensures.value ∙ row_read rows next c.index-rows-next.result lt c.index-rows-next.is in
    let found = c.in_ok-add_places-2.ensures.found ∙ ap (λ xs. add_each xs l.found.items) row in
    let h = falls (rows_of rows) c.requires.closed c.args.start l.found.items l.at next at in
    subst (λ n. left n c.add_places-in-loop-at.new.found.items + (length c.add_places-in-loop-at.new.found.items - (l.at + 1)) < left n l.found.items + (length l.found.items - l.at)) n
    (subst (λ xs. left (length (rows_of rows)) xs + (length xs - (l.at + 1)) < left (length (rows_of rows)) l.found.items + (length l.found.items - l.at)) (sym found) h)

pub loop-at-preserved : goal.loop-at-preserved
loop-at-preserved c =
    let rows = c.args.rows.now in
    let l = c.loop-at in
    let a = c.in_ok-add_places-2.ensures in
    let next = c.index-next.result.now in
    let at : l.at < length l.found.items = omega (arith, c.loop-at-test.true, c.len.ensures, l.found.ok.0) in
    let n : length (rows_of rows) ≡ length rows = length-map rows (λ (r : Vec ℕ Global). r.items) in
    let lt : next < length rows = omega (arith, n, next_within (rows_of rows) c.requires.closed c.args.start l.found.items l.at next l.invariant.0 at c.index-next.ensures) in
    let row = c.deref-in-loop-at.ensures.value ∙ row_read rows next c.index-rows-next.result lt c.index-rows-next.is in
    let found = a.found ∙ ap (λ xs. add_each xs l.found.items) row in
    let h = reached-more (rows_of rows) c.requires.closed c.args.start l.found.items l.at next l.invariant.0 at c.index-next.ensures in
    (subst (λ xs. IsReached (rows_of rows) c.args.start xs (l.at + 1)) (sym found) h, a.marked, a.length ∙ l.invariant.2)

pub returns-clause-no : goal.returns-clause-no
returns-clause-no c =
    let l = c.loop-at in
    let end : length l.found.items ≤ l.at = omega (arith, c.loop-at-test.false, c.len.ensures, l.found.ok.0) in
    let lt : c.args.start < length l.marks.items = omega (arith, c.requires.start, l.invariant.2) in
    let mark = mark_read l.marks.items l.found.items c.args.start c.index.result.now l.invariant.1 lt c.index.ensures in
    (on_round (rows_of c.args.rows.now) c.args.start l.found.items l.at c.index.result.now l.invariant.0 end mark).1
