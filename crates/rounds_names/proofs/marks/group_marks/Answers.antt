use Rattle.std.proofs.Common.{ap, filter, sym, ◌∙◌}
use Rattle.std.specs.List.{filter_map, list_any, range_with_len, zip}
use Rattle.rounds_names.specs.NameMarks.{mark}
use Rattle.rounds_names.specs.Steps.{is_own_step}
use Rattle.rounds_names.proofs.Marking.{in_other_words, is-empty, is-not-empty, marks-none, marks-some}
use Rattle.rounds_names.proofs.marks.group_marks.Goals as goal

pub returns-then-is_empty : goal.returns-then-is_empty
returns-then-is_empty c =
    let own = c.in_ok-own_steps.own_steps.items in
    let taken = c.in_ok-steps.steps in
    c.new.ensures.items
    ∙ marks-none c.args.group.now c.args.greatest own taken.items c.in_ok-own_steps.ensures
    (c.in_ok-steps.ensures ∙ ap (λ l. filter (λ i. list_any (is_own_step i) l) (range_with_len 1 c.args.greatest)) c.deref.ensures.value)
    (is-empty taken.items taken.len (sym taken.ok.0) (sym c.if-is_empty.ensures))

pub returns : goal.returns
returns c =
    let group = c.args.group.now in
    let own = c.in_ok-own_steps.own_steps.items in
    let taken = c.in_ok-steps.steps in
    in_other_words c.member_marks.result (λ v. v.items) _ _
    (ap (λ l. filter_map (λ p. mark group l p.0 p.1) (zip group c.deref-3.result.now)) c.deref-2.ensures.value
    ∙ ap (λ l. filter_map (λ p. mark group taken.items p.0 p.1) (zip group l)) c.deref-3.ensures.value
    ∙ marks-some group c.args.greatest own taken.items c.in_ok-own_steps.ensures
    (c.in_ok-steps.ensures ∙ ap (λ l. filter (λ i. list_any (is_own_step i) l) (range_with_len 1 c.args.greatest)) c.deref.ensures.value)
    (is-not-empty taken.items taken.len (sym taken.ok.0) (sym c.if-is_empty.ensures)))
    c.member_marks.ensures
