use Rattle.std.proofs.Common.{◌≡◌, [], ◌∷◌, ◌++◌, ap, length, map, subst, sym, take, ◌∙◌}
use Rattle.std.specs.Prelude.{fold}
use Rattle.std.specs.List.{list_any}
use Rattle.std.proofs.lemmas.List.{take_all, with_items_is}
use Rattle.driver_entries.specs.TableView.{table_view}
use Rattle.driver_passes.specs.RendersView.{renders_view}
use Rattle.rounds_rendering.specs.Gathered.{AreMarked, entry_place, is_marked, with_counting}
use Rattle.rounds_rendering.proofs.FullMarks.{MarkedSoFar, group-marked, group-waits, one-more-group}
use Rattle.rounds_rendering.proofs.Walk.{full-is}
use Rattle.rounds_rendering.proofs.marks.marks_of_full.Goals as goal
use Rattle.rounds_rendering.proofs.marks.marks_of_full.Goals.{then-not-waits+in_ok-own+in_ok-append, else-not-waits}

pub loop-group-preserved : goal.loop-group-preserved
loop-group-preserved g c =
    let rs = renders_view c.args.cites.now in
    let eq = g.T.PartialEq.eq in
    let dated = c.shows_dates-dated.result in
    let table = table_view c.args.table.now in
    let group = c.group-item.result.items in
    let groups = map (λ p. p.items) (take c.loop-group.group-index c.deref-group-items.result.now) in
    let marks = c.loop-group.marks.items in
    let flags = c.loop-group.marked.items in
    let one = one-more-group (λ p. p.items) c.deref-group-items.result.now c.loop-group.group-index c.group-item.result c.loop-group-test.true c.group-item.is in
    let told : list_any (λ at. is_marked flags (entry_place table.places at)) group ≡ c.waits.result =
    ap (λ fs. list_any (λ at. is_marked fs (entry_place table.places at)) group) (sym c.deref.ensures.value)
    ∙ ap (λ ps. list_any (λ at. is_marked c.deref.result.now (entry_place ps at)) group) (sym c.places-places.ensures) ∙ sym c.waits.ensures in
    subst (λ gs. MarkedSoFar eq dated rs table.entries table.places gs c.if-not-waits.marks.items c.if-not-waits.marked.items) (sym one)
    (elim c.if-not-waits.branch [
      | then-not-waits+in_ok-own+in_ok-append w ↦
          let long : length w.note.new.marked ≡ length flags = w.note.ensures.long ∙ ap length w.deref_mut.ensures.value in
          let noted : c.if-not-waits.marked.items ≡ w.note.new.marked =
          ap (λ v. v.items) w.marked-is ∙ with_items_is c.loop-group.marked w.note.new.marked (long ∙ sym c.loop-group.marked.ok.0) in
          group-marked eq dated rs table.entries table.places g.met.T.Eq.laws c.requires.cites.placed c.requires.cites.listed groups marks flags c.loop-group.invariant group
          w.in_ok-own.own.items w.in_ok-own.ensures (told ∙ w.if-not-waits.true) c.if-not-waits.marks.items c.if-not-waits.marked.items
          (ap (λ v. v.items) w.marks-is ∙ w.in_ok-append.ensures.items) (ap length noted ∙ long)
          (subst (λ now. AreMarked table.places w.in_ok-own.own.items flags now) (sym noted)
          (subst (λ old. AreMarked table.places w.in_ok-own.own.items old w.note.new.marked) w.deref_mut.ensures.value
          (subst (λ ps. AreMarked ps w.in_ok-own.own.items w.deref_mut.result.now w.note.new.marked) c.places-places.ensures w.note.ensures.noted)))
      | else-not-waits w ↦
          subst (λ ms. MarkedSoFar eq dated rs table.entries table.places (groups ++ group ∷ []) ms c.if-not-waits.marked.items) (sym (ap (λ v. v.items) w.marks-is))
          (subst (λ fs. MarkedSoFar eq dated rs table.entries table.places (groups ++ group ∷ []) marks fs) (sym (ap (λ v. v.items) w.marked-is))
          (group-waits eq dated rs table.entries table.places g.met.T.Eq.laws c.requires.cites.placed c.requires.cites.listed groups marks flags c.loop-group.invariant group
          (told ∙ w.if-not-waits.false)))
    ])

pub returns : goal.returns
returns g c =
    let rs = renders_view c.args.cites.now in
    let eq = g.T.PartialEq.eq in
    c.loop-group.invariant.gathered
    ∙ ap (λ l. fold (with_counting eq c.shows_dates-dated.result rs) [] (map (λ p. p.items) l)) (take_all c.loop-group.group-index c.deref-group-items.result.now c.loop-group-test.false)
    ∙ full-is eq g.T.EntryLike.answers rs c.shows_dates-dated.result _ c.shows_dates-dated.ensures (ap (map (λ p. p.items)) c.deref-group-items.ensures.value ∙ c.in_ok-groups.ensures.groups)
