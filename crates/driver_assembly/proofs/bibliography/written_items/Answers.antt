use Rattle.std.proofs.Common.{◌≡◌, ◌+◌, ◌++◌, ◌∷◌, [], List, Option, Some, None, ap, drop, get_or, map, refl, subst, sym, take, ◌∙◌}
use Rattle.std.specs.List.{filter_map}
use Rattle.std.specs.Prelude.{option_map, string_bytes}
use Rattle.std.proofs.lemmas.List.{map-append}
use Rattle.driver_passes.specs.Places.{cite_at}
use Rattle.driver_passes.specs.Renders.{ItemRender, Place}
use Rattle.driver_passes.specs.RendersView.{item_view, renders_view}
use Rattle.driver_passes.specs.Request.{wanted_source}
use Rattle.driver_passes.specs.RequestView.{wanted_view}
use Rattle.rounds_substitution.specs.ItemView.{rendered_items_view}
use Rattle.rounds_substitution.specs.Substitution.{Item}
use Rattle.driver_writers.specs.Desk.{desk}
use Rattle.driver_writers.specs.Tasks.{TaskValue, item_task}
use Rattle.driver_writers.specs.Writing.{Writing, writing_of}
use Rattle.driver_writers.proofs.TasksDone.{writes-same}
use Rattle.driver_assembly.specs.BibliographyItems.{item_of, written_item}
use Rattle.driver_assembly.proofs.Asked.{asked-found, asked-none, made-more, made-none, written_by_same}
use Rattle.driver_assembly.proofs.bibliography.written_items.Goals.{in-Some+in_ok-item+in_ok-push, in_default}
use Rattle.driver_assembly.proofs.bibliography.written_items.Goals as goal

pub loop-place-preserved : goal.loop-place-preserved
loop-place-preserved g c =
    let E = g.row.T.Denot in
    let P = g.row.P.Denot in
    let firsts = c.args.firsts.now in
    let k = c.loop-place.place-index in
    let within = c.loop-place-test.true in
    let place : Place = get_or firsts k (0, 0) in
    let found_at : Place → Option (ItemRender E P) = λ p. option_map (λ r. r.1) (cite_at (renders_view c.args.cites.now) p) in
    let source = wanted_source (wanted_view c.args.wanted.wanted.now) in
    let Way = g.W.CiteWriter.Way in
    let agrees = g.W.CiteWriter.agrees in
    let state = g.W.CiteWriter.state in
    let old = λ (way : Way). desk (state c.args.writer.now way) c.args.counter.now in
    let before = λ (way : Way). desk (state c.loop-place.writer way) c.loop-place.counter in
    let was = c.loop-place.invariant in
    let task_of : ItemRender E P → TaskValue E P = λ i. item_task (item_of source i) in
    let asked : List (TaskValue E P) = map task_of (filter_map found_at (take k firsts)) in
    let written = λ (way : Way). writing_of g.T.EntryLike.answers (state c.args.writer.now way) in
    let writes = λ (way : Way). writing_of g.T.EntryLike.answers (state c.loop-place.writer way) in
    elim c.match-cite_at.branch [
      | in-Some+in_ok-item+in_ok-push w ↦
          let first = item_view w.in-Some.first.now in
          let there : found_at place ≡ Some first = sym c.cite_at.ensures ∙ ap (option_map (λ i. item_view i.now)) w.in-Some.is in
          let made : Item = (w.in_ok-item.item.0, string_bytes w.in_ok-item.item.1) in
          let now_ok = λ (way : Way) (ok : _). subst (λ v. agrees v way) w.writer-is ok in
          let before_ok = λ (way : Way) (ok : _). w.in_ok-item.ensures.agreed way (now_ok way ok) in
          let item = λ (way : Way) (ok : _). written_by_same (λ (v : Writing E P). written_item v source first) (writes way) (written way) made
          (writes-same g.T.EntryLike.answers asked (old way) (before way) (was.asked way (before_ok way ok))) (w.in_ok-item.ensures.item way (now_ok way ok)) in
          record {
            items = λ way ok. made-more found_at (written_item (written way) source) firsts k (0, 0) place within refl (rendered_items_view c.loop-place.items.items) _ (was.items way (before_ok way ok)) first _ there
                (ap (λ v. rendered_items_view v.items) w.items-is ∙ ap rendered_items_view w.in_ok-push.ensures
                ∙ map-append (λ p. (p.0, string_bytes p.1)) c.loop-place.items.items (w.in_ok-item.item ∷ []) ∙ ap (λ z. rendered_items_view c.loop-place.items.items ++ z ∷ []) (item way ok));
            asked = λ way ok. (λ i. desk (state (w.writer-is i) way) (w.counter-is i))
                ∙ asked-found firsts k (0, 0) place within refl task_of (old way) (before way) _ found_at first there (was.asked way (before_ok way ok)) (w.in_ok-item.ensures.asked way (now_ok way ok));
            agreed = λ way ok. was.agreed way (before_ok way ok);
          }
      | in_default w ↦
          let none : found_at place ≡ None = sym c.cite_at.ensures ∙ ap (option_map (λ i. item_view i.now)) w.in_default.is in
          let before_ok = λ (way : Way) (ok : _). subst (λ v. agrees v way) w.writer-is ok in
          record {
            items = λ way ok. ap (λ v. rendered_items_view v.items ++ map (written_item (written way) source) (filter_map found_at (drop (k + 1) firsts))) w.items-is
                ∙ made-none found_at (written_item (written way) source) firsts k (0, 0) place within refl (rendered_items_view c.loop-place.items.items) _ (was.items way (before_ok way ok)) none;
            asked = λ way ok. (λ i. desk (state (w.writer-is i) way) (w.counter-is i)) ∙ asked-none firsts k (0, 0) place within refl task_of (old way) (before way) (before way) found_at none (was.asked way (before_ok way ok));
            agreed = λ way ok. was.agreed way (before_ok way ok);
          }
    ]
