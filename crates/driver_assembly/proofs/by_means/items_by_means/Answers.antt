use Rattle.std.proofs.Common.{◌≡◌, ◌+◌, ◌<◌, ◌++◌, ◌∷◌, [], List, Option, Some, None, ap, drop, false, get_or, length, map, subst, sym, take, ◌∙◌}
use Rattle.std.specs.List.{filter_map, zip}
use Rattle.std.specs.Prelude.{option_map, string_bytes}
use Rattle.std.proofs.lemmas.List.{append-nil, drop_all, map-append, take_all}
use Rattle.driver_passes.specs.Places.{cite_at}
use Rattle.driver_passes.specs.Renders.{ItemRender, Place}
use Rattle.driver_passes.specs.RendersView.{item_view, renders_view}
use Rattle.driver_passes.specs.Request.{wanted_source}
use Rattle.driver_passes.specs.RequestView.{wanted_view}
use Rattle.rounds_substitution.specs.ItemView.{rendered_items_view}
use Rattle.rounds_substitution.specs.Substitution.{Item}
use Rattle.driver_writers.specs.Desk.{after, desk}
use Rattle.driver_writers.specs.Tasks.{TaskValue, item_task}
use Rattle.driver_writers.specs.Writing.{Writing, writing_of}
use Rattle.driver_writers.proofs.TasksDone.{writes-same}
use Rattle.driver_assembly.specs.BibliographyItems.{item_by}
use Rattle.driver_assembly.specs.ByMeans.{cite_with_means, task_by, tasks_by_means}
use Rattle.driver_assembly.specs.declared.by_means.ItemMeans.{ItemMeans}
use Rattle.driver_assembly.proofs.Asked.{asked-found, asked-none, made-more, made-none, written_by_same}
use Rattle.driver_assembly.proofs.Paired.{pair-here, pair-past, pair-within, twice}
use Rattle.driver_assembly.proofs.by_means.items_by_means.Goals.{in-Some+in_ok-item+in_ok-push, in_default}
use Rattle.driver_assembly.proofs.by_means.items_by_means.Goals as goal

pub loop-k-preserved : goal.loop-k-preserved
loop-k-preserved g c =
    let E = g.row.T.Denot in
    let P = g.row.P.Denot in
    let firsts = c.args.firsts.now in
    let means = c.args.means.now in
    let pairs = zip firsts means in
    let k = c.loop-k.k in
    let first_within : k < length firsts = c.loop-k-test.true in
    let means_within : k < length means = subst (λ n. k < n) (sym c.requires) first_within in
    let within = pair-within firsts means k first_within means_within in
    let none_told : ItemMeans = record { choose = false; suffix = None } in
    let place : Place = get_or firsts k (0, 0) in
    let own : ItemMeans = get_or means k none_told in
    let nowhere : Place × ItemMeans = ((0, 0), none_told) in
    let here = pair-here firsts means k (0, 0) none_told first_within means_within in
    let cites = renders_view c.args.cites.now in
    let found_at : Place × ItemMeans → Option (ItemRender E P × ItemMeans) = cite_with_means cites in
    let found : found_at (place, own) ≡ option_map {U = ItemRender E P × ItemMeans} (λ i. (item_view i.now, own)) c.cite_at.result =
    sym (twice (cite_at cites place) (λ r. r.1) own) ∙ ap (option_map {U = ItemRender E P × ItemMeans} (λ r. (r, own))) (sym c.cite_at.ensures) ∙ twice c.cite_at.result (λ i. item_view i.now) own in
    let source = wanted_source (wanted_view c.args.wanted.wanted.now) in
    let Way = g.W.CiteWriter.Way in
    let agrees = g.W.CiteWriter.agrees in
    let state = g.W.CiteWriter.state in
    let old = λ (way : Way). desk (state c.args.writer.now way) c.args.counter.now in
    let before = λ (way : Way). desk (state c.loop-k.writer way) c.loop-k.counter in
    let was = c.loop-k.invariant in
    let task_of : ItemRender E P × ItemMeans → TaskValue E P = λ p. item_task (task_by source p) in
    let asked : List (TaskValue E P) = map task_of (filter_map found_at (take k pairs)) in
    let written = λ (way : Way). writing_of g.T.EntryLike.answers (state c.args.writer.now way) in
    let writes = λ (way : Way). writing_of g.T.EntryLike.answers (state c.loop-k.writer way) in
    let write : Writing E P → ItemRender E P × ItemMeans → Item = λ v p. item_by v (task_by source p) in
    elim c.match-cite_at.branch [
      | in-Some+in_ok-item+in_ok-push w ↦
          let first : ItemRender E P × ItemMeans = (item_view w.in-Some.first.now, own) in
          let there : found_at (place, own) ≡ Some first = found ∙ ap (option_map {U = ItemRender E P × ItemMeans} (λ i. (item_view i.now, own))) w.in-Some.is in
          let made : Item = (w.in_ok-item.item.0, string_bytes w.in_ok-item.item.1) in
          let now_ok = λ (way : Way) (ok : _). subst (λ v. agrees v way) w.writer-is ok in
          let before_ok = λ (way : Way) (ok : _). w.in_ok-item.ensures.agreed way (now_ok way ok) in
          let item = λ (way : Way) (ok : _). written_by_same (λ (v : Writing E P). write v first) (writes way) (written way) made
          (writes-same g.T.EntryLike.answers asked (old way) (before way) (was.asked way (before_ok way ok))) (w.in_ok-item.ensures.item way (now_ok way ok)) in
          record {
            items = λ way ok. made-more found_at (write (written way)) pairs k nowhere (place, own) within here (rendered_items_view c.loop-k.items.items) _ (was.items way (before_ok way ok)) first _ there
                (ap (λ v. rendered_items_view v.items) w.items-is ∙ ap rendered_items_view w.in_ok-push.ensures
                ∙ map-append (λ p. (p.0, string_bytes p.1)) c.loop-k.items.items (w.in_ok-item.item ∷ []) ∙ ap (λ z. rendered_items_view c.loop-k.items.items ++ z ∷ []) (item way ok));
            asked = λ way ok. (λ i. desk (state (w.writer-is i) way) (w.counter-is i))
                ∙ asked-found pairs k nowhere (place, own) within here task_of (old way) (before way) _ found_at first there (was.asked way (before_ok way ok)) (w.in_ok-item.ensures.asked way (now_ok way ok));
            agreed = λ way ok. was.agreed way (before_ok way ok);
          }
      | in_default w ↦
          let none : found_at (place, own) ≡ None = found ∙ ap (option_map {U = ItemRender E P × ItemMeans} (λ i. (item_view i.now, own))) w.in_default.is in
          let before_ok = λ (way : Way) (ok : _). subst (λ v. agrees v way) w.writer-is ok in
          record {
            items = λ way ok. ap (λ v. rendered_items_view v.items ++ map (write (written way)) (filter_map found_at (drop (k + 1) pairs))) w.items-is
                ∙ made-none found_at (write (written way)) pairs k nowhere (place, own) within here (rendered_items_view c.loop-k.items.items) _ (was.items way (before_ok way ok)) none;
            asked = λ way ok. (λ i. desk (state (w.writer-is i) way) (w.counter-is i)) ∙ asked-none pairs k nowhere (place, own) within here task_of (old way) (before way) (before way) found_at none (was.asked way (before_ok way ok));
            agreed = λ way ok. was.agreed way (before_ok way ok);
          }
    ]

pub returns : goal.returns
returns g c =
    let pairs = zip c.args.firsts.now c.args.means.now in
    let source = wanted_source (wanted_view c.args.wanted.wanted.now) in
    let Way = g.W.CiteWriter.Way in
    let old = λ (way : Way). desk (g.W.CiteWriter.state c.args.writer.now way) c.args.counter.now in
    let written = λ (way : Way). writing_of g.T.EntryLike.answers (g.W.CiteWriter.state c.args.writer.now way) in
    let found_at = cite_with_means (renders_view c.args.cites.now) in
    let items = rendered_items_view c.loop-k.items.items in
    let past = pair-past c.args.firsts.now c.args.means.now c.loop-k.k c.loop-k-test.false in
    record {
      items = λ way ok. sym (append-nil items) ∙ ap (λ l. items ++ map (λ p. item_by (written way) (task_by source p)) (filter_map found_at l)) (sym (drop_all c.loop-k.k pairs past)) ∙ c.loop-k.invariant.items way ok;
      asked = λ way ok. c.loop-k.invariant.asked way ok ∙ ap (λ l. after (tasks_by_means source (filter_map found_at l)) (old way)) (take_all c.loop-k.k pairs past);
      agreed = c.loop-k.invariant.agreed;
    }
