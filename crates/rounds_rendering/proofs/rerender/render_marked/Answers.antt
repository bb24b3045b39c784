use Rattle.std.proofs.Common.{◌<◌, [], ap, arith, get_or, length, refl, subst, sym, ◌∙◌}
use Rattle.std.proofs.Math.ListN.{get_or-map, length-map}
use Rattle.std.proofs.lemmas.List.{get_or_default, with_items_is}
use Rattle.value_styles.specs.Ring.{HasNoRing}
use Rattle.driver_entries.specs.TableView.{table_view}
use Rattle.driver_passes.specs.ByPlaces.{by_places}
use Rattle.driver_passes.specs.RendersView.{item_view, items_view, render_view, renders_view}
use Rattle.driver_passes.proofs.Halves.{known_next}
use Rattle.driver_writers.specs.Desk.{after, desk}
use Rattle.driver_writers.specs.Writing.{writing_of}
use Rattle.rounds_rendering.specs.Gathered.{cite_again, request_again, request_tasks}
use Rattle.rounds_rendering.proofs.Changed.{all-changed, one-changed}
use Rattle.rounds_rendering.proofs.OfTable.{row-is}
use Rattle.rounds_rendering.proofs.rerender.render_marked.Goals as goal

pub invariant_of-request : goal.invariant_of-request
invariant_of-request g c =
    let some = g.met.W.CiteWriter.some_way c.loop-r.writer in
    let again = λ (r : _). request_again c.args.states.now (writing_of g.T.EntryLike.answers (g.W.CiteWriter.state c.args.writer.now some.0)) (get_or (table_view c.args.table.now).places r []) in
    record {
      no_ring = known_next render_view again c.args.cites.now c.loop-r.cites c.loop-r.r (c.loop-r.invariant.changed some.0 some.1).again (λ x. HasNoRing x.request.style.macros) c.requires.cites.no_ring c.loop-r-test.true c.index-cites-r.result;
    }

pub loop-r-init : goal.loop-r-init
loop-r-init g c = record { changed = λ way ok. record { again = refl; asked = refl }; agreed = λ way ok. ok }

pub loop-r-preserved : goal.loop-r-preserved
loop-r-preserved g c =
    let eq = g.T.PartialEq.eq in
    let table = table_view c.args.table.now in
    let states = c.args.states.now in
    let olds = c.args.cites.now in
    let now = c.loop-r.cites in
    let r = c.loop-r.r in
    let found = c.index-cites-r-in-loop-r.result in
    let old = render_view (get_or now r found) in
    let before = λ (way : g.W.CiteWriter.Way). desk (g.W.CiteWriter.state c.loop-r.writer way) c.loop-r.counter in
    let ok_before = c.in_ok-render_items.ensures.agreed in
    let writing = λ (way : g.W.CiteWriter.Way). writing_of g.T.EntryLike.answers (g.W.CiteWriter.state c.loop-r.writer way) in
    let within : r < length (renders_view olds) = subst (λ n. r < n) (sym (length-map olds render_view)) c.loop-r-test.true in
    let inside : r < length now = let same = c.loop-r.auto.cites in let test = c.loop-r-test.true in omega (arith, same, test) in
    let row = c.deref.ensures.value ∙ row-is eq table (renders_view olds) c.requires.cites r within (λ ps. ps.items) c.places-places.result.now c.index-places-r.result c.places-places.ensures c.index-places-r.is in
    let one = ap (λ x. x.request) (ap render_view (get_or_default now r c.index-cites-r.result found inside)) in
    let written = with_items_is (get_or now r found).items c.render_items.new.items (c.render_items.auto.items ∙ ap length c.deref_mut.ensures.value ∙ sym (get_or now r found).items.ok.0) in
    record {
      changed = λ way ok. one-changed render_view g.T.EntryLike.answers (λ w r. request_again states w (get_or table.places r [])) (λ r x. request_tasks states x.request (get_or table.places r []) x.items)
          olds (desk (g.W.CiteWriter.state c.args.writer.now way) c.args.counter.now) r now (before way) _ found _ (c.loop-r.invariant.changed way (ok_before way ok)) c.loop-r-test.true
          (ap (λ xs. record old { items = xs })
          (ap items_view written ∙ c.in_ok-render_items.ensures.again way ok
          ∙ (λ i. by_places (cite_again states (writing way) (one i) (row i)) (items_view (c.deref_mut.ensures.value i)))))
          (c.in_ok-render_items.ensures.asked way ok ∙ (λ i. after (request_tasks states (one i) (row i) (items_view (c.deref_mut.ensures.value i))) (before way)));
      agreed = λ way ok. c.loop-r.invariant.agreed way (ok_before way ok);
    }

pub returns : goal.returns
returns g c =
    let places = (table_view c.args.table.now).places in
    let done = λ (way : g.W.CiteWriter.Way) (ok : g.W.CiteWriter.agrees c.loop-r.writer way). all-changed render_view g.T.EntryLike.answers (λ w r. request_again c.args.states.now w (get_or places r [])) (λ r x. request_tasks c.args.states.now x.request (get_or places r []) x.items)
    c.args.cites.now (desk (g.W.CiteWriter.state c.args.writer.now way) c.args.counter.now) c.loop-r.r c.loop-r.cites _ (c.loop-r.invariant.changed way ok) c.loop-r-test.false in
    record { again = λ way ok. (done way ok).0; asked = λ way ok. (done way ok).1; agreed = c.loop-r.invariant.agreed }
