use Rattle.std.proofs.Common.{ap, length, map, not, sym, ◌∙◌}
use Rattle.driver_entries.specs.TableView.{table_view}
use Rattle.driver_passes.specs.RendersView.{renders_view}
use Rattle.rounds_runs.specs.RoundMarks.{has_any}
use Rattle.driver_writers.specs.Desk.{after, desk}
use Rattle.driver_writers.specs.Writing.{writing_of}
use Rattle.rounds_rendering.specs.Gathered.{put_before}
use Rattle.rounds_rendering.proofs.Marked.{any-tested, empty-asked, empty-round, empty-states, greatest-now, nothing-marked, round-asked, round-done, round-states}
use Rattle.rounds_rendering.proofs.rounds.run_round.Goals as goal

pub returns-then-is_empty : goal.returns-then-is_empty
returns-then-is_empty g c =
    let eq = g.T.PartialEq.eq in
    let marks = c.in_ok-marks.marks in
    let rs = renders_view c.args.cites.now in
    let no = any-tested marks.items marks.len c.is_empty.result (sym marks.ok.0) c.is_empty.ensures ∙ ap not c.if-is_empty.true in
    let none = sym c.in_ok-marks.ensures ∙ nothing-marked marks.items no in
    record {
      again = sym no ∙ ap has_any c.in_ok-marks.ensures;
      marked = λ way ok. empty-round eq rs _ none (writing_of g.T.EntryLike.answers (g.W.CiteWriter.state c.args.writer.now way));
      states = λ way ok known. empty-states eq rs _ none (table_view c.args.table.now).entries known c.args.states.now;
      asked = λ way ok. empty-asked eq rs _ none (desk (g.W.CiteWriter.state c.args.writer.now way) c.args.counter.now);
      agreed = λ way ok. ok;
    }

pub render_marked-requires-clause-long : goal.render_marked-requires-clause-long
render_marked-requires-clause-long g c = ap length c.deref.ensures.value ∙ c.in_ok-marked.ensures.long ∙ c.len.ensures

pub returns : goal.returns
returns g c =
    let eq = g.T.PartialEq.eq in
    let Way = g.W.CiteWriter.Way in
    let writer = λ (way : Way). g.W.CiteWriter.state c.args.writer.now way in
    let writing = λ (way : Way). writing_of g.T.EntryLike.answers (writer way) in
    let table = table_view c.args.table.now in
    let rs = renders_view c.args.cites.now in
    let are = c.requires.cites in
    let marks = c.in_ok-marks.marks in
    let now = c.deref.result.now in
    let great = λ (way : Way). greatest-now c.args.mode eq (writing way) table rs are (map (λ ps. ps.items) c.places.result.now) c.len.result marks.items c.in_ok-marked.marked.items now
    c.places.ensures c.len.ensures c.in_ok-marks.ensures c.deref.ensures.value c.in_ok-marked.ensures in
    record {
      again = sym (any-tested marks.items marks.len c.is_empty.result (sym marks.ok.0) c.is_empty.ensures ∙ ap not c.if-is_empty.false) ∙ ap has_any c.in_ok-marks.ensures;
      marked = λ way ok. c.in_ok-render_marked.ensures.again way ok ∙ round-done c.args.mode eq (writing way) table rs are g.met.T.Eq.laws now (great way);
      states = λ way ok known.
          round-states c.args.mode eq (writing way) table rs are g.met.T.Eq.laws now (great way) known c.args.states.now c.put_before.new.kept
          (c.in_ok-put_before.ensures ∙ ap (λ s. put_before s c.args.states.now) (c.deref-2.ensures.value ∙ sym c.deref.ensures.value));
      asked = λ way ok. c.in_ok-render_marked.ensures.asked way ok ∙ ap (λ l. after l (desk (writer way) c.args.counter.now)) (round-asked c.args.mode eq (writing way) table rs are g.met.T.Eq.laws now (great way));
      agreed = c.in_ok-render_marked.ensures.agreed;
    }
