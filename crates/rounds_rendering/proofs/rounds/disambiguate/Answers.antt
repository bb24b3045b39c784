use Rattle.std.proofs.Common.{ap, length, sym, ◌∙◌}
use Rattle.driver_entries.specs.TableView.{table_view}
use Rattle.driver_passes.specs.RendersView.{renders_view}
use Rattle.driver_writers.specs.Desk.{desk}
use Rattle.driver_writers.specs.Writing.{writing_of}
use Rattle.rounds_rendering.proofs.InMode.{begun-mode, less-left, none-left, one-more-round}
use Rattle.rounds_rendering.proofs.InRounds.{last-round, round-made}
use Rattle.rounds_rendering.proofs.Marked.{still-of-table}
use Rattle.rounds_rendering.proofs.rounds.disambiguate.Goals as goal

pub loop-alloc-init : goal.loop-alloc-init
loop-alloc-init g c = record {
  cites = c.requires.cites;
  rounds = λ way ok. begun-mode c.args.mode g.T.PartialEq.eq g.T.EntryLike.answers (renders_view c.args.cites.now) (table_view c.args.table.now).entries (desk (g.W.CiteWriter.state c.args.writer.now way) c.args.counter.now) g.met.T.Eq.laws
      _ c.len.result c.in_ok-no_states.ensures c.len.ensures;
  agreed = λ way ok. ok;
}

pub loop-alloc-smaller : goal.loop-alloc-smaller
loop-alloc-smaller g c =
    let eq = g.T.PartialEq.eq in
    let answers = g.T.EntryLike.answers in
    let laws = g.met.T.Eq.laws in
    let firsts = renders_view c.args.cites.now in
    let es = (table_view c.args.table.now).entries in
    let old = λ (way : g.W.CiteWriter.Way). desk (g.W.CiteWriter.state c.args.writer.now way) c.args.counter.now in
    let before = λ (way : g.W.CiteWriter.Way). desk (g.W.CiteWriter.state c.loop-alloc.writer way) c.loop-alloc.counter in
    let behind = λ (way : g.W.CiteWriter.Way). desk (g.W.CiteWriter.state c.run_round.new.writer way) c.run_round.new.counter in
    let now = renders_view c.loop-alloc.cites in
    let new = renders_view c.run_round.new.cites in
    let states = c.loop-alloc.rounds.states in
    let marked = c.loop-alloc.rounds.marked in
    let did = c.in_ok-run_round.ensures in
    let ok_now = λ (way : g.W.CiteWriter.Way) (ok : g.W.CiteWriter.agrees c.run_round.new.writer way). did.agreed way ok in
    let rounds = λ (way : g.W.CiteWriter.Way) (ok : _). c.loop-alloc.invariant.rounds way (ok_now way ok) in
    let round = λ (way : g.W.CiteWriter.Way) (ok : _). round-made c.args.mode eq answers firsts es (old way) (rounds way ok).k now states.items marked (before way) (rounds way ok).so states.len c.deref_mut.result.now c.run_round.new.states new (behind way)
    states.ok.0 c.deref_mut.ensures.value (did.marked way ok) (did.states way ok) (did.asked way ok) in
    let left = sym c.has_round_left.ensures ∙ c.loop-alloc-test.true in
    let some = g.met.W.CiteWriter.some_way c.run_round.new.writer in
    less-left c.args.mode eq answers firsts es (old some.0) laws c.requires.begun now states.items marked (before some.0) (rounds some.0 some.1) left new _ (behind some.0) (round some.0 some.1) (sym did.again ∙ c.if-not-branch.false) _ c.saturating_add.ensures

pub loop-alloc-preserved : goal.loop-alloc-preserved
loop-alloc-preserved g c =
    let eq = g.T.PartialEq.eq in
    let answers = g.T.EntryLike.answers in
    let laws = g.met.T.Eq.laws in
    let firsts = renders_view c.args.cites.now in
    let es = (table_view c.args.table.now).entries in
    let old = λ (way : g.W.CiteWriter.Way). desk (g.W.CiteWriter.state c.args.writer.now way) c.args.counter.now in
    let before = λ (way : g.W.CiteWriter.Way). desk (g.W.CiteWriter.state c.loop-alloc.writer way) c.loop-alloc.counter in
    let behind = λ (way : g.W.CiteWriter.Way). desk (g.W.CiteWriter.state c.run_round.new.writer way) c.run_round.new.counter in
    let now = renders_view c.loop-alloc.cites in
    let new = renders_view c.run_round.new.cites in
    let states = c.loop-alloc.rounds.states in
    let marked = c.loop-alloc.rounds.marked in
    let did = c.in_ok-run_round.ensures in
    let ok_now = λ (way : g.W.CiteWriter.Way) (ok : g.W.CiteWriter.agrees c.run_round.new.writer way). did.agreed way ok in
    let rounds = λ (way : g.W.CiteWriter.Way) (ok : _). c.loop-alloc.invariant.rounds way (ok_now way ok) in
    let round = λ (way : g.W.CiteWriter.Way) (ok : _). round-made c.args.mode eq answers firsts es (old way) (rounds way ok).k now states.items marked (before way) (rounds way ok).so states.len c.deref_mut.result.now c.run_round.new.states new (behind way)
    states.ok.0 c.deref_mut.ensures.value (did.marked way ok) (did.states way ok) (did.asked way ok) in
    let left = sym c.has_round_left.ensures ∙ c.loop-alloc-test.true in
    let some = g.met.W.CiteWriter.some_way c.run_round.new.writer in
    record {
      cites = still-of-table c.args.mode eq (writing_of answers (g.W.CiteWriter.state c.loop-alloc.writer some.0)) now new (did.marked some.0 some.1) (table_view c.args.table.now) c.loop-alloc.invariant.cites;
      rounds = λ way ok. one-more-round c.args.mode eq answers firsts es (old way) laws c.requires.begun now states.items marked (before way) (rounds way ok) left new _ (behind way) (round way ok) (sym did.again ∙ c.if-not-branch.false) _ c.saturating_add.ensures;
      agreed = λ way ok. c.loop-alloc.invariant.agreed way (ok_now way ok);
    }

pub returns-then-not-branch : goal.returns-then-not-branch
returns-then-not-branch g c =
    let eq = g.T.PartialEq.eq in
    let answers = g.T.EntryLike.answers in
    let laws = g.met.T.Eq.laws in
    let firsts = renders_view c.args.cites.now in
    let es = (table_view c.args.table.now).entries in
    let old = λ (way : g.W.CiteWriter.Way). desk (g.W.CiteWriter.state c.args.writer.now way) c.args.counter.now in
    let before = λ (way : g.W.CiteWriter.Way). desk (g.W.CiteWriter.state c.loop-alloc.writer way) c.loop-alloc.counter in
    let behind = λ (way : g.W.CiteWriter.Way). desk (g.W.CiteWriter.state c.run_round.new.writer way) c.run_round.new.counter in
    let now = renders_view c.loop-alloc.cites in
    let new = renders_view c.run_round.new.cites in
    let states = c.loop-alloc.rounds.states in
    let marked = c.loop-alloc.rounds.marked in
    let did = c.in_ok-run_round.ensures in
    let ok_now = λ (way : g.W.CiteWriter.Way) (ok : g.W.CiteWriter.agrees c.run_round.new.writer way). did.agreed way ok in
    let rounds = λ (way : g.W.CiteWriter.Way) (ok : _). c.loop-alloc.invariant.rounds way (ok_now way ok) in
    let round = λ (way : g.W.CiteWriter.Way) (ok : _). round-made c.args.mode eq answers firsts es (old way) (rounds way ok).k now states.items marked (before way) (rounds way ok).so states.len c.deref_mut.result.now c.run_round.new.states new (behind way)
    states.ok.0 c.deref_mut.ensures.value (did.marked way ok) (did.states way ok) (did.asked way ok) in
    record {
      rounds = λ way ok. last-round c.args.mode eq answers firsts es (old way) (rounds way ok).k now states.items marked (before way) (rounds way ok).so new _ (behind way) (round way ok) (sym did.again ∙ c.if-not-branch.true);
      agreed = λ way ok. c.loop-alloc.invariant.agreed way (ok_now way ok);
    }

pub returns : goal.returns
returns g c = record {
  rounds = λ way ok. none-left c.args.mode g.T.PartialEq.eq g.T.EntryLike.answers (renders_view c.args.cites.now) (table_view c.args.table.now).entries (desk (g.W.CiteWriter.state c.args.writer.now way) c.args.counter.now) g.met.T.Eq.laws
      c.requires.begun _ _ _ _ (c.loop-alloc.invariant.rounds way ok) (sym c.has_round_left.ensures ∙ c.loop-alloc-test.false);
  agreed = c.loop-alloc.invariant.agreed;
}

pub run_round-requires-clause-long : goal.run_round-requires-clause-long
run_round-requires-clause-long g c =
    let some = g.met.W.CiteWriter.some_way c.loop-alloc.writer in
    ap length c.deref_mut.ensures.value ∙ (c.loop-alloc.invariant.rounds some.0 some.1).so.states_are.long
