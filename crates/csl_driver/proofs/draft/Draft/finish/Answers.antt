use Rattle.std.proofs.Common.{◌≡◌, ap, map, subst, sym, ◌∙◌}
use Rattle.std.specs.List.{filter_map}
use Rattle.std.specs.Prelude.{option_map}
use Rattle.driver_assembly.specs.BibliographyItems.{bibliography_of, bibliography_tasks}
use Rattle.driver_assembly.specs.declared.rendered.Rendered.{Rendered}
use Rattle.rounds_grouping.specs.Collapsed.{collapsed_finally}
use Rattle.csl_driver.specs.Answer.{citations_of, entries_listed, final_number, in_the_end, numbered_finally, used_order, rendered_first}
use Rattle.csl_driver.specs.DraftView.{job_in, table_in}
use Rattle.csl_driver.specs.Promised.{IsAnswer}
use Rattle.csl_driver.specs.WriterTasks.{begun_tasks, last_tasks, listed_tasks, tasks, where_wanted}
use Rattle.csl_driver.proofs.ByEntries.{numbers-of, states-of}
use Rattle.csl_driver.proofs.KeptLaws.{is-answer}
use Rattle.csl_driver.proofs.Listings.{table-once}
use Rattle.csl_driver.proofs.Standing.{begun-of-table, drawn-requests, ordered-stand, settled-stand}
use Rattle.csl_driver.proofs.Steps.{all-steps, rounds-same, same-told, same-written}
use Rattle.csl_driver.proofs.TaskCounts.{task-count}
use Rattle.csl_driver.proofs.Whole.{whole}
use Rattle.driver_entries.specs.Entries.{number}
use Rattle.rounds_grouping.specs.Blocks.{grouped}
use Rattle.driver_passes.specs.RendersView.{renders_view}
use Rattle.driver_passes.specs.Request.{wanted_source}
use Rattle.driver_positions.specs.FinalProperties.{first_item, with_final_properties}
use Rattle.driver_positions.specs.FirstProperties.{first_properties, numbered_by}
use Rattle.rounds_runs.proofs.Begun.{first-begun}
use Rattle.rounds_runs.specs.FirstRenders.{AreBegun}
use Rattle.rounds_runs.specs.Rounds.{told_by}
use Rattle.rounds_runs.specs.Tables.{last_states, round_tasks}
use Rattle.rounds_rendering.specs.AfterRounds.{AreAfterRounds}
use Rattle.driver_writers.proofs.Counting.{counted_times-all}
use Rattle.driver_writers.specs.Counted.{counted_times}
use Rattle.driver_writers.specs.Desk.{after, desk}
use Rattle.driver_writers.specs.Writing.{asked_for, writing_of}
use Rattle.csl_driver.proofs.draft.Draft.finish.Goals as goal

pub disambiguate-requires-clause-cites : goal.disambiguate-requires-clause-cites
disambiguate-requires-clause-cites g c =
    let draft = c.args.self in
    let some = g.met.W.CiteWriter.some_way c.render_first.new.writer in
    begun-of-table g.met.T.Eq.laws (writing_of g.T.EntryLike.answers (g.W.CiteWriter.state c.args.writer.now some.0)) g.P.PartialEq.eq (job_in draft) draft.known.table
    (ap renders_view c.deref_mut-cites.ensures.value ∙ c.in_ok-first.ensures.cites some.0 some.1) draft.requests.no_ring

pub disambiguate-requires-clause-begun : goal.disambiguate-requires-clause-begun
disambiguate-requires-clause-begun g c = λ full.
    let eq = g.T.PartialEq.eq in
    let job = job_in c.args.self in
    let some = g.met.W.CiteWriter.some_way c.render_first.new.writer in
    subst AreBegun (sym (ap renders_view c.deref_mut-cites.ensures.value ∙ c.in_ok-first.ensures.cites some.0 some.1))
    (first-begun (writing_of g.T.EntryLike.answers (g.W.CiteWriter.state c.args.writer.now some.0)) job.requests (first_properties eq g.P.PartialEq.eq (number eq job.offset (entries_listed eq job.wanted job.requests)) job.requests))

pub final_numbers-requires : goal.final_numbers-requires
final_numbers-requires g c =
    let draft = c.args.self in
    let some = g.met.W.CiteWriter.some_way c.disambiguate.new.writer in
    let way = some.0 in
    let first_ok = c.in_ok-rounds.ensures.agreed way some.1 in
    let rounds =
    rounds-same g.T.EntryLike.answers c.args.mode g.T.PartialEq.eq (begun_tasks g.T.PartialEq.eq g.P.PartialEq.eq (job_in draft)) (desk (g.W.CiteWriter.state c.args.writer.now way) c.new-counter.result)
    (desk (g.W.CiteWriter.state c.render_first.new.writer way) c.render_first.new.counter) (c.in_ok-first.ensures.asked way first_ok) (c.in_ok-rounds.ensures.rounds way some.1) in
    record {
      cites = ordered-stand g.met.T.Eq.laws (writing_of g.T.EntryLike.answers (g.W.CiteWriter.state c.args.writer.now way)) g.P.PartialEq.eq (job_in draft) draft.known.table
          (ap renders_view c.deref_mut-cites.ensures.value ∙ c.in_ok-first.ensures.cites way first_ok) c.args.mode rounds.cites c.in_ok-group_all.ensures;
    }

pub set_final_properties-requires : goal.set_final_properties-requires
set_final_properties-requires g c =
    let draft = c.args.self in
    let some = g.met.W.CiteWriter.some_way c.disambiguate.new.writer in
    let way = some.0 in
    let first_ok = c.in_ok-rounds.ensures.agreed way some.1 in
    let rounds =
    rounds-same g.T.EntryLike.answers c.args.mode g.T.PartialEq.eq (begun_tasks g.T.PartialEq.eq g.P.PartialEq.eq (job_in draft)) (desk (g.W.CiteWriter.state c.args.writer.now way) c.new-counter.result)
    (desk (g.W.CiteWriter.state c.render_first.new.writer way) c.render_first.new.counter) (c.in_ok-first.ensures.asked way first_ok) (c.in_ok-rounds.ensures.rounds way some.1) in
    record {
      placed = (ordered-stand g.met.T.Eq.laws (writing_of g.T.EntryLike.answers (g.W.CiteWriter.state c.args.writer.now way)) g.P.PartialEq.eq (job_in draft) draft.known.table
          (ap renders_view c.deref_mut-cites.ensures.value ∙ c.in_ok-first.ensures.cites way first_ok) c.args.mode rounds.cites c.in_ok-group_all.ensures).placed;
    }

pub bibliography-requires : goal.bibliography-requires
bibliography-requires g c =
    let draft = c.args.self in
    let some = g.met.W.CiteWriter.some_way c.disambiguate.new.writer in
    let way = some.0 in
    let first_ok = c.in_ok-rounds.ensures.agreed way some.1 in
    let rounds =
    rounds-same g.T.EntryLike.answers c.args.mode g.T.PartialEq.eq (begun_tasks g.T.PartialEq.eq g.P.PartialEq.eq (job_in draft)) (desk (g.W.CiteWriter.state c.args.writer.now way) c.new-counter.result)
    (desk (g.W.CiteWriter.state c.render_first.new.writer way) c.render_first.new.counter) (c.in_ok-first.ensures.asked way first_ok) (c.in_ok-rounds.ensures.rounds way some.1) in
    record {
      cites = settled-stand g.met.T.Eq.laws (writing_of g.T.EntryLike.answers (g.W.CiteWriter.state c.args.writer.now way)) g.P.PartialEq.eq (job_in draft) draft.known.table
          (ap renders_view c.deref_mut-cites.ensures.value ∙ c.in_ok-first.ensures.cites way first_ok) c.args.mode rounds.cites c.in_ok-group_all.ensures _ c.set_final_properties.ensures;
    }

pub citations-requires : goal.citations-requires
citations-requires g c =
    let draft = c.args.self in
    let some = g.met.W.CiteWriter.some_way c.disambiguate.new.writer in
    let way = some.0 in
    let first_ok = c.in_ok-rounds.ensures.agreed way some.1 in
    let rounds =
    rounds-same g.T.EntryLike.answers c.args.mode g.T.PartialEq.eq (begun_tasks g.T.PartialEq.eq g.P.PartialEq.eq (job_in draft)) (desk (g.W.CiteWriter.state c.args.writer.now way) c.new-counter.result)
    (desk (g.W.CiteWriter.state c.render_first.new.writer way) c.render_first.new.counter) (c.in_ok-first.ensures.asked way first_ok) (c.in_ok-rounds.ensures.rounds way some.1) in
    let stand = settled-stand g.met.T.Eq.laws (writing_of g.T.EntryLike.answers (g.W.CiteWriter.state c.args.writer.now way)) g.P.PartialEq.eq (job_in draft) draft.known.table
    (ap renders_view c.deref_mut-cites.ensures.value ∙ c.in_ok-first.ensures.cites way first_ok) c.args.mode rounds.cites c.in_ok-group_all.ensures _ c.set_final_properties.ensures in
    record { cites = ap (map (λ r. r.request)) c.collapse_all.ensures ∙ drawn-requests (renders_view c.set_final_properties.new.cites) ∙ stand.of }

pub returns : goal.returns
returns g c =
    let eq = g.T.PartialEq.eq in
    let peq = g.P.PartialEq.eq in
    let answers = g.T.EntryLike.answers in
    let mode = c.args.mode in
    let draft = c.args.self in
    let job = job_in draft in
    let table = table_in draft in
    let source = wanted_source job.wanted in
    let listed = entries_listed eq job.wanted job.requests in
    let once = table-once eq g.met.T.Eq.laws job.requests table draft.known.table in
    let each = λ (way : g.W.CiteWriter.Way) (ok : g.W.CiteWriter.agrees c.citations.new.writer way).
    let written_ok = c.in_ok-citations.ensures.agreed way ok in
    let told_ok = c.in_ok-bibliography.ensures.agreed way written_ok in
    let begun_ok = c.in_ok-rounds.ensures.agreed way told_ok in
    let start = desk (g.W.CiteWriter.state c.args.writer.now way) c.new-counter.result in
    let begun = desk (g.W.CiteWriter.state c.render_first.new.writer way) c.render_first.new.counter in
    let told = desk (g.W.CiteWriter.state c.disambiguate.new.writer way) c.disambiguate.new.counter in
    let written = desk (g.W.CiteWriter.state c.bibliography.new.writer way) c.bibliography.new.counter in
    let end = desk (g.W.CiteWriter.state c.citations.new.writer way) c.citations.new.counter in
    let writing = writing_of answers (g.W.CiteWriter.state c.args.writer.now way) in
    let begun_is = c.in_ok-first.ensures.asked way begun_ok in
    let firsts = rendered_first eq peq writing job in
    let first = ap renders_view c.deref_mut-cites.ensures.value ∙ c.in_ok-first.ensures.cites way begun_ok in
    let rounds =
    subst (λ fs. AreAfterRounds mode eq writing fs table.entries begun (renders_view c.disambiguate.new.cites) c.in_ok-rounds.rounds.states.items c.in_ok-rounds.rounds.marked told)
    first (rounds-same answers mode eq (begun_tasks eq peq job) start begun begun_is (c.in_ok-rounds.ensures.rounds way told_ok)) in
    let ordered = c.in_ok-group_all.ensures ∙ ap (map grouped) rounds.cites in
    let number_of = final_number eq peq writing mode job in
    let numbers = c.in_ok-numbers.ensures.numbers ∙ ap (λ cs. number eq job.offset (numbered_finally eq (used_order job.wanted) job.requests cs)) ordered in
    let settled =
    c.set_final_properties.ensures
    ∙ (λ i. with_final_properties eq peq ((ap (λ ns. numbered_by eq ns table.entries) c.deref.ensures.value ∙ numbers) i) (ordered i)) in
    let account = c.in_ok-account.ensures in
    let last = last_states mode eq writing firsts in
    let listed_is =
    c.in_ok-bibliography.ensures.asked way written_ok
    ∙ ap (λ cs. after (where_wanted job.wanted.style.bibliography (bibliography_tasks source (filter_map (first_item eq cs) listed))) told) settled in
    let last_is = c.in_ok-citations.ensures.asked way ok ∙ ap (λ cs. after (last_tasks cs) written) (c.collapse_all.ensures ∙ ap (map collapsed_finally) settled) in
    let first_tasks = begun_tasks eq peq job in
    let again_tasks = round_tasks mode eq writing firsts in
    let bibliography_asked = listed_tasks eq peq writing mode job in
    let last_asked = last_tasks (map collapsed_finally (in_the_end eq peq writing mode job)) in
    let second = same-told answers first_tasks again_tasks bibliography_asked last_asked start begun told written end begun_is rounds.asked listed_is last_is in
    let third = same-written answers first_tasks again_tasks bibliography_asked last_asked start begun told written end begun_is rounds.asked listed_is last_is in
    let all = all-steps answers first_tasks again_tasks bibliography_asked last_asked start begun told written end begun_is rounds.asked listed_is last_is in
    let wanted = job.wanted.style.bibliography in
    let rendered : Rendered = record { citations = c.new.result; bibliography = c.in_ok-bibliography.bibliography } in
    let both : IsAnswer eq peq writing mode job (rendered, c.in_ok-account.account) × (end.writer ≡ asked_for (tasks eq peq writing mode job) start.writer) = (
      is-answer eq peq writing mode job (rendered, c.in_ok-account.account) (c.answers_keep_laws.ensures writing mode job) (record {
        ok = whole eq peq writing mode job (renders_view c.set_final_properties.new.cites) (renders_view c.collapse_all.new.cites) settled c.collapse_all.ensures
            (c.new.ensures ∙ c.in_ok-citations.ensures.citations way ok ∙ ap (λ w. citations_of w (renders_view c.collapse_all.new.cites)) third)
            (c.in_ok-bibliography.ensures.bibliography way written_ok ∙ ap (λ w. option_map (λ b. bibliography_of w source b (filter_map (first_item eq (renders_view c.set_final_properties.new.cites)) listed)) wanted) second);
        renders = account.renders ∙ ap (λ d. d.renders) all ∙ (λ i. counted_times (task-count eq g.met.T.Eq.laws peq writing mode job i) (c.new-counter.ensures i)) ∙ counted_times-all _;
        rounds = account.rounds ∙ rounds.marked_is;
        entries = account.entries ∙ ap (λ t. t.entries) draft.known.table;
        states = account.states ∙ states-of eq g.met.T.Eq.laws table.entries once last _ rounds.states_are ∙ ap (λ t. map (λ e. told_by (last e)) t.entries) draft.known.table;
        numbers = account.numbers ∙ numbers-of eq g.met.T.Eq.laws table.entries once number_of _ c.in_ok-numbers.ensures.long numbers ∙ ap (λ t. map number_of t.entries) draft.known.table;
      }),
      ap (λ d. d.writer) all,
    ) in
    both in
    record {
      answer = λ way ok. (each way ok).0;
      asked = λ way ok. (each way ok).1;
      agreed = λ way ok. c.in_ok-first.ensures.agreed way (c.in_ok-rounds.ensures.agreed way (c.in_ok-bibliography.ensures.agreed way (c.in_ok-citations.ensures.agreed way ok)));
    }
