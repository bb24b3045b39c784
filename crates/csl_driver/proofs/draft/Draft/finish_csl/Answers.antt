use Rattle.std.proofs.Common.{◌≡◌, true, false, ap, subst, sym, ◌∙◌}
use Rattle.std.specs.Prelude.{option_map}
use Rattle.mentions_arranging.specs.Requests.{requests_view as all_arranged_view}
use Rattle.driver_assembly.specs.ByMeans.{bibliography_by_means, tasks_by_means}
use Rattle.driver_assembly.specs.declared.rendered.Rendered.{Rendered}
use Rattle.csl_driver.specs.AreCitesOf.{AreCitesOf}
use Rattle.csl_driver.specs.CslAccount.{every_second}
use Rattle.mentions_table_laws.specs.TellingLaws.{rounds_of}
use Rattle.csl_driver.specs.CslAnswer.{cites_arranged, item_means, listed, listed_cites, numbers_by, told_citations}
use Rattle.csl_driver.specs.CslParts.{all_located}
use Rattle.csl_driver.specs.CslPromised.{IsExactlyCsl}
use Rattle.csl_driver.specs.CslTasks.{csl_tasks, order_tasks, told_item_tasks}
use Rattle.csl_driver.specs.DraftView.{job_in, table_in}
use Rattle.csl_driver.specs.WriterTasks.{last_tasks, where_wanted}
use Rattle.csl_driver.proofs.CslCost.{csl-count}
use Rattle.csl_driver.proofs.CslCounts.{arranged-size}
use Rattle.csl_driver.proofs.CslSteps.{arranged-told, same-behind, same-firsts, three-steps, whole-csl}
use Rattle.driver_passes.specs.RendersView.{renders_view}
use Rattle.driver_passes.specs.Request.{wanted_source}
use Rattle.driver_writers.proofs.Counting.{counted_times-all}
use Rattle.driver_writers.proofs.TasksDone.{writes-same}
use Rattle.driver_writers.specs.Counted.{counted_times}
use Rattle.driver_writers.specs.Desk.{after, desk}
use Rattle.driver_writers.specs.Writing.{asked_for, writing_of}
use Rattle.csl_driver.proofs.draft.Draft.finish_csl.Goals as goal

pub arrange-requires : goal.arrange-requires
arrange-requires g c =
    let draft = c.args.self in
    record { cites = subst (AreCitesOf g.T.PartialEq.eq (table_in draft) (job_in draft).requests) (sym (ap renders_view c.deref_mut-cites.ensures.value)) c.in_ok-told.ensures.belong }

pub told_bibliography-requires : goal.told_bibliography-requires
told_bibliography-requires g c = record { cites = c.in_ok-numbers.ensures.belong }

pub told_citations-requires : goal.told_citations-requires
told_citations-requires g c = record { cites = c.in_ok-numbers.ensures.belong.of }

pub returns : goal.returns
returns g c =
    let eq = g.T.PartialEq.eq in
    let peq = g.P.PartialEq.eq in
    let answers = g.T.EntryLike.answers in
    let draft = c.args.self in
    let job = job_in draft in
    let wanted = job.wanted.style.bibliography in
    let source = wanted_source job.wanted in
    let each = λ (way : g.W.CiteWriter.Way) (ok : g.W.CiteWriter.agrees c.told_citations.new.writer way).
    let written_ok = c.in_ok-citations.ensures.agreed way ok in
    let told_ok = c.in_ok-bibliography.ensures.agreed way written_ok in
    let start = desk (g.W.CiteWriter.state c.args.writer.now way) c.new-counter.result in
    let told = desk (g.W.CiteWriter.state c.told_in_order.new.writer way) c.told_in_order.new.counter in
    let written = desk (g.W.CiteWriter.state c.told_bibliography.new.writer way) c.told_bibliography.new.counter in
    let end = desk (g.W.CiteWriter.state c.told_citations.new.writer way) c.told_citations.new.counter in
    let writing = writing_of answers (g.W.CiteWriter.state c.args.writer.now way) in
    let apart = c.in_ok-told.ensures.told way told_ok in
    let by_states = c.in_ok-told.told.states.items in
    let by_suffixes = c.in_ok-told.told.suffixes.items in
    let account = c.in_ok-account.ensures in
    let cites = renders_view c.arrange.new.cites in
    let before = ap renders_view c.deref_mut-cites.ensures.value ∙ c.in_ok-told.ensures.cites way told_ok in
    let finals = ap (λ rs. all_located (all_arranged_view rs)) c.deref.ensures.value ∙ c.in_ok-told.ensures.ordered way told_ok in
    let numbers = c.in_ok-numbers.ensures.numbers ∙ ap (numbers_by eq job) before in
    let arranged = arranged-told eq peq writing job before finals numbers c.in_ok-numbers.ensures.cites in
    let order_asked = order_tasks eq job writing peq in
    let items_asked = told_item_tasks eq job writing peq in
    let last_asked = last_tasks (cites_arranged eq job writing peq) in
    let told_is = c.in_ok-told.ensures.asked way told_ok in
    let written_is = c.in_ok-bibliography.ensures.asked way written_ok ∙ ap (λ fs. after (where_wanted wanted (tasks_by_means source fs)) told) (same-firsts eq peq writing job apart arranged) in
    let end_is = c.in_ok-citations.ensures.asked way ok ∙ ap (λ cs. after (last_tasks cs) written) arranged in
    let all = three-steps answers order_asked items_asked last_asked start told written end told_is written_is end_is in
    let same_told = writes-same answers order_asked start told told_is in
    let same_written = same-behind answers order_asked items_asked last_asked start told written end told_is written_is end_is in
    let firsts = listed_cites eq (item_means by_states by_suffixes) cites (listed eq job) in
    let count = csl-count eq g.met.T.Eq.laws peq writing job (table_in draft) draft.known.table
    (subst (AreCitesOf eq (table_in draft) job.requests) arranged c.in_ok-numbers.ensures.belong)
    (arranged-size eq job writing peq) in
    let rendered : Rendered = record { citations = c.new.result; bibliography = c.in_ok-bibliography.bibliography } in
    let exact : IsExactlyCsl eq peq writing job (rendered, c.in_ok-account.account) =
    record {
      ok = whole-csl eq peq writing job apart arranged
          (c.new.ensures ∙ c.in_ok-citations.ensures.citations way ok ∙ ap (λ w. told_citations w cites) same_written)
          (c.in_ok-bibliography.ensures.bibliography way written_ok ∙ ap (λ w. option_map (λ b. bibliography_by_means w source b firsts) wanted) same_told);
      renders = account.renders ∙ ap (λ d. d.renders) all ∙ (λ i. counted_times (count i) (c.new-counter.ensures i)) ∙ counted_times-all _;
      rounds = account.rounds ∙ (λ i. rounds_of (apart.states i) (apart.suffixes i));
      entries = account.entries;
      first_mentions = account.first ∙ ap (every_second true) apart.states;
      later_mentions = account.later ∙ ap (every_second false) apart.states;
      suffixes = ap (λ v. v.items) account.suffixes ∙ apart.suffixes;
      numbers = ap (λ v. v.items) account.numbers ∙ numbers;
    } in
    let both : IsExactlyCsl eq peq writing job (rendered, c.in_ok-account.account) × (end.writer ≡ asked_for (csl_tasks eq job writing peq) start.writer) = (exact, ap (λ d. d.writer) all) in
    both in
    record {
      answer = λ way ok. (each way ok).0;
      asked = λ way ok. (each way ok).1;
      agreed = λ way ok. c.in_ok-told.ensures.agreed way (c.in_ok-bibliography.ensures.agreed way (c.in_ok-citations.ensures.agreed way ok));
    }
