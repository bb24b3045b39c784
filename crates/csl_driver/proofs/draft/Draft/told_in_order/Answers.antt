use Rattle.std.proofs.Common.{◌≡◌, ap, arith, length, map, subst, sym, ◌∙◌}
use Rattle.mentions_arranging.specs.Requests.{requests_view as all_arranged_view}
use Rattle.driver_lookup.specs.PropertiesView.{properties_view}
use Rattle.driver_passes.specs.RendersView.{renders_view}
use Rattle.mentions_cited.specs.HomeView.{homes_view}
use Rattle.mentions_cited.specs.Mentions.{all_properties, mentions_at}
use Rattle.mentions_cited.specs.Plain.{plain}
use Rattle.driver_writers.specs.Desk.{after, desk}
use Rattle.driver_writers.specs.Writing.{writing_of}
use Rattle.driver_writers.proofs.TasksDone.{after-then, writes-same}
use Rattle.csl_driver.specs.CslAnswer.{cites_in_order, listed, ordered}
use Rattle.csl_driver.specs.CslParts.{AreToldApart, all_located}
use Rattle.csl_driver.specs.CslTasks.{mention_tasks, order_tasks, repeat_cite_tasks}
use Rattle.csl_driver.specs.DraftView.{job_in}
use Rattle.csl_driver.proofs.draft.Draft.told_in_order.Goals as goal

pub properties_of_mentions-requires : goal.properties_of_mentions-requires
properties_of_mentions-requires g c =
    let draft = c.args.self in
    let of_job = listed g.T.PartialEq.eq (job_in draft) in
    let notes = ap (map (λ n. n.items)) c.deref.ensures.value ∙ c.in_ok-notes.ensures.notes of_job draft.known.listed in
    let long = ap length c.deref-2.ensures.value ∙ c.in_ok-homes.ensures.each of_job draft.known.listed notes in
    omega (arith, long, draft.known.listed.count, draft.known.fits)

pub told_apart-requires : goal.told_apart-requires
told_apart-requires g c =
    let eq = g.T.PartialEq.eq in
    let draft = c.args.self in
    let job = job_in draft in
    let notes = ap (map (λ n. n.items)) c.deref.ensures.value ∙ c.in_ok-notes.ensures.notes (listed eq job) draft.known.listed in
    let homes = c.in_ok-homes.ensures.homes (listed eq job) draft.known.listed notes in
    let again = c.in_ok-again.ensures (listed eq job) draft.known.listed in
    let properties =
    ap (map properties_view) c.deref-4.ensures.value ∙ c.in_ok-properties.ensures.properties
    ∙ ap (λ hs. all_properties job.offset (homes_view hs)) (c.deref-2.ensures.value ∙ sym c.deref-3.ensures.value) in
    ap (map plain) c.deref-5.ensures.value ∙ c.in_ok-mentions.ensures job.offset properties
    ∙ (λ i. mentions_at job.offset (λ n. again n i) ((ap homes_view c.deref-3.ensures.value ∙ homes) i))

pub cites_in_order-requires : goal.cites_in_order-requires
cites_in_order-requires g c =
    let eq = g.T.PartialEq.eq in
    let draft = c.args.self in
    let job = job_in draft in
    let notes = ap (map (λ n. n.items)) c.deref.ensures.value ∙ c.in_ok-notes.ensures.notes (listed eq job) draft.known.listed in
    let homes = c.in_ok-homes.ensures.homes (listed eq job) draft.known.listed notes in
    let again = c.in_ok-again.ensures (listed eq job) draft.known.listed in
    let properties =
    ap (map properties_view) c.deref-4.ensures.value ∙ c.in_ok-properties.ensures.properties
    ∙ ap (λ hs. all_properties job.offset (homes_view hs)) (c.deref-2.ensures.value ∙ sym c.deref-3.ensures.value) in
    record {
      notes = ap (map (λ n. n.items)) c.deref-6.ensures.value ∙ c.in_ok-notes.ensures.notes (listed eq job) draft.known.listed;
      counts = ap (map (λ n. length n.items)) c.deref-6.ensures.value ∙ c.in_ok-notes.ensures.counts;
      subjects = ap (map plain) c.deref-7.ensures.value ∙ c.in_ok-mentions.ensures job.offset properties
          ∙ (λ i. mentions_at job.offset (λ n. again n i) ((ap homes_view c.deref-3.ensures.value ∙ homes) i));
    }

pub returns : goal.returns
returns g c =
    let eq = g.T.PartialEq.eq in
    let peq = g.P.PartialEq.eq in
    let answers = g.T.EntryLike.answers in
    let job = job_in c.args.self in
    let each = λ (way : g.W.CiteWriter.Way) (ok : g.W.CiteWriter.agrees c.cites_in_order.new.writer way).
    let told_ok = c.in_ok-ordered.ensures.agreed way ok in
    let start = desk (g.W.CiteWriter.state c.args.writer.now way) c.args.counter.now in
    let told = desk (g.W.CiteWriter.state c.told_apart.new.writer way) c.told_apart.new.counter in
    let end = desk (g.W.CiteWriter.state c.cites_in_order.new.writer way) c.cites_in_order.new.counter in
    let writing = writing_of answers (g.W.CiteWriter.state c.args.writer.now way) in
    let apart = c.in_ok-told.ensures.told way told_ok in
    let told_is = c.in_ok-told.ensures.asked way told_ok in
    let same = writes-same answers (mention_tasks eq job writing) start told told_is in
    let ordered_is = c.in_ok-ordered.ensures.ordered way ok (subst (λ w. AreToldApart eq job w c.in_ok-told.told) (sym same) apart) ∙ ap (λ w. ordered eq job w peq) same in
    let cites_are = c.in_ok-ordered.ensures.cites way ok (subst (λ w. AreToldApart eq job w c.in_ok-told.told) (sym same) apart) ∙ ap (λ w. cites_in_order eq job w peq) same in
    let end_is = c.in_ok-ordered.ensures.asked way ok (subst (λ w. AreToldApart eq job w c.in_ok-told.told) (sym same) apart) ∙ ap (λ w. after (repeat_cite_tasks eq job w peq) told) same in
    let all : (all_located (all_arranged_view c.in_ok-ordered.ordered.items) ≡ ordered eq job writing peq)
    × ((renders_view c.in_ok-ordered.cites.by_request.items ≡ cites_in_order eq job writing peq) × (end ≡ after (order_tasks eq job writing peq) start)) =
    (ordered_is, (cites_are, after-then (mention_tasks eq job writing) (repeat_cite_tasks eq job writing peq) start told end told_is end_is)) in
    all in
    let some = g.met.W.CiteWriter.some_way c.cites_in_order.new.writer in
    record {
      told = λ way ok. c.in_ok-told.ensures.told way (c.in_ok-ordered.ensures.agreed way ok);
      ordered = λ way ok. (each way ok).0;
      cites = λ way ok. (each way ok).1.0;
      belong =
          let told_ok = c.in_ok-ordered.ensures.agreed some.0 some.1 in
          let start = desk (g.W.CiteWriter.state c.args.writer.now some.0) c.args.counter.now in
          let told = desk (g.W.CiteWriter.state c.told_apart.new.writer some.0) c.told_apart.new.counter in
          let same = writes-same answers (mention_tasks eq job (writing_of answers (g.W.CiteWriter.state c.args.writer.now some.0))) start told (c.in_ok-told.ensures.asked some.0 told_ok) in
          c.in_ok-ordered.ensures.belong some.0 some.1 (subst (λ w. AreToldApart eq job w c.in_ok-told.told) (sym same) (c.in_ok-told.ensures.told some.0 told_ok));
      asked = λ way ok. (each way ok).1.1;
      agreed = λ way ok. c.in_ok-told.ensures.agreed way (c.in_ok-ordered.ensures.agreed way ok);
    }
