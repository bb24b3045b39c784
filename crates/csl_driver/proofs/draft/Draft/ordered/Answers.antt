use Rattle.std.proofs.Common.{◌≡◌, ap, map, refl, rules, ◌∙◌}
use Rattle.std.specs.Borrow.{Bor}
use Rattle.std.specs.Prelude.{Some}
use Rattle.mentions_arranging.specs.Order.{final_request}
use Rattle.mentions_arranging.specs.Repeating.{cites_repeated, firsts_repeated}
use Rattle.mentions_arranging.specs.Requests.{requests_view as all_arranged_view}
use Rattle.driver_lookup.specs.PropertiesView.{locator_view}
use Rattle.driver_lookup.specs.contracts.locator.SpecificLocatorPartialEq.TheImpl as locator_eq
use Rattle.driver_lookup.specs.declared.locator.SpecificLocator.{SpecificLocator}
use Rattle.driver_passes.specs.Positions.{same_locators}
use Rattle.mentions_tables.specs.Steps.{all_changed}
use Rattle.mentions_cites.specs.Repeats.{cites_with_shown, with_first_key}
use Rattle.driver_writers.specs.Desk.{after, desk}
use Rattle.driver_writers.specs.Tasks.{cite_task}
use Rattle.driver_writers.specs.Writing.{writing_of}
use Rattle.driver_writers.proofs.TasksDone.{writes-same}
use Rattle.csl_driver.specs.CslAnswer.{ordered, plain_by}
use Rattle.csl_driver.specs.CslParts.{AreToldApart, all_located}
use Rattle.csl_driver.specs.CslTasks.{repeat_cite_tasks}
use Rattle.csl_driver.specs.DraftView.{job_in}
use Rattle.csl_driver.proofs.CslOrdered.{ordered-are, repeats-asked, same-all-shown, same-all-tasks, same-shown, same-tasks}
use Rattle.csl_driver.proofs.draft.Draft.ordered.Goals as goal

pub shown_repeats-requires : goal.shown_repeats-requires
shown_repeats-requires g c = c.requires.known.noted

pub all_shown_repeats-requires : goal.all_shown_repeats-requires
all_shown_repeats-requires g c = c.requires.known.noted

pub returns : goal.returns
returns g c =
    let eq = g.T.PartialEq.eq in
    let peq = g.P.PartialEq.eq in
    let answers = g.T.EntryLike.answers in
    let job = job_in c.args.self in
    let known = c.args.known in
    let test = (locator_eq.eq-value g.row.P g.P.PartialEq g.P.PartialEq-dict).it in
    let alike : (x y : SpecificLocator g.row.P.Denot) → test x y ≡ same_locators peq (Some (locator_view x)) (Some (locator_view y)) = search rules in
    let test_lent = λ (x y : Bor (SpecificLocator g.row.P.Denot)). test x.now y.now in
    let see = λ (l : Bor (SpecificLocator g.row.P.Denot)). locator_view l.now in
    let handed = all_arranged_view c.in_ok-plain.plain.items in
    let firsts = c.in_ok-firsts.firsts.items in
    let keys = c.in_ok-first_shown.first_shown.items in
    let keyed = all_arranged_view c.key_firsts.new.requests.items in
    let finals = all_arranged_view c.in_ok-ordered.ordered.items in
    let repeats = map (λ r. r.items) c.in_ok-repeats.repeats.items in
    let shown = map (λ s. s.items) c.in_ok-shown.shown.items in
    let done = all_arranged_view c.show_cites.new.requests.items in
    let firsts_made : firsts ≡ firsts_repeated test_lent handed = c.in_ok-firsts.ensures ∙ ap (λ ps. firsts_repeated test_lent (all_arranged_view ps)) c.deref-2.ensures.value in
    let keyed_made : keyed ≡ all_changed with_first_key keys handed = c.key_firsts.ensures ∙ ap (λ s. all_changed with_first_key s handed) c.deref-4.ensures.value in
    let finals_made : finals ≡ map final_request keyed = c.in_ok-ordered.ensures ∙ ap (λ ps. map final_request (all_arranged_view ps)) c.deref-5.ensures.value in
    let repeats_made : repeats ≡ cites_repeated test_lent finals = c.in_ok-repeats.ensures ∙ ap (λ fs. cites_repeated test_lent (all_arranged_view fs)) c.deref-6.ensures.value in
    let done_made : done ≡ all_changed cites_with_shown shown finals = c.show_cites.ensures ∙ ap (λ s. all_changed cites_with_shown (map (λ t. t.items) s) finals) c.deref-8.ensures.value in
    let mid_ok = λ (way : g.W.CiteWriter.Way) (ok : g.W.CiteWriter.agrees c.all_shown_repeats.new.writer way). c.in_ok-shown.ensures.agreed way ok in
    let each = λ (way : g.W.CiteWriter.Way) (ok : g.W.CiteWriter.agrees c.all_shown_repeats.new.writer way)
    (apart : AreToldApart eq job (writing_of answers (g.W.CiteWriter.state c.args.writer.now way)) known.told.now).
    let writing = writing_of answers (g.W.CiteWriter.state c.args.writer.now way) in
    let start = desk (g.W.CiteWriter.state c.args.writer.now way) c.args.counter.now in
    let placed = desk (g.W.CiteWriter.state c.shown_repeats.new.writer way) c.shown_repeats.new.counter in
    let end = desk (g.W.CiteWriter.state c.all_shown_repeats.new.writer way) c.all_shown_repeats.new.counter in
    let told_are = c.requires.known.mentions ∙ apart.mentions in
    let handed_are = c.in_ok-plain.ensures ∙ (λ i. plain_by eq job (told_are i) ((c.deref.ensures.value ∙ apart.suffixes) i)) in
    let keys_made = c.in_ok-first_shown.ensures.shown way (mid_ok way ok) ∙ same-shown eq job writing told_are c.requires.subjects apart.states apart.lasts refl c.deref-3.ensures.value in
    let first_asked = c.in_ok-first_shown.ensures.asked way (mid_ok way ok) in
    let same_cite = ap (λ w. w.cite) (writes-same answers _ start placed first_asked) in
    let shown_made =
    c.in_ok-shown.ensures.shown way ok
    ∙ same-all-shown eq job writing told_are c.requires.subjects apart.states apart.lasts same_cite (ap (map (λ r. r.items)) c.deref-7.ensures.value) in
    let placed_is = first_asked ∙ ap (λ ts. after (map cite_task ts) start) (same-tasks eq job writing told_are c.requires.subjects apart.states c.deref-3.ensures.value) in
    let end_is =
    c.in_ok-shown.ensures.asked way ok
    ∙ ap (λ ts. after (map cite_task ts) placed) (same-all-tasks eq job writing told_are c.requires.subjects apart.states (ap (map (λ r. r.items)) c.deref-7.ensures.value)) in
    let both : (all_located done ≡ ordered eq job writing peq) × (end ≡ after (repeat_cite_tasks eq job writing peq) start) = (
      ordered-are eq job writing peq see test_lent (λ x y. alike x.now y.now) handed handed_are firsts firsts_made keys keys_made keyed keyed_made finals finals_made repeats repeats_made shown done shown_made done_made,
      repeats-asked eq job writing peq see test_lent (λ x y. alike x.now y.now) handed handed_are firsts firsts_made keys keys_made keyed keyed_made finals finals_made repeats repeats_made start placed end placed_is end_is,
    ) in
    both in
    record {
      ordered = λ way ok apart. (each way ok apart).0;
      asked = λ way ok apart. (each way ok apart).1;
      agreed = λ way ok. c.in_ok-first_shown.ensures.agreed way (mid_ok way ok);
    }
