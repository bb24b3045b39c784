use Rattle.std.proofs.Common.{ap, map, ◌∙◌}
use Rattle.mentions_cited.specs.Cited.{first_task}
use Rattle.mentions_cites.specs.Mentions.{kept_last}
use Rattle.mentions_cites.proofs.Repeating.{shown-there, tasks-there}
use Rattle.driver_writers.specs.Desk.{after, desk}
use Rattle.driver_writers.specs.Tasks.{cite_task}
use Rattle.mentions_cites.proofs.repeats.shown_repeat.Goals as goal

pub returns-clause-shown : goal.returns-clause-shown
returns-clause-shown g c = λ way ok.
    let told = c.args.known.told.now in
    shown-there first_task c.args.known.mentions.now c.args.subjects.now told.states.items c.in-Some.repeated c.in-Some-by_mention.subject.now c.in-Some-by_mention.ensures
    (kept_last told.firsts.items told.again.items) (g.W.CiteWriter.state c.args.writer.now way).cite c.args.place c.args.repeated c.in_ok-kept.kept c.shown_by.result c.in-Some.is
    (c.in_ok-kept.ensures.kept way ok) c.shown_by.ensures

pub returns-clause-asked : goal.returns-clause-asked
returns-clause-asked g c = λ way ok.
    let told = c.args.known.told.now in
    c.in_ok-kept.ensures.asked way ok
    ∙ ap (λ l. after (map cite_task l) (desk (g.W.CiteWriter.state c.args.writer.now way) c.args.counter.now))
    (tasks-there first_task c.args.known.mentions.now c.args.subjects.now told.states.items c.in-Some.repeated c.in-Some-by_mention.subject.now c.in-Some-by_mention.ensures c.args.repeated c.in-Some.is)
