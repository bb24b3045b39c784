use Rattle.std.proofs.Common.{ap, map, ◌∙◌}
use Rattle.std.specs.Borrow.{Bor}
use Rattle.mentions_arranging.specs.Requests.{requests_view as all_arranged_view}
use Rattle.driver_lookup.specs.PropertiesView.{locator_view}
use Rattle.driver_lookup.specs.declared.locator.SpecificLocator.{SpecificLocator}
use Rattle.driver_passes.specs.RendersView.{renders_view}
use Rattle.mentions_cites.specs.Mentions.{first_with_names, kept_last}
use Rattle.driver_writers.specs.Writing.{writing_of}
use Rattle.csl_driver.specs.CslParts.{AreToldApart}
use Rattle.csl_driver.specs.DraftView.{job_in, table_in}
use Rattle.csl_driver.proofs.CslArranged.{before-lent, before-stand}
use Rattle.csl_driver.proofs.draft.Draft.cites_in_order.Goals as goal

pub ordered-requires : goal.ordered-requires
ordered-requires g c = record {
  notes = c.requires.notes;
  known = record {
    mentions = c.deref-3.ensures.value ∙ c.in_ok-mentions.ensures;
    noted = λ n. c.in_ok-noted.ensures n
        ∙ (λ i. first_with_names (kept_last (c.deref.ensures.value i) (c.deref-2.ensures.value i)) n);
  };
  subjects = c.requires.subjects;
}

pub returns : goal.returns
returns g c =
    let eq = g.T.PartialEq.eq in
    let peq = g.P.PartialEq.eq in
    let draft = c.args.self in
    let job = job_in draft in
    let told = c.args.told.now in
    let see = λ (l : Bor (SpecificLocator g.row.P.Denot)). locator_view l.now in
    let finals = all_arranged_view c.in_ok-ordered.ordered.items in
    let cites = renders_view c.in_ok-cites.cites.by_request.items in
    let before = λ (way : g.W.CiteWriter.Way) (ok : g.W.CiteWriter.agrees c.ordered.new.writer way)
    (apart : AreToldApart eq job (writing_of g.T.EntryLike.answers (g.W.CiteWriter.state c.args.writer.now way)) told).
    let writing = writing_of g.T.EntryLike.answers (g.W.CiteWriter.state c.args.writer.now way) in
    before-lent eq job see writing peq told apart finals (c.in_ok-ordered.ensures.ordered way ok apart) c.deref-4.result.now c.deref-5.result.now c.deref-6.result.now
    (map (λ n. n.items) c.args.notes.now) (all_arranged_view c.deref-7.result.now) cites c.deref-4.ensures.value (c.deref-5.ensures.value ∙ c.in_ok-mentions.ensures) c.deref-6.ensures.value
    c.requires.notes (ap all_arranged_view c.deref-7.ensures.value) c.in_ok-cites.ensures in
    record {
      ordered = λ way ok apart. c.in_ok-ordered.ensures.ordered way ok apart;
      cites = before;
      belong = λ way ok apart. before-stand eq job g.met.T.Eq.laws (table_in draft) draft.known.table (writing_of g.T.EntryLike.answers (g.W.CiteWriter.state c.args.writer.now way)) peq cites (before way ok apart);
      asked = λ way ok apart. c.in_ok-ordered.ensures.asked way ok apart;
      agreed = λ way ok. c.in_ok-ordered.ensures.agreed way ok;
    }
