use Rattle.std.proofs.Common.{◌≡◌, subst}
use Rattle.std.specs.Prelude.{IfOk}
use Rattle.csl_writing.specs.CiteText.{cite, rendered_cite}
use Rattle.layout_picking.specs.InputView.{cite_facts}
use Rattle.driver_lookup.specs.PropertiesView.{properties_view}
use Rattle.driver_lookup.specs.SourceView.{source_view}
use Rattle.csl_writing.proofs.CiteSteps.{subject_known}
use Rattle.csl_writing.proofs.lookup.StyleContext.cite_of.Goals as goal

pub returns : goal.returns
unfolding cite
returns g c =
    subst (λ s. IfOk c.render_cite.result (λ t. t ≡ rendered_cite s c.args.purpose c.args.verdict))
    (subject_known (source_view c.args.self.now.locales) (g.T.EntryLike.answers c.args.entry.now) (properties_view c.args.props.now) (cite_facts c.cite_facts.result) c.in_ok-writes.writes c.cite_facts.ensures c.in_ok-writes.ensures)
    c.render_cite.ensures
