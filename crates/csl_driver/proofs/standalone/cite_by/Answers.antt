use Rattle.std.proofs.Common.{None, ap, ◌∙◌}
use Rattle.std.proofs.lemmas.Result.{IfOk-weaker}
use Rattle.driver_assembly.specs.LastTree.{tree_by_purpose}
use Rattle.driver_lookup.specs.PropertiesView.{properties_view}
use Rattle.csl_writing.specs.LayoutWriting.{layout_writing}
use Rattle.csl_driver.proofs.standalone.cite_by.Goals as goal

pub returns : goal.returns
returns g c =
    let writing = layout_writing {P = g.row.P.Denot} g.T.EntryLike.answers in
    IfOk-weaker c.tree_by_purpose.result _ _
    (λ tree by. by tt tt
    ∙ ap (λ s. tree_by_purpose writing (record {
      source = s;
      entry = c.args.item.now.entry.now;
      properties = properties_view c.args.properties.now;
      purpose = c.args.item.now.purpose;
      verdict = None;
      place = None;
    })) c.source.ensures.source)
    c.tree_by_purpose.ensures.tree
