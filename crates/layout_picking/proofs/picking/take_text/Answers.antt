use Rattle.std.proofs.lemmas.Result.{on_ok_weaker}
use Rattle.value_sources.specs.declared.taxonomy.Variable.{Variable}
use Rattle.layout_picking.specs.HeldView.{held}
use Rattle.layout_picking.specs.PiecesView.{shape_look}
use Rattle.layout_picking.specs.Variables.{meant}
use Rattle.layout_picking.specs.Walk.{env_in}
use Rattle.layout_picking.proofs.Noted.{variable-kept}
use Rattle.layout_picking.proofs.picking.take_text.Goals as goal

pub returns-in-Standard-clause-keeps : goal.returns-in-Standard-clause-keeps
returns-in-Standard-clause-keeps g c =
    let env = env_in g.T.EntryLike.answers c.args.input.now in
    let shape = c.args.shape in
    let variable = meant env.is_bibliography env.cite.usage (Variable.Standard c.in-Standard.variable) in
    on_ok_weaker c.pick_meant.result
    (variable-kept env variable (shape_look shape) shape.quotes shape.strip_periods (held c.args.picking.now) (held c.pick_meant.new.picking))
    c.pick_meant.ensures
