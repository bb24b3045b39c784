use Rattle.std.proofs.lemmas.Result.{on_ok_weaker}
use Rattle.value_styles.specs.ElementView.{element_view}
use Rattle.layout_picking.specs.HeldView.{held}
use Rattle.layout_picking.specs.Walk.{env_in}
use Rattle.layout_picking.proofs.Noted.{plain-kept}
use Rattle.layout_picking.proofs.picking.take_element.Goals as goal

pub returns-in-Number-clause-keeps : goal.returns-in-Number-clause-keeps
returns-in-Number-clause-keeps g c =
    let env = env_in g.T.EntryLike.answers c.args.input.now in
    on_ok_weaker c.pick_plain.result (plain-kept env (element_view c.args.element.now) (held c.args.picking.now) (held c.pick_plain.new.picking)) c.pick_plain.ensures
