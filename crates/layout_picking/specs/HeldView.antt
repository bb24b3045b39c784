-- For the code: the plain data that a picking stands for.
use Rattle.layout_picking.specs.declared.held.Picking.{Picking}
use Rattle.layout_picking.specs.PiecesView.{tokens_of}
use Rattle.layout_picking.specs.Picked.{Held}

abbrev pub held : Picking → Held
held p = record { tokens = tokens_of p.pieces.items; called = p.called; noted = p.notes }
