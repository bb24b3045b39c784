use Rattle.std.proofs.Common.{sym, ◌∙◌}
use Rattle.layout_picking.specs.Names.{is_present}
use Rattle.layout_picking.proofs.AllKept.{all_kept}
use Rattle.layout_picking.proofs.name_blocks.present.Goals as goal

pub returns-then-are_present : goal.returns-then-are_present
returns-then-are_present g c =
    all_kept (is_present (g.T.EntryLike.answers c.args.entry.now) c.args.notes.now) c.args.variables.now (sym c.are_present.ensures ∙ c.if-are_present.true)
