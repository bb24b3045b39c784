use Rattle.std.proofs.Common.{ap, sym, ◌∙◌}
use Rattle.std.specs.List.{list_all}
use Rattle.layout_picking.specs.Names.{is_variable}
use Rattle.layout_picking.specs.NamesView.{variables_view}
use Rattle.layout_picking.proofs.AllKept.{all_kept}
use Rattle.layout_picking.proofs.name_blocks.NameVariables.only.Goals as goal

pub returns-then-are_variable : goal.returns-then-are_variable
returns-then-are_variable c =
    let p = is_variable c.args.only in
    all_kept p (variables_view c.args.self) (ap (list_all p) (sym c.as_slice.ensures) ∙ sym c.are_variable.ensures ∙ c.if-are_variable.true)
