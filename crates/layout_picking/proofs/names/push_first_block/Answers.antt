use Rattle.std.proofs.Common.{◌∙◌, ap, sym, length, unwrap_or}
use Rattle.layout_picking.specs.NameRulesView.{rules_view}
use Rattle.layout_picking.proofs.FormsLength.{length_of_first_forms, length_of_forms}
use Rattle.layout_picking.proofs.names.push_first_block.Goals as goal

pub push_block-requires : goal.push_block-requires
push_block-requires g c =
    let cite = c.args.input.now.setting.cite in
    let persons = c.resolve_name_variable-persons.result.now in
    ap length c.chosen_forms.ensures
    ∙ ap (λ fs. length (unwrap_or c.in_ok-own.own fs)) (sym c.as_slice.ensures)
    ∙ ap length c.in_ok-own.ensures
    ∙ length_of_first_forms cite.means.now.names cite.state.now c.args.picking.now.notes c.as_slice.result.now
    ∙ ap length c.as_slice.ensures
    ∙ ap length c.in_ok-forms.ensures
    ∙ length_of_forms (rules_view c.args.rules.now) (length persons)
