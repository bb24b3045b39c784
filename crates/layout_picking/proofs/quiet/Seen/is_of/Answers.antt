use Rattle.std.proofs.Common.{sym, ◌∙◌}
use Rattle.layout_picking.proofs.QuietMacros.{seen_found}
use Rattle.layout_picking.proofs.quiet.Seen.is_of.Goals as goal

pub returns : goal.returns
returns c h = seen_found c.args.self c.of.result (sym c.eq.ensures ∙ h) ∙ c.of.ensures
