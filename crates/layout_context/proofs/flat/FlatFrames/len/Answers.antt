-- A number for each frame but the top.
use Rattle.std.proofs.Common.{arith, ap, length}
use Rattle.layout_context.proofs.CutSteps.{length-cut}
use Rattle.layout_context.proofs.flat.FlatFrames.len.Goals as goal

pub returns-clause-len : goal.returns-clause-len
returns-clause-len c = omega (arith, ap length c.self.view_is, length-cut c.self.inside.counts.items c.self.inside.children, c.len.ensures, c.self.inside.counts.ok.0)
