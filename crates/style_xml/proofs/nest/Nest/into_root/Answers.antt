use Rattle.style_xml.proofs.Greatest.{within-last}
use Rattle.style_xml.proofs.nest.Nest.into_root.Goals as goal

pub returns : goal.returns
returns c = within-last _ c.args.self.around.items c.args.self.innermost c.args.self.within
