use Rattle.std.proofs.Common.{◌∙◌}
use Rattle.rounds_grouping.proofs.NamesSeen.{names_ordered}
use Rattle.rounds_grouping.proofs.tokens.NamesOrd.cmp.Goals as goal

pub returns : goal.returns
returns c =
    c.cmp.ensures ∙ names_ordered c.self.inside.tokens c.other.inside.tokens c.self.inside.elem.now c.other.inside.elem.now c.args.self.now c.args.other.now
    c.self.invariant c.other.invariant c.self.view_is c.other.view_is
