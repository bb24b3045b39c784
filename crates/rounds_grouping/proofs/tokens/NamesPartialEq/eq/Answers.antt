use Rattle.std.proofs.Common.{◌∙◌}
use Rattle.rounds_grouping.proofs.NamesSeen.{names_eq}
use Rattle.rounds_grouping.proofs.tokens.NamesPartialEq.eq.Goals as goal

pub returns : goal.returns
returns c =
    c.eq.ensures ∙ names_eq c.self.inside.tokens c.other.inside.tokens c.self.inside.elem.now c.other.inside.elem.now c.args.self.now c.args.other.now
    c.self.invariant c.other.invariant c.self.view_is c.other.view_is
