use Rattle.std.proofs.Common.{sym, ◌∙◌}
use Rattle.ordered_set.proofs.Adding.{with-new, with-old}
use Rattle.ordered_set.proofs.Positions.{position-none}
use Rattle.ordered_set.proofs.set.OrderedSet.insert.Goals as goal

pub returns-in-Some-clause-keys : goal.returns-in-Some-clause-keys
returns-in-Some-clause-keys g c =
    with-old g.K.PartialEq.eq c.args.self.now.keys c.args.key c.in-Some.index (sym c.index_of.ensures ∙ c.in-Some.is)

pub returns-in_ok-add-in-None-clause-keys : goal.returns-in_ok-add-in-None-clause-keys
returns-in_ok-add-in-None-clause-keys g c =
    c.in_ok-add-in-None.ensures.keys ∙ with-new g.K.PartialEq.eq c.args.self.now.keys c.args.key (sym c.index_of.ensures ∙ c.in-None.is)

pub returns-in_ok-add-in-None-clause-index : goal.returns-in_ok-add-in-None-clause-index
returns-in_ok-add-in-None-clause-index g c =
    c.in_ok-add-in-None.ensures.index ∙ position-none (g.K.PartialEq.eq c.args.key) c.args.self.now.keys (sym c.index_of.ensures ∙ c.in-None.is)
