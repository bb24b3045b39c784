use Rattle.std.proofs.Common.{[], ◌∷◌, cond, subst, sym}
use Rattle.mentions_names.specs.Rivals.{TellsMore, at_node, named_keys}
use Rattle.mentions_names.proofs.Beside.{then-more}
use Rattle.mentions_names.proofs.rivals.add_at.Goals as goal

pub returns-then-not-by_cite : goal.returns-then-not-by_cite
returns-then-not-by_cite c =
    subst (λ b. TellsMore c.args.rivals.now c.add.new.rivals ((at_node c.args.node, c.args.look.now) ∷ cond b (named_keys c.args.node c.args.look.now) [])) (sym c.if-not-by_cite.true)
    (subst (λ n. TellsMore c.args.rivals.now c.add.new.rivals ((n, c.args.look.now) ∷ [])) c.at_node-any.ensures c.in_ok-add.ensures)

pub returns : goal.returns
returns c =
    subst (λ b. TellsMore c.args.rivals.now c.add_named.new.rivals ((at_node c.args.node, c.args.look.now) ∷ cond b (named_keys c.args.node c.args.look.now) [])) (sym c.if-not-by_cite.false)
    (then-more c.args.rivals.now c.add.new.rivals c.add_named.new.rivals _ _
    (subst (λ n. TellsMore c.args.rivals.now c.add.new.rivals ((n, c.args.look.now) ∷ [])) c.at_node-any.ensures c.in_ok-add.ensures) c.in_ok-add_named.ensures)
