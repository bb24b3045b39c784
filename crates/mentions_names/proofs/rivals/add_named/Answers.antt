use Rattle.std.proofs.Common.{[], ◌∷◌, subst}
use Rattle.mentions_names.specs.Rivals.{TellsMore}
use Rattle.mentions_names.proofs.Beside.{then-more}
use Rattle.mentions_names.proofs.rivals.add_named.Goals as goal

pub returns : goal.returns
returns c =
    then-more c.args.rivals.now c.add.new.rivals c.add-2.new.rivals _ _
    (subst (λ n. TellsMore c.args.rivals.now c.add.new.rivals ((n, c.args.look.now) ∷ [])) c.in_ok-family.ensures c.in_ok-add.ensures)
    (subst (λ n. TellsMore c.add.new.rivals c.add-2.new.rivals ((n, c.args.look.now) ∷ [])) c.in_ok-both.ensures c.in_ok-add-2.ensures)
