use Rattle.std.proofs.Common.{Some, cond, sym, ◌∙◌}
use Rattle.mentions_names.specs.Rivals.{held_for}
use Rattle.mentions_names.specs.contracts.rivals.SharedNameOrd.TheImpl.Laws.{matches_eq-law}
use Rattle.mentions_names.proofs.Beside.{one-more}
use Rattle.mentions_names.proofs.rivals.add.Goals as goal

pub returns : goal.returns
returns c =
    one-more c.args.rivals.now c.insert.new.self c.args.name c.args.look.now
    (λ q. c.in_ok-insert.ensures.updates.0 q
    ∙ (λ t. cond (sym (matches_eq-law c.args.name q) t) (Some (c.in_ok-held.ensures t)) (held_for c.args.rivals.now q)))
