use Rattle.std.proofs.Common.{None, ap, cond, sym, ◌∙◌}
use Rattle.std.specs.BTreeMap.{get}
use Rattle.rounds_names.specs.ByName.{name_cmp}
use Rattle.rounds_names.specs.contracts.by_name.SharedNameOrd.TheImpl.Laws.{matches_eq-law}
use Rattle.rounds_names.proofs.Holders.{taken-out}
use Rattle.rounds_names.proofs.by_name.take_holders.Goals as goal

pub returns-in-Some-clause-rest : goal.returns-in-Some-clause-rest
returns-in-Some-clause-rest c =
    taken-out c.remove.new.self c.args.by_name.now c.args.name.now
    (λ q. c.remove.ensures.updates.0 q ∙ ap (λ b. cond b None (get name_cmp c.args.by_name.now q)) (sym (matches_eq-law c.args.name.now q)))
