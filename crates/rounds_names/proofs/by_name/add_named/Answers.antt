use Rattle.std.proofs.Common.{Some, ap, cond, subst, sym, ◌∙◌}
use Rattle.std.specs.BTreeMap.{get}
use Rattle.rounds_names.specs.ByName.{Grows, name_cmp}
use Rattle.rounds_names.specs.contracts.by_name.SharedNameOrd.TheImpl.Laws.{matches_eq-law}
use Rattle.rounds_names.proofs.Holders.{by-name-more, put-back}
use Rattle.rounds_names.proofs.by_name.add_named.Goals as goal

pub returns : goal.returns
returns c =
    by-name-more c.args.person.now c.args.place c.args.name c.args.by_name.now c.insert.new.self c.add_holder.new.holders.items
    (subst (λ l. Grows c.args.person.now c.args.place l c.add_holder.new.holders.items) c.take_holders-holders.ensures.taken c.in_ok-add_holder.ensures)
    (put-back c.insert.new.self c.take_holders-holders.new.by_name c.args.by_name.now c.args.name c.add_holder.new.holders
    (λ q. c.in_ok-insert.ensures.updates.0 q
    ∙ ap (λ b. cond b (Some c.add_holder.new.holders) (get name_cmp c.take_holders-holders.new.by_name q)) (sym (matches_eq-law c.args.name q)))
    c.take_holders-holders.ensures.rest)
