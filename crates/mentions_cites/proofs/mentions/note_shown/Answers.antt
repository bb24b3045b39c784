use Rattle.std.proofs.Common.{Some, cond, sym, ◌∙◌}
use Rattle.mentions_groups.specs.contracts.shown.ShownNamesOrd.TheImpl.Laws.{matches_eq-law}
use Rattle.mentions_cites.specs.NotedNames.{first_noted}
use Rattle.mentions_cites.proofs.Naming.{noted-before, noted-more}
use Rattle.mentions_cites.proofs.mentions.note_shown.Goals as goal

pub returns-then-contains_key : goal.returns-then-contains_key
returns-then-contains_key c = noted-before c.args.noted.now c.args.names.now c.args.index (sym c.contains_key.ensures ∙ c.if-contains_key.true)

pub returns : goal.returns
returns c =
    noted-more c.args.noted.now c.insert.new.self c.args.names.now c.args.index (sym c.contains_key.ensures ∙ c.if-contains_key.false)
    (λ n. c.in_ok-insert.ensures.updates.0 n
    ∙ (λ t. cond (sym (matches_eq-law (c.in_ok-copied.ensures t) n) t) (Some c.args.index) (first_noted c.args.noted.now n)))
