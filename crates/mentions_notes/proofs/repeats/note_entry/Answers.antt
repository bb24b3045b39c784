use Rattle.std.proofs.Common.{Some, cond, ◌∙◌}
use Rattle.std.specs.Prelude.{nat_eq}
use Rattle.std.specs.HashMap.{get}
use Rattle.mentions_notes.proofs.Noting.{entry-noted}
use Rattle.mentions_notes.proofs.repeats.note_entry.Goals as goal

pub returns : goal.returns
returns c =
    entry-noted c.args.noted.now c.insert.new.self c.args.number c.args.entry
    (λ q. c.in_ok-insert.ensures.updates.0 q ∙ (λ t. cond (nat_eq c.args.number q) (Some (c.noted_with-entries.ensures t)) (get nat_eq c.args.noted.now q)))
