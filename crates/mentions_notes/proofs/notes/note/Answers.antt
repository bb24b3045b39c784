use Rattle.mentions_notes.proofs.Knowing.{noted}
use Rattle.mentions_notes.proofs.notes.note.Goals as goal
use Rattle.std.proofs.Common.{Some, cond, ◌∙◌}
use Rattle.std.specs.Prelude.{nat_eq}
use Rattle.std.specs.HashMap.{get}

pub returns : goal.returns
returns c =
    noted c.args.known.now c.insert.new.self c.args.cite.now c.args.before
    (λ q. c.in_ok-insert.ensures.updates.0 q ∙ (λ t. cond (nat_eq c.args.cite.now.entry q) (Some (c.grown.ensures t)) (get nat_eq c.args.known.now q)))
    c.requires
