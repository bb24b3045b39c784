use Rattle.std.proofs.Common.{refl}
use Rattle.rounds_ambiguity.specs.declared.classes.Class.TheVariants.{Single}
use Rattle.rounds_ambiguity.proofs.Setting.{set-text}
use Rattle.rounds_ambiguity.proofs.classes.Classes.start.Goals as goal

pub returns : goal.returns
returns c = record {
  at = set-text c.args.text.now c.in_ok-clone.field-0 (Single c.args.place) c.args.self.now.by_text c.insert.new.self c.in_ok-clone.ensures.cases
      c.in_ok-insert.ensures.updates.0;
  groups = refl;
}
