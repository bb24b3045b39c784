use Rattle.std.proofs.Common.{refl}
use Rattle.rounds_ambiguity.proofs.Joined.{joined}
use Rattle.rounds_ambiguity.proofs.classes.Classes.join.Goals as goal

pub returns : goal.returns
returns c = record {
  at = λ q. refl;
  groups = joined (λ g. g.items) c.args.self.now.groups.items c.args.i c.index_mut.result.now c.push.new.self c.args.place
      c.requires.within c.index_mut.ensures.value c.in_ok-push.ensures.items;
}
