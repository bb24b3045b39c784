use Rattle.std.proofs.Math.Logic.{∥∥₁_map}
use Rattle.host_memo.specs.Written.{key_eq}
use Rattle.host_memo.proofs.Growing.{noted_now, put_found, put_grows}
use Rattle.host_memo.proofs.Kept.{all-after}
use Rattle.host_memo.proofs.memo.Memo.keep.Goals as goal

pub invariant_of-self : goal.invariant_of-self
invariant_of-self g c =
    let may = g.S.Source.may_write c.args.self.now.source in
    record {
      allowed = ∥∥₁_map c.args.self.now.allowed
          (all-after key_eq (λ e. may e.0 e.1) c.args.key c.args.cite c.args.self.now.written.entries c.add.new.self.entries
          c.add.result c.add.ensures.added c.add.ensures.stays c.requires.allowed);
    }

pub returns-clause-kept : goal.returns-clause-kept
returns-clause-kept g c =
    put_found c.args.self.now.written c.args.key c.add.new.self c.args.cite c.in_ok-add.ensures.added c.key_equality_decides.ensures.key c.requires.lacked

pub returns-clause-grown : goal.returns-clause-grown
returns-clause-grown g c = put_grows c.args.self.now.written c.args.key c.add.new.self c.args.cite c.in_ok-add.ensures.added

pub returns-clause-noted : goal.returns-clause-noted
returns-clause-noted g c = noted_now c.args.self.now.written c.args.key c.add.new.self c.args.cite c.in_ok-add.ensures.added
