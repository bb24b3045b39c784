use Rattle.std.proofs.Common.{ap, sym, ◌∙◌}
use Rattle.std.specs.Option.{option_copied}
use Rattle.host_memo.proofs.Growing.{noted_before}
use Rattle.host_memo.proofs.memo.Memo.kept.Goals as goal

pub returns-in_ok-copied-in-Some-clause-noted : goal.returns-in_ok-copied-in-Some-clause-noted
returns-in_ok-copied-in-Some-clause-noted g c =
    noted_before c.args.self.now.written c.args.key.now c.in-Some.cite.now (sym c.get.ensures ∙ ap option_copied c.in-Some.is)
