use Rattle.std.proofs.Common.{IfOk, ◌≡◌, subst}
use Rattle.rounds_names.proofs.Namesakes.{raised-by-name}
use Rattle.rounds_names.proofs.raising.raised_in_group.Goals as goal

pub returns-in-Short : goal.returns-in-Short
returns-in-Short c =
    subst (λ f. IfOk c.fuller.result (λ r. r ≡ f))
    (raised-by-name c.args.person.now c.args.member.now c.args.group.now c.args.by_name.now c.args.form c.in-Short.is c.requires) c.fuller.ensures
