use Rattle.std.proofs.Common.{◌+◌, ◌*◌, ◌≤◌, sym, subst, arith}
use Rattle.test_wrong_answers.proofs.further.more_renders_than_there_were.Goals as goal

pub returns-clause-refuted : goal.returns-clause-refuted
returns-clause-refuted c = λ tables account none six h.
    let most : account.renders ≤ (2 + account.rounds) * 2 + 0 = h.at_most in
    let few : account.renders ≤ (2 + 0) * 2 + 0 = subst (λ n. account.renders ≤ (2 + n) * 2 + 0) none most in
    absurd (omega (arith, few, six))

pub returns-clause-right : goal.returns-clause-right
returns-clause-right c = λ account none four. record {
  renders = four;
  at_most = subst (λ n. account.renders ≤ (2 + n) * 2 + 0) (sym none) (omega (arith, four));
}
