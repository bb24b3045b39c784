-- What is asked is answered as written down.
use Rattle.std.proofs.Common.{◌≡◌, ℕ, ◌<◌, ◌^◌, [], ◌∷◌, length, map, refl, sym, ◌∙◌, arith}
use Rattle.std.specs.Prelude.{nat_eq}
use Rattle.std.specs.List.{range_with_len}
use Rattle.driver_assembly.specs.declared.rendered.Rendered.{Rendered}
use Rattle.csl_driver.specs.Account.{cost, final_state, marking}
use Rattle.csl_driver.specs.Answer.{Job, final_number, rendered}
use Rattle.csl_driver.specs.Promised.{IsExactly}
use Rattle.csl_driver.specs.declared.account.Account.{Account}
use Rattle.driver_entries.specs.Entries.{distinct}
use Rattle.driver_lookup.specs.declared.state.DisambiguateState.{DisambiguateState}
use Rattle.rounds_names.specs.NameMarks.{name_marks}
use Rattle.rounds_names.specs.Steps.{step, steps}
use Rattle.driver_passes.specs.Request.{cited}
use Rattle.rounds_runs.specs.RoundMarks.{round_marks}
use Rattle.rounds_runs.specs.Tables.{disambiguated, tables_from}
use Rattle.rounds_runs.specs.declared.mode.RoundMode.{RoundMode}
use Rattle.test_wrong_answers.specs.Cites.{each_its_own, hidden_one, nothing_shown, one_by_one, two, with_a_purpose}
use Rattle.std.specs.declared.num.NonZeroI16.{NonZeroI16}
use Rattle.test_wrong_answers.specs.Letters.{IsPlainAccount, letters}
use Rattle.test_wrong_answers.specs.Listed.{listing, two_listed}
use Rattle.test_wrong_answers.specs.Silent.{same_sample}
use Rattle.test_wrong_answers.specs.declared.sample.Sample.{Sample}

abbrev three : RoundMode
three = RoundMode.Three

-- what is plainly answered, where nothing is ambiguous
pub record IsPlainAnswer (renders : ℕ) (job : Job Sample ℕ) (answer : Rendered) : Type 0 where
  pub ok : rendered same_sample nat_eq letters three job ≡ answer
  pub cost_is : cost same_sample nat_eq letters three job ≡ renders
  pub none_marks : marking same_sample nat_eq letters three job ≡ 0
  pub states : map (final_state same_sample nat_eq letters three job) (distinct same_sample (cited job.requests)) ≡ map (λ e. DisambiguateState.None) (distinct same_sample (cited job.requests))
  pub numbers : map (final_number same_sample nat_eq letters three job) (distinct same_sample (cited job.requests)) ≡ range_with_len 0 (length (distinct same_sample (cited job.requests)))

module _ (renders : ℕ) (job : Job Sample ℕ) (answer : Rendered) (account : Account Sample) where
  pub exactly : renders < 2 ^ 64 → IsPlainAnswer renders job answer → IsPlainAccount renders (distinct same_sample (cited job.requests)) account
      → IsExactly same_sample nat_eq letters three job (answer, account)
  exactly few is has = record {
    ok = sym is.ok;
    renders = omega (arith, few, is.cost_is, has.made);
    rounds = omega (arith, is.none_marks, has.no_round);
    entries = has.of;
    states = has.plain ∙ sym is.states;
    numbers = has.counted ∙ sym is.numbers;
  }

pub two-plain : IsPlainAnswer 4 two each_its_own
unfolding name_marks steps step round_marks tables_from disambiguated
two-plain = record { ok = refl; cost_is = refl; none_marks = refl; states = refl; numbers = refl }

pub hidden-plain : IsPlainAnswer 2 hidden_one nothing_shown
unfolding name_marks steps step round_marks tables_from disambiguated
hidden-plain = record { ok = refl; cost_is = refl; none_marks = refl; states = refl; numbers = refl }

pub purpose-plain : IsPlainAnswer 6 with_a_purpose one_by_one
unfolding name_marks steps step round_marks tables_from disambiguated
purpose-plain = record { ok = refl; cost_is = refl; none_marks = refl; states = refl; numbers = refl }

pub listed-plain : (spacing : NonZeroI16) → IsPlainAnswer 6 (two_listed spacing) (listing spacing (0 ∷ 1 ∷ []))
unfolding name_marks steps step round_marks tables_from disambiguated
listed-plain spacing = record { ok = refl; cost_is = refl; none_marks = refl; states = refl; numbers = refl }
