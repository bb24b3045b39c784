-- Accounts and bibliographies that lack entries, or have others.
use Rattle.std.proofs.Common.{◌≡◌, ℕ, ◌+◌, Bool, List, [], ◌∷◌, length, map, ap, sym, ◌∙◌, arith}
use Rattle.std.specs.Prelude.{nat_eq, slice_get, slice_index, unwrap_or}
use Rattle.std.specs.Cmp.{unsigned_Decides}
use Rattle.driver_assembly.specs.declared.rendered.Rendered.{Rendered}
use Rattle.csl_driver.specs.Answer.{Job}
use Rattle.csl_driver.specs.AnswerLaws.{KeepsLaws}
use Rattle.csl_driver.specs.ListedOnce.{EqualHaveEqualKeys}
use Rattle.csl_driver.specs.declared.account.Account.{Account}
use Rattle.driver_entries.specs.Entries.{distinct}
use Rattle.driver_passes.specs.Request.{cited}
use Rattle.rounds_runs.specs.declared.mode.RoundMode.{RoundMode}
use Rattle.driver_writers.specs.Writing.{Writing}
use Rattle.std.specs.declared.num.NonZeroI16.{NonZeroI16}
use Rattle.test_wrong_answers.proofs.Differ.{above, below}
use Rattle.test_wrong_answers.specs.Letters.{letters}
use Rattle.test_wrong_answers.specs.Listed.{listing, two_listed}
use Rattle.test_wrong_answers.specs.Silent.{same_sample}
use Rattle.test_wrong_answers.specs.declared.sample.Sample.{Sample}

-- where there is a cite there is an entry
none-cited : {E : Type 0} (eq : E → E → Bool) (xs : List E) → [] ≡ distinct eq xs → xs ≡ []
none-cited eq [] e = sym e
none-cited eq (x ∷ xs) e = cc

pub no-entries : {E P : Type 0} (eq : E → E → Bool) (payload_eq : P → P → Bool) (writing : Writing E P) (mode : RoundMode) (job : Job E P) (answer : Rendered) (account : Account E)
    → account.entries.items ≡ [] → KeepsLaws eq payload_eq writing mode job (answer, account) → cited job.requests ≡ []
no-entries eq payload_eq writing mode job answer account none h =
    none-cited eq (cited job.requests) (sym (ap (map (λ e. e.now)) none) ∙ h.cited_entries)

-- equal samples have equal keys
same-keys : EqualHaveEqualKeys same_sample letters
same-keys d e h = ap (λ n. (65 + n) ∷ []) ((unsigned_Decides d.number e.number).0 h)

module _ (spacing : NonZeroI16) (account : Account Sample) where
  abbrev Keeps : List ℕ → Type 0
  Keeps entries = KeepsLaws same_sample nat_eq letters RoundMode.Three (two_listed spacing) (listing spacing entries, account)

  -- one entry is left out
  pub dropped : ¬ Keeps (0 ∷ [])
  dropped h = below 1 2 (omega arith) (h.bibliography.as_many ∙ ap length h.cited_entries)

  -- one is listed twice
  pub doubled : ¬ Keeps (0 ∷ 1 ∷ 1 ∷ [])
  doubled h = above 3 2 (omega arith) (h.bibliography.as_many ∙ ap length h.cited_entries)

  -- one that isn't cited is listed in place of one that is
  pub replaced : ¬ Keeps (0 ∷ 2 ∷ [])
  replaced h = above 67 66 (omega arith) (ap (λ keys. slice_index (unwrap_or (slice_get keys 1) []) 0) (h.bibliography.keys_in_order same-keys))
