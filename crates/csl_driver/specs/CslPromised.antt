-- What is promised of an answer in which works are told apart as CSL 1.0.2 has it, and of its
-- account.
use Rattle.std.specs.Prelude.{◌≡◌, ◌-◌, ◌^◌, Bool, map, min}
use Rattle.driver_assembly.specs.declared.rendered.Rendered.{Rendered}
use Rattle.driver_writers.specs.Writing.{Writing}
use Rattle.csl_driver.specs.Answer.{Job}
use Rattle.csl_driver.specs.CslAccount.{csl_cost, csl_rounds, entries_told, first_states, later_states}
use Rattle.csl_driver.specs.CslAnswer.{entry_suffixes, numbers_in_the_end, rendered_csl}
use Rattle.csl_driver.specs.CslLaws.{KeepsCslLaws}
use Rattle.csl_driver.specs.declared.csl_account.CslAccount.{CslAccount}

module _ {E P : Type 0} (eq : E → E → Bool) (payload_eq : P → P → Bool) (writing : Writing E P)
    (job : Job E P) (r : Rendered × CslAccount E) where
  -- the answer to what is asked, with its account
  pub record IsExactlyCsl : Type 0 where
    pub ok : r.0 ≡ rendered_csl eq job writing payload_eq
    -- the renderings; the count stands still at the greatest number of 128 bits
    pub renders : r.1.renders ≡ min (csl_cost eq job writing payload_eq) (2 ^ 128 - 1)
    -- how many of names, choices and suffixes told something apart
    pub rounds : r.1.rounds ≡ csl_rounds eq job writing
    -- the entries of the bibliography; and at the same places the states of their mentions, their
    -- suffixes and their numbers
    pub entries : map (λ e. e.now) r.1.entries.items ≡ entries_told eq job
    pub first_mentions : r.1.first_mentions.items ≡ first_states eq job writing
    pub later_mentions : r.1.later_mentions.items ≡ later_states eq job writing
    pub suffixes : r.1.suffixes.items ≡ entry_suffixes eq job writing
    pub numbers : r.1.numbers.items ≡ numbers_in_the_end eq job writing payload_eq

  -- it is that, and the laws hold of it
  pub record IsCslAnswer : Type 0 where
    pub exact : IsExactlyCsl
    pub laws : KeepsCslLaws eq job writing payload_eq r
