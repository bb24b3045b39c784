-- What a caller derives from the laws of an answer, without reading how it is made.
use Rattle.std.specs.Prelude.{◌≡◌, ◌≢◌, ℕ, ◌+◌, ◌<◌, Bool, List, Option, Some, length, map, slice_get, slice_index, slice_index_or, slice_range}
use Rattle.driver_assembly.specs.declared.rendered.Rendered.{Rendered}
use Rattle.driver_writers.specs.Writing.{Writing}
use Rattle.value_styles.specs.declared.style.Collapse.{Collapse}
use Rattle.rounds_grouping.specs.NumberLaws.{AreNextShown, CanBeReadBack, WasHid, numbers_of}
use Rattle.csl_driver.specs.Answer.{Job, rendered_first}
use Rattle.csl_driver.specs.AnswerLaws.{KeepsLaws}
use Rattle.csl_driver.specs.declared.account.Account.{Account}
use Rattle.driver_passes.specs.Renders.{CiteRender, ItemRender}
use Rattle.rounds_runs.specs.Rounds.{StateTable, no_states}
use Rattle.rounds_runs.specs.RunLaws.{GetsSuffixInGroup}
use Rattle.rounds_runs.specs.declared.mode.RoundMode.{RoundMode}

-- an entry and a number that stand at one place of an account
pub record StandAtOnePlace {E : Type 0} (account : Account E) (e : E) (number : ℕ) : Type 0 where
  pub place : ℕ
  pub entry : slice_get (map (λ e. e.now) account.entries.items) place ≡ Some e
  pub numbered : slice_get account.numbers.items place ≡ Some number

-- wherever collapsing hid the cites between two shown ones with these two numbers, it hid the
-- numbers of the list
abbrev pub AreHiddenBetween : (E P : Type 0) → ℕ → ℕ → List ℕ → Type 0
AreHiddenBetween E P first last numbers =
    (cites drawn : List (ItemRender E P)) (collapse : Option Collapse) (p q k : ℕ)
    → CanBeReadBack cites drawn collapse → AreNextShown cites drawn p q → p < k → k < q
    → WasHid cites drawn k
    → slice_index (numbers_of drawn) p ≡ first → slice_index (numbers_of drawn) q ≡ last
    → slice_range (numbers_of drawn) (p + 1) q ≡ numbers

module _ {E P : Type 0} (eq : E → E → Bool) (payload_eq : P → P → Bool) (writing : Writing E P)
    (mode : RoundMode) (job : Job E P) (r : Rendered × Account E)
    (laws : KeepsLaws eq payload_eq writing mode job r) where
  -- the first renders of what was asked, and the table at which a round begins
  abbrev pub firsts : List (CiteRender E P)
  firsts = rendered_first eq payload_eq writing job

  abbrev pub table_of_round : ℕ → StateTable E
  table_of_round round = slice_index_or laws.tables round no_states

  -- the entry at a place of the account got its suffix in this round, in a group
  pub record GotSuffix (place : ℕ) : Type 0 where
    pub entry : E
    pub is_entry : slice_get (map (λ e. e.now) r.1.entries.items) place ≡ Some entry
    pub round : ℕ
    pub marked : round + 1 < length laws.tables
    pub in_group : GetsSuffixInGroup mode eq writing firsts (table_of_round round)
        (table_of_round (round + 1)) entry

  -- so did the entries at two places, and where they got them in one group of one round, these
  -- letters differ
  pub record GotLetters (first second : ℕ) (letters others : List ℕ) : Type 0 where
    pub one : GotSuffix first
    pub other : GotSuffix second
    pub differ : first ≢ second → one.round ≡ other.round
        → one.in_group.group ≡ other.in_group.group
        → letters ≢ others
