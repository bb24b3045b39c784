-- What a caller may rely on of an answer and its account in the modes three and full, besides what
-- `KeepsLaws` says.
use Rattle.std.specs.Prelude.{◌≡◌, ℕ, ◌+◌, ◌-◌, ◌*◌, ◌^◌, ◌≤◌, All, Bool, List, None, length, map, min, take}
use Rattle.std.specs.List.{AllZip}
use Rattle.driver_assembly.specs.declared.rendered.Rendered.{Rendered}
use Rattle.csl_driver.specs.Account.{where_listed}
use Rattle.csl_driver.specs.Answer.{Job, rendered_first}
use Rattle.csl_driver.specs.AnswerLaws.{KeepsLaws, entries_in}
use Rattle.csl_driver.specs.declared.account.Account.{Account}
use Rattle.driver_passes.specs.Renders.{CiteRender, ItemRender}
use Rattle.driver_passes.specs.Request.{cited, cites_of}
use Rattle.rounds_runs.specs.Rerenders.{rerenders}
use Rattle.rounds_runs.specs.Rounds.{StateTable}
use Rattle.rounds_runs.specs.RunLaws.{last_shown}
use Rattle.rounds_runs.specs.Tables.{marked_at}
use Rattle.rounds_runs.specs.declared.mode.RoundMode.{RoundMode}
use Rattle.driver_writers.specs.Writing.{Writing}
use Rattle.rounds_laws.specs.BlockLaws.{FormBlocks}
use Rattle.rounds_laws.specs.CollapseLaws.{DoCollapse}

-- a cite as it is rendered: it has no override and no index of a block, and nothing of it is cut
pub record IsAsRendered {E P : Type 0} (i : ItemRender E P) : Type 0 where
  pub no_override : i.delimiter_override ≡ None
  pub no_block : i.group ≡ None
  pub not_cut : i.verdict ≡ None

-- how many entries the bibliography lists, if there is one
abbrev pub listed_in : {E P : Type 0} → Job E P → Account E → ℕ
listed_in job account = where_listed job.wanted.style.bibliography (length (entries_in account))

module _ {E P : Type 0} (eq : E → E → Bool) (payload_eq : P → P → Bool)
    (writing : Writing E P) (mode : RoundMode) (job : Job E P) where
  -- what each round marked that began with one of the tables
  abbrev pub marks_of_rounds : List (StateTable E) → List (StateTable E)
  marks_of_rounds tables =
      map (marked_at mode eq writing (rendered_first eq payload_eq writing job))
      (take (length tables - 1) tables)

  -- the renderings that an account has, where states went on from table to table
  pub record CountsRenders (tables : List (StateTable E)) (account : Account E) : Type 0 where
    -- two for each cite, hidden or not; in each round one for each cite whose entry it marks; and
    -- one for each entry of the bibliography, where there is one. The count stands still at the
    -- greatest number of 128 bits
    pub renders : account.renders ≡ min (2 * length (cites_of job.requests)
        + rerenders (cited job.requests) (marks_of_rounds tables)
        + listed_in job account) (2 ^ 128 - 1)
    -- so no cite is rendered more often than twice and once a round
    pub at_most : account.renders
        ≤ (2 + account.rounds) * length (cites_of job.requests) + listed_in job account

  -- the cites as they stand at the last of the tables
  abbrev pub told_by_tables : List (StateTable E) → List (CiteRender E P)
  told_by_tables = last_shown mode eq writing (rendered_first eq payload_eq writing job)

  -- what holds of every answer and its account
  pub record KeepsFurtherLaws (r : Rendered × Account E) : Type 0 where
    -- the laws of the driver hold, and of the same tables and cites these
    pub laws : KeepsLaws eq payload_eq writing mode job r
    -- before they are grouped and collapsed they have no overrides, no blocks and no cuts
    pub as_rendered : All (λ c. All IsAsRendered c.items) (told_by_tables laws.tables)
    -- in their final order they stand in blocks, where their styles group cites
    pub blocks : AllZip FormBlocks (told_by_tables laws.tables)
        laws.citations.ordered
    -- what is to collapse does, and nothing else changes
    pub collapse : AllZip DoCollapse laws.citations.settled laws.citations.drawn
    pub renders : CountsRenders laws.tables r.1
