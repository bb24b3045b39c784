-- Each cited entry is listed once in the bibliography, under its key, and no other.
use Rattle.std.specs.Prelude.{◌≡◌, Bool, IfSome, List, Option, Some, is_some, length, map}
use Rattle.driver_assembly.specs.declared.rendered.RenderedBibliography.{RenderedBibliography}
use Rattle.csl_driver.specs.Answer.{Job}
use Rattle.csl_driver.specs.CslAnswer.{listed}
use Rattle.csl_driver.specs.ListedOnce.{EqualHaveEqualKeys, key_of, keys_of}
use Rattle.driver_entries.specs.Entries.{is_in}
use Rattle.driver_entries.specs.Laws.{NoTwoEqual}
use Rattle.driver_passes.specs.Renders.{CiteRender, ItemRender}
use Rattle.driver_positions.specs.FinalProperties.{first_item}
use Rattle.driver_writers.specs.Writing.{Writing}

-- the bibliography of an answer, by these cites, where the account has these entries
pub record ListsEntriesOnce {E P : Type 0} (eq : E → E → Bool) (writing : Writing E P)
    (job : Job E P) (entries : List E) (cites : List (CiteRender E P))
    (bibliography : Option RenderedBibliography) : Type 0 where
  -- there is one exactly where the style that was asked for has one
  pub where_asked_for : is_some bibliography ≡ is_some job.wanted.style.bibliography
  -- the first cites of the entries that it lists, in its order
  pub firsts : List (ItemRender E P)
  pub first_cites : map (first_item eq cites) (listed eq job) ≡ map Some firsts
  -- no entry is listed twice
  pub none_twice : NoTwoEqual eq (map (λ i. i.entry) firsts)
  -- those of the account are listed, and no other
  pub no_other : (e : E) → is_in eq e (map (λ i. i.entry) firsts) ≡ is_in eq e entries
  -- there are as many items as entries
  pub as_many : IfSome bibliography (λ b. length b.items ≡ length entries)
  -- each item has the key of the entry of its cite
  pub keys : IfSome bibliography (λ b. keys_of b ≡ map (λ i. key_of eq writing i.entry) firsts)
  -- so, where equal entries have equal keys, they have the keys of the account's entries
  pub keys_of_entries : EqualHaveEqualKeys eq writing
      → IfSome bibliography (λ b. keys_of b ≡ map (key_of eq writing) entries)
