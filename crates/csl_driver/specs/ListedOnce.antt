-- What a caller may rely on of a bibliography: each cited entry is listed once, and no other.
use Rattle.std.specs.Prelude.{◌≡◌, ℕ, Bool, true, IfSome, List, Option, Some, is_some, length, map, option_map}
use Rattle.std.specs.List.Sorted.{IsPermutation}
use Rattle.driver_assembly.specs.BibliographyItems.{bibliography_of}
use Rattle.driver_assembly.specs.declared.rendered.RenderedBibliography.{RenderedBibliography}
use Rattle.value_sources.specs.Answers.{Answers}
use Rattle.csl_driver.specs.Answer.{Job, entries_listed}
use Rattle.driver_entries.specs.Entries.{is_in}
use Rattle.driver_entries.specs.Laws.{NoTwoEqual}
use Rattle.driver_passes.specs.Renders.{CiteRender, ItemRender}
use Rattle.driver_passes.specs.Request.{wanted_source}
use Rattle.driver_positions.specs.FinalProperties.{first_item}
use Rattle.driver_writers.specs.Writing.{Writing}

-- the keys of the items
abbrev pub keys_of : RenderedBibliography → List (List ℕ)
keys_of bibliography = map (λ item. item.key) bibliography.items

module _ {E P : Type 0} (eq : E → E → Bool) (writing : Writing E P) where
  -- the key of an entry
  abbrev pub key_of : E → List ℕ
  key_of e = (writing.answers e).key

  -- equal entries have equal keys
  abbrev pub EqualHaveEqualKeys : Type 0
  EqualHaveEqualKeys = (d e : E) → eq d e ≡ true → key_of d ≡ key_of e

  -- the bibliography of an answer, by these cites, where the account has these entries
  pub record ListsEachOnce (job : Job E P) (entries : List E) (cites : List (CiteRender E P))
      (bibliography : Option RenderedBibliography) : Type 0 where
    -- there is one exactly where the style that was asked for has one
    pub where_asked_for : is_some bibliography ≡ is_some job.wanted.style.bibliography
    -- the first cites of the entries that it lists, in its order
    pub firsts : List (ItemRender E P)
    pub first_cites : map (first_item eq cites) (entries_listed eq job.wanted job.requests)
        ≡ map Some firsts
    -- no entry is listed twice
    pub none_twice : NoTwoEqual eq (map (λ i. i.entry) firsts)
    -- those of the account are listed, and no other
    pub no_other : (e : E) → is_in eq e (map (λ i. i.entry) firsts) ≡ is_in eq e entries
    -- there are as many items as entries
    pub as_many : IfSome bibliography (λ b. length b.items ≡ length entries)
    -- each item has the key of the entry of its cite
    pub keys : IfSome bibliography (λ b. keys_of b ≡ map (λ i. key_of i.entry) firsts)
    -- so, where equal entries have equal keys, they have the keys of the entries in the
    -- bibliography's order
    pub keys_in_order : EqualHaveEqualKeys
        → IfSome bibliography (λ b. keys_of b
        ≡ map key_of (entries_listed eq job.wanted job.requests))
    -- which are those of the account's entries in another order
    pub keys_of_entries : EqualHaveEqualKeys
        → IfSome bibliography (λ b. IsPermutation (map key_of entries) (keys_of b))
    -- and the items are what is written by these cites
    pub made : bibliography
        ≡ option_map (λ b. bibliography_of writing (wanted_source job.wanted) b firsts)
        job.wanted.style.bibliography
