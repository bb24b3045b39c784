-- The cites of a request by A, B, A, A and B, and what grouping makes of them.
use Rattle.std.specs.Prelude.{ℕ, List, [], ◌∷◌, None, Some, codes}
use Rattle.value_trees.specs.declared.elem.Elem.{Elem}
use Rattle.value_trees.specs.declared.elem.ElemMeta.{ElemMeta}
use Rattle.value_sources.specs.declared.taxonomy.NameVariable.{NameVariable}
use Rattle.driver_passes.specs.Renders.{ItemRender}
use Rattle.test_wrong_answers.specs.Samples.{by_authors, sample_cite, person, words}
use Rattle.test_wrong_answers.specs.declared.sample.Sample.{Sample}

-- the names element of a cite by this author
abbrev pub names_by : List ℕ → Elem
names_by author = record {
  children = words author ∷ [];
  display = None;
  meta = Some (ElemMeta.Names ((person author ∷ [], NameVariable.Author) ∷ []));
}

abbrev pub names_of_a : Elem
names_of_a = names_by (codes "A")

abbrev pub names_of_b : Elem
names_of_b = names_by (codes "B")

abbrev pub by_a : ℕ → ItemRender Sample ℕ
by_a n = sample_cite n n (by_authors (person (codes "A") ∷ []) (codes "A") ∷ [])

abbrev pub by_b : ℕ → ItemRender Sample ℕ
by_b n = sample_cite n n (by_authors (person (codes "B") ∷ []) (codes "B") ∷ [])

-- A B A A B
abbrev pub as_cited : List (ItemRender Sample ℕ)
as_cited = by_a 0 ∷ by_b 1 ∷ by_a 2 ∷ by_a 3 ∷ by_b 4 ∷ []

-- A A B A B: the third A was put where the block of A ended before the second one was moved
abbrev pub by_a_stale_index : List (ItemRender Sample ℕ)
by_a_stale_index = by_a 0 ∷ by_a 2 ∷ by_b 1 ∷ by_a 3 ∷ by_b 4 ∷ []

-- A A A B B: the first of a block has no override, the others have the group delimiter; and the
-- index of the block
abbrev pub in_blocks : List (ItemRender Sample ℕ)
in_blocks =
    record (by_a 0) { group = Some 0 }
    ∷ record (by_a 2) { delimiter_override = Some (codes ", "); group = Some 0 } ∷
    record (by_a 3) { delimiter_override = Some (codes ", "); group = Some 0 }
    ∷ record (by_b 1) { group = Some 1 } ∷
    record (by_b 4) { delimiter_override = Some (codes ", "); group = Some 1 } ∷ []
