-- Adjacent texts of equal formatting, joined.
use Rattle.std.specs.Prelude.{◌≡◌, Bool, false, cond, List, [], ◌∷◌, ◌++◌}
use Rattle.value_trees.specs.Child.{Child, text, elem, markup, link, transparent, Kids, no_kids, kid, kids_of}
use Rattle.value_sources.specs.declared.formatting.Formatting.{Formatting}
use Rattle.value_sources.specs.contracts.formatting.FormattingPartialEq.TheImpl as formatting_eq

-- equal formatting, by its derived test
abbrev pub same_formatting : Formatting → Formatting → Bool
same_formatting = (formatting_eq.ghosts).eq

-- two neighbours that are to be one: both are texts, of equal formatting
abbrev pub joins : Child → Child → Bool
joins (text f) (text g) = same_formatting f.formatting g.formatting
joins _ _ = false

-- the one text of two such neighbours
abbrev pub joined : Child → Child → Child
joined (text f) (text g) = text (record { text = f.text ++ g.text; formatting = f.formatting })
joined c _ = c

-- a child before others, joined to the first of them where it can be
abbrev pub join_first : Child → List Child → List Child
join_first c [] = c ∷ []
join_first c (d ∷ ds) = cond (joins c d) (joined c d ∷ ds) (c ∷ d ∷ ds)

-- adjacent texts joined inside a child, and among children and inside them
abbrev mutual
  pub child_simple : Child → Child
  child_simple (text f) = text f
  child_simple (elem ks d m) = elem (kids_of (kids_simple ks)) d m
  child_simple (markup s) = markup s
  child_simple (link f s) = link f s
  child_simple (transparent i f) = transparent i f

  pub kids_simple : Kids → List Child
  kids_simple no_kids = []
  kids_simple (kid c ks) = join_first (child_simple c) (kids_simple ks)

-- a tree with adjacent texts of equal formatting joined at every depth
abbrev pub simplified : List Child → List Child
simplified cs = kids_simple (kids_of cs)

-- a child and the first of those after it are to be one
abbrev pub joins_first : Child → Kids → Bool
joins_first c no_kids = false
joins_first c (kid d ks) = joins c d

-- no two neighbours are to be one, at any depth
abbrev mutual
  pub ChildApart : Child → Type 0
  ChildApart (text f) = Unit {0}
  ChildApart (elem ks d m) = Apart ks
  ChildApart (markup s) = Unit {0}
  ChildApart (link f s) = Unit {0}
  ChildApart (transparent i f) = Unit {0}

  pub Apart : Kids → Type 0
  Apart no_kids = Unit {0}
  Apart (kid c ks) = ChildApart c × (joins_first c ks ≡ false) × Apart ks

-- the same as `simplified` at one level alone
abbrev pub level_joined : List Child → List Child
level_joined [] = []
level_joined (c ∷ cs) = join_first c (level_joined cs)

-- a child after others, joined to the last of them where it can be
abbrev pub join_last : List Child → Child → List Child
join_last [] c = c ∷ []
join_last (d ∷ ds) c = elim ds [ [] ↦ join_first d (c ∷ []) | _ ∷ _ ↦ d ∷ join_last ds c ]
