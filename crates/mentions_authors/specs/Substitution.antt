-- The items of a bibliography with a text in place of authors that repeat.
use Rattle.std.specs.Prelude.{ℕ, Bool, ◌-◌, ◌==◌, List, [], ◌∷◌, Option, None, Some, String, bytes_eq, if◌then◌else◌, length, map, string_bytes}
use Rattle.std.specs.Global.{Global}
use Rattle.std.specs.List.{zip}
use Rattle.std.specs.Cmp.Lexicographic.{pointwise}
use Rattle.value_sources.specs.Formatting.{normal}
use Rattle.value_sources.specs.contracts.entry.PersonPartialEq.TheImpl as person_eq
use Rattle.value_sources.specs.declared.entry.Person.{Person}
use Rattle.value_sources.specs.declared.formatting.Formatted.{Formatted}
use Rattle.value_styles.specs.declared.style.SubsequentAuthorSubstituteRule.{SubsequentAuthorSubstituteRule}
use Rattle.value_trees.specs.Child.{Child, text, elem, markup, link, transparent, Kids, no_kids, kid, kids_of}
use Rattle.value_trees.specs.FirstNames.{put_names}
use Rattle.value_trees.specs.Tree.{find_elem, has_names}
use Rattle.value_trees.specs.declared.elem.Elem.{Elem}
use Rattle.mentions_authors.specs.Names.{child_names, is_name, names_of}
use Rattle.mentions_authors.specs.Repeated.{repeated}
use Rattle.mentions_authors.specs.declared.repeated.Substituted.{Substituted}

-- an item: its tree and its key
abbrev pub Item : Type 0
Item = List Child × List ℕ

-- the substitute as it is put in
abbrev pub substitute_text : List ℕ → Formatted
substitute_text bytes = record { text = bytes; formatting = normal }

-- whether the persons of all variables are equal
abbrev pub same_persons : List (List Person) → List (List Person) → Bool
same_persons = pointwise (pointwise (person_eq.ghosts).eq)

-- which names of each item repeat those of the one directly before it, as both were written
abbrev pub repeats : SubsequentAuthorSubstituteRule → List Item → List Substituted
repeats rule items = repeated bytes_eq same_persons rule (map (λ i. names_of i.0) items)

module _ (substitute : Formatted) where
  -- the substitute in place of the children of each of the first n names
  abbrev mutual
    pub child_written : ℕ → Child → Child
    child_written n (text f) = text f
    child_written n (elem ks d m) = if is_name m
        then (if n == 0 then elem ks d m else elem (kid (text substitute) no_kids) d m)
        else elem (kids_of (kids_written n ks)) d m
    child_written n (markup s) = markup s
    child_written n (link f s) = link f s
    child_written n (transparent i f) = transparent i f

    pub kids_written : ℕ → Kids → List Child
    kids_written n no_kids = []
    kids_written n (kid c ks) =
        child_written n c ∷ kids_written (n - length (child_names c)) ks

  abbrev pub names_written : ℕ → List Child → List Child
  names_written n tree = kids_written n (kids_of tree)

  -- the children of a names element: the substitute alone, or in each of so many names
  abbrev pub names_substituted : Substituted → List Child → List Child
  names_substituted Substituted.Nothing tree = tree
  names_substituted Substituted.Together tree = text substitute ∷ []
  names_substituted (Substituted.Leading n) tree = names_written n tree

  abbrev pub elem_substituted : Substituted → Elem → Elem
  elem_substituted told e = record e { children = names_substituted told e.children }

  -- an item's tree, of which nothing but its first names element is another
  abbrev pub tree_substituted : Substituted → List Child → List Child
  tree_substituted told tree = elim (find_elem has_names tree)
      [ None ↦ tree | Some e ↦ put_names tree (elem_substituted told e) ]

  -- items, of each of which it is told what the substitute stands for
  abbrev pub each_substituted : List Substituted → List Item → List Item
  each_substituted told items = map (λ p. (tree_substituted p.0 p.1.0, p.1.1)) (zip told items)

-- the items with a substitute in place of what repeats; without a substitute they stay
abbrev pub with_substitute : Option (List ℕ) → SubsequentAuthorSubstituteRule → List Item
    → List Item
with_substitute None rule items = items
with_substitute (Some bytes) rule items =
    each_substituted (substitute_text bytes) (repeats rule items) items

-- the plain data that items stand for
abbrev pub items_view : List (List Child × String Global) → List Item
items_view = map (λ p. (p.0, string_bytes p.1))
