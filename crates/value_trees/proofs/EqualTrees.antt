-- The derived tests of equality on trees and what they hold decide equality.
use Rattle.std.specs.Prelude.{◌≡◌, Bool, true, refl}
use Rattle.std.specs.Bool.{Decides}
use Rattle.std.specs.Cmp.{unsigned_Decides}
use Rattle.std.proofs.Common.{ap, sym, true≢false}
use Rattle.value_sources.specs.Finds.{Finds, decides, both, and-true, texts_find, options_find, lists_find, pairs_find}
use Rattle.value_sources.proofs.EqualFormattings.{displays_find, formatted_find, formattings_find}
use Rattle.value_sources.specs.EqualEntries.{name_variables_find, persons_find}
use Rattle.value_trees.specs.SameElem.{same_elem, same_child}
use Rattle.value_trees.specs.SameTree.{same_trees-Decides}
use Rattle.value_trees.specs.declared.elem.ElemMeta.{ElemMeta}
use Rattle.value_trees.specs.declared.elem.ElemMeta.TheVariants as meta
use Rattle.value_trees.specs.declared.elem.Elem.{Elem}
use Rattle.value_trees.specs.declared.elem.ElemChild.{ElemChild}
use Rattle.value_trees.specs.declared.elem.ElemChild.TheVariants as v
use Rattle.value_trees.specs.contracts.elem.ElemMetaPartialEq.TheImpl as meta_eq
use Rattle.value_trees.specs.contracts.elem.ElemPartialEq.TheImpl as elem_eq
use Rattle.value_trees.specs.contracts.elem.ElemChildPartialEq.TheImpl as child_eq

pub metas_find : Finds (meta_eq.ghosts).eq
metas_find = record { equal = equal; self = self }
  where
    equal : (a b : ElemMeta) → (meta_eq.ghosts).eq a b ≡ true → a ≡ b
    equal (meta.Names xs) (meta.Names ys) e =
        ap meta.Names ((lists_find (pairs_find (lists_find persons_find) name_variables_find)).equal xs ys e)
    equal (meta.Name a m) (meta.Name b n) e = let p = both _ _ e in
        λ i. meta.Name (name_variables_find.equal a b p.0 i) ((unsigned_Decides m n).0 p.1 i)
    equal meta.Date meta.Date e = refl
    equal meta.CitationNumber meta.CitationNumber e = refl
    equal meta.CitationLabel meta.CitationLabel e = refl
    equal (meta.Entry m) (meta.Entry n) e = ap meta.Entry ((unsigned_Decides m n).0 e)
    equal _ _ e = absurd (true≢false (sym e))

    self : (a : ElemMeta) → (meta_eq.ghosts).eq a a ≡ true
    self (meta.Names xs) = (lists_find (pairs_find (lists_find persons_find) name_variables_find)).self xs
    self (meta.Name a m) = and-true _ _ (name_variables_find.self a) ((unsigned_Decides m m).1 refl)
    self meta.Date = refl
    self meta.CitationNumber = refl
    self meta.CitationLabel = refl
    self (meta.Entry m) = (unsigned_Decides m m).1 refl

pub elems_find : Finds (elem_eq.ghosts).eq
elems_find = record {
  equal = λ a b e. let p = both _ _ e in let q = both _ _ p.1 in
      λ i. record {
        children = (same_trees-Decides a.children b.children).0 p.0 i;
        display = (options_find displays_find).equal a.display b.display q.0 i;
        meta = (options_find metas_find).equal a.meta b.meta q.1 i;
      };
  self = λ a.
      and-true _ _ ((same_trees-Decides a.children a.children).1 refl)
      (and-true _ _ ((options_find displays_find).self a.display) ((options_find metas_find).self a.meta));
}

pub children_find : Finds (child_eq.ghosts).eq
children_find = record { equal = equal; self = self }
  where
    equal : (a b : ElemChild) → (child_eq.ghosts).eq a b ≡ true → a ≡ b
    equal (v.Text f) (v.Text g) e = ap v.Text (formatted_find.equal f g e)
    equal (v.Elem x) (v.Elem y) e = ap v.Elem (elems_find.equal x y e)
    equal (v.Markup s) (v.Markup t) e = ap v.Markup (texts_find.equal s t e)
    equal (v.Link f s) (v.Link g t) e = let p = both _ _ e in
        λ i. v.Link (formatted_find.equal f g p.0 i) (texts_find.equal s t p.1 i)
    equal (v.Transparent m f) (v.Transparent n g) e = let p = both _ _ e in
        λ i. v.Transparent ((unsigned_Decides m n).0 p.0 i) (formattings_find.equal f g p.1 i)
    equal _ _ e = absurd (true≢false (sym e))

    self : (a : ElemChild) → (child_eq.ghosts).eq a a ≡ true
    self (v.Text f) = formatted_find.self f
    self (v.Elem x) = elems_find.self x
    self (v.Markup s) = texts_find.self s
    self (v.Link f s) = and-true _ _ (formatted_find.self f) (texts_find.self s)
    self (v.Transparent m f) = and-true _ _ ((unsigned_Decides m m).1 refl) (formattings_find.self f)

pub elem_Decides : (a b : Elem) → Decides (same_elem a b) (a ≡ b)
elem_Decides = decides elems_find

pub child_Decides : (a b : ElemChild) → Decides (same_child a b) (a ≡ b)
child_Decides = decides children_find
