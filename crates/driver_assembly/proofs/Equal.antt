-- The derived tests of equality on answers decide equality.
use Rattle.std.specs.Prelude.{◌<◌, refl, unsigned_abs}
use Rattle.std.specs.Cmp.{booleans_Decides, signed_Decides, unsigned_Decides}
use Rattle.std.specs.contracts.prelude.NonZeroI16PartialEq.TheImpl as spacing_eq
use denote.Enum.Bare.{same_true, true_same}
use mathlib.Core.HLevel.{is_prop→PathP}
use native.Mathlib.Bridge.{le_prop}
use Rattle.value_trees.proofs.EqualTrees.{children_find}
use Rattle.value_sources.specs.Finds.{Finds, both, and-true, finds, texts_find, options_find, lists_find}
use Rattle.value_trees.specs.SameTree.{same_trees, same_trees-Decides}
use Rattle.value_styles.specs.contracts.style.SecondFieldAlign as align
use Rattle.value_styles.specs.contracts.style.SecondFieldAlignPartialEq.TheImpl as align_eq
use Rattle.driver_assembly.specs.contracts.rendered.RenderedCitationPartialEq.TheImpl as citation_eq
use Rattle.driver_assembly.specs.contracts.rendered.BibliographyItemPartialEq.TheImpl as item_eq
use Rattle.driver_assembly.specs.contracts.rendered.RenderedBibliographyPartialEq.TheImpl as bibliography_eq
use Rattle.driver_assembly.specs.contracts.rendered.RenderedPartialEq.TheImpl as rendered_eq

trees_find : Finds same_trees
trees_find = finds same_trees-Decides

aligns_find : Finds (align_eq.ghosts).eq
aligns_find = record { equal = λ a b e. same_true align.the_type tt a b e; self = λ a. true_same align.the_type a a refl }

-- that a number isn't 0 has one proof
spacings_find : Finds (spacing_eq.ghosts).eq
spacings_find = record {
  equal = λ a b e. let same = (signed_Decides a.value b.value).0 e in
      λ i. record { value = same i; ok = is_prop→PathP (λ j. 0 < unsigned_abs (same j)) (λ j. le_prop) a.ok b.ok i };
  self = λ a. (signed_Decides a.value a.value).1 refl;
}

pub citations_find : Finds (citation_eq.ghosts).eq
citations_find = record {
  equal = λ a b e. let p = both _ _ e in
      λ i. record { note_number = (options_find (finds unsigned_Decides)).equal a.note_number b.note_number p.0 i; citation = trees_find.equal a.citation b.citation p.1 i };
  self = λ a. and-true _ _ ((options_find (finds unsigned_Decides)).self a.note_number) (trees_find.self a.citation);
}

pub items_find : Finds (item_eq.ghosts).eq
items_find = record {
  equal = λ a b e. let p = both _ _ e in let q = both _ _ p.1 in
      λ i. record {
        key = texts_find.equal a.key b.key p.0 i;
        first_field = (options_find children_find).equal a.first_field b.first_field q.0 i;
        content = trees_find.equal a.content b.content q.1 i;
      };
  self = λ a. and-true _ _ (texts_find.self a.key) (and-true _ _ ((options_find children_find).self a.first_field) (trees_find.self a.content));
}

pub bibliographies_find : Finds (bibliography_eq.ghosts).eq
bibliographies_find = record {
  equal = λ a b e. let p = both _ _ e in let q = both _ _ p.1 in let r = both _ _ q.1 in let s = both _ _ r.1 in
      λ i. record {
        hanging_indent = (booleans_Decides a.hanging_indent b.hanging_indent).0 p.0 i;
        second_field_align = (options_find aligns_find).equal a.second_field_align b.second_field_align q.0 i;
        line_spacing = spacings_find.equal a.line_spacing b.line_spacing r.0 i;
        entry_spacing = (signed_Decides a.entry_spacing b.entry_spacing).0 s.0 i;
        items = (lists_find items_find).equal a.items b.items s.1 i;
      };
  self = λ a.
      and-true _ _ ((booleans_Decides a.hanging_indent a.hanging_indent).1 refl)
      (and-true _ _ ((options_find aligns_find).self a.second_field_align)
      (and-true _ _ (spacings_find.self a.line_spacing)
      (and-true _ _ ((signed_Decides a.entry_spacing a.entry_spacing).1 refl) ((lists_find items_find).self a.items))));
}

pub answers_find : Finds (rendered_eq.ghosts).eq
answers_find = record {
  equal = λ a b e. let p = both _ _ e in
      λ i. record {
        bibliography = (options_find bibliographies_find).equal a.bibliography b.bibliography p.0 i;
        citations = (lists_find citations_find).equal a.citations b.citations p.1 i;
      };
  self = λ a. and-true _ _ ((options_find bibliographies_find).self a.bibliography) ((lists_find citations_find).self a.citations);
}
