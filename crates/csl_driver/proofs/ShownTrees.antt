-- What a citation shows: the cites that aren't hidden, in their order.
use Rattle.std.proofs.Common.{◌≡◌, ℕ, ◌+◌, Bool, true, false, cond, List, [], ◌∷◌, ◌++◌, Option, Some, None, map, refl, ap, sym, ◌∙◌, true≢false, append-nil}
use Rattle.std.specs.Prelude.{if◌then◌else◌}
use Rattle.std.specs.List.{cons_option, enumerate_from, flat_map}
use Rattle.std.proofs.lemmas.List.Elements.{filter_map-append}
use Rattle.driver_assembly.specs.Assembly.{Shown, assembled, behind_delimiter, enclosed_cites, joined_cites, layout_formatting, text_child, text_ends_with, with_layout_suffix}
use Rattle.driver_assembly.specs.CitationTree.{citation_tree, shown, shown_cite}
use Rattle.value_styles.specs.Style.{LayoutValue}
use Rattle.value_trees.specs.Tree.{last_text}
use Rattle.value_sources.specs.declared.formatting.Formatting.{Formatting}
use Rattle.driver_lookup.specs.Lookup.{Source}
use Rattle.driver_passes.specs.Purposes.{has_no_purpose}
use Rattle.driver_passes.specs.Renders.{CiteRender, ItemRender}
use Rattle.driver_passes.specs.Request.{source_of}
use Rattle.driver_writers.specs.Writing.{Writing}
use Rattle.csl_driver.specs.Answer.{citations_of, citation_of}
use Rattle.csl_driver.specs.AnswerLaws.{places_of}
use Rattle.value_trees.specs.Child.{Child, text, elem, markup, link, transparent, Kids, no_kids, kid, kids_of, list_of, list_of-kids_of}
use Rattle.value_trees.specs.Simplify.{joins, joined, join_first, child_simple, kids_simple, simplified}
use Rattle.value_trees.specs.declared.elem.ElemMeta.{ElemMeta}
use Rattle.value_trees.specs.declared.elem.ElemMeta.TheVariants as meta
use Rattle.value_sources.specs.declared.formatting.Display.{Display}
use Rattle.csl_driver.specs.ShownEntries.{entries_shown, entry_shown}

-- of an element it doesn't matter what is inside
elem-shown : (ks ls : Kids) (d : Option Display) (m : Option ElemMeta) → entry_shown (elem ks d m) ≡ entry_shown (elem ls d m)
elem-shown ks ls d None = refl
elem-shown ks ls d (Some (meta.Names n)) = refl
elem-shown ks ls d (Some (meta.Name v n)) = refl
elem-shown ks ls d (Some meta.Date) = refl
elem-shown ks ls d (Some meta.CitationNumber) = refl
elem-shown ks ls d (Some meta.CitationLabel) = refl
elem-shown ks ls d (Some (meta.Entry n)) = refl

simple-shown : (c : Child) → entry_shown (child_simple c) ≡ entry_shown c
simple-shown (text f) = refl
simple-shown (elem ks d m) = elem-shown (kids_of (kids_simple ks)) ks d m
simple-shown (markup s) = refl
simple-shown (link f s) = refl
simple-shown (transparent i f) = refl

-- joined texts are a text
joined-shown : (c d : Child) → joins c d ≡ true → (o : List ℕ) → cons_option (entry_shown (joined c d)) o ≡ cons_option (entry_shown c) (cons_option (entry_shown d) o)
joined-shown (text f) (text g) e o = refl
joined-shown _ _ e o = absurd (true≢false (sym e))

join-shown : (c : Child) (ds : List Child) → entries_shown (join_first c ds) ≡ cons_option (entry_shown c) (entries_shown ds)
join-shown c [] = refl
join-shown c (d ∷ ds) = by (joins c d) refl
  where
    by : (b : Bool) → joins c d ≡ b → entries_shown (cond b (joined c d ∷ ds) (c ∷ d ∷ ds)) ≡ cons_option (entry_shown c) (entries_shown (d ∷ ds))
    by true e = joined-shown c d e (entries_shown ds)
    by false e = refl

kids-shown : (ks : Kids) → entries_shown (kids_simple ks) ≡ entries_shown (list_of ks)
kids-shown no_kids = refl
kids-shown (kid c ks) =
    join-shown (child_simple c) (kids_simple ks) ∙ (λ i. cons_option (simple-shown c i) (kids-shown ks i))

-- simplifying a tree changes nothing of what it shows
pub simplified-shown : (cs : List Child) → entries_shown (simplified cs) ≡ entries_shown cs
simplified-shown cs = kids-shown (kids_of cs) ∙ ap entries_shown (list_of-kids_of cs)

append-shown : (a b : List Child) → entries_shown (a ++ b) ≡ entries_shown a ++ entries_shown b
append-shown a b = filter_map-append entry_shown a b

-- a text is no cite
text-shown : (f : Formatting) (o : Option (List ℕ)) → entries_shown (text_child f o) ≡ []
text-shown f None = refl
text-shown f (Some []) = refl
text-shown f (Some (b ∷ bs)) = refl

abbrev pub all_shown : List Shown → List ℕ
all_shown = flat_map (λ c. entries_shown c.tree)

behind-shown : (f : Formatting) (cs : List Shown) → entries_shown (flat_map (behind_delimiter f) cs) ≡ all_shown cs
behind-shown f [] = refl
behind-shown f (c ∷ cs) =
    append-shown (behind_delimiter f c) (flat_map (behind_delimiter f) cs)
    ∙ ap (λ l. l ++ entries_shown (flat_map (behind_delimiter f) cs)) (append-shown (text_child f c.delimiter) c.tree ∙ ap (λ l. l ++ entries_shown c.tree) (text-shown f c.delimiter))
    ∙ ap (λ l. entries_shown c.tree ++ l) (behind-shown f cs)

joined-cites-shown : (f : Formatting) (cs : List Shown) → entries_shown (joined_cites f cs) ≡ all_shown cs
joined-cites-shown f [] = refl
joined-cites-shown f (c ∷ cs) = append-shown c.tree (flat_map (behind_delimiter f) cs) ∙ ap (λ l. entries_shown c.tree ++ l) (behind-shown f cs)

suffix-shown : (f : Formatting) (o : Option (List ℕ)) (cs : List Child) → entries_shown (with_layout_suffix f o cs) ≡ entries_shown cs
suffix-shown f None cs = refl
suffix-shown f (Some s) cs = by (text_ends_with s (last_text cs))
  where
    by : (b : Bool) → entries_shown (if b then cs else cs ++ text_child f (Some s)) ≡ entries_shown cs
    by true = refl
    by false = append-shown cs (text_child f (Some s)) ∙ ap (λ l. entries_shown cs ++ l) (text-shown f (Some s)) ∙ append-nil (entries_shown cs)

enclosed-shown : (encloses : Bool) (layout : LayoutValue) (cs : List Shown) → entries_shown (enclosed_cites encloses layout cs) ≡ all_shown cs
enclosed-shown true layout cs =
    let f : Formatting = layout_formatting layout in
    suffix-shown f layout.suffix (text_child f layout.prefix ++ joined_cites f cs)
    ∙ append-shown (text_child f layout.prefix) (joined_cites f cs)
    ∙ ap (λ l. l ++ entries_shown (joined_cites f cs)) (text-shown f layout.prefix)
    ∙ joined-cites-shown f cs
enclosed-shown false layout cs = joined-cites-shown (layout_formatting layout) cs

pub assembled-shown : (encloses : Bool) (layout : LayoutValue) (cs : List Shown) → entries_shown (assembled encloses layout cs) ≡ all_shown cs
assembled-shown encloses layout [] = refl
assembled-shown encloses layout (c ∷ cs) = simplified-shown (enclosed_cites encloses layout (c ∷ cs)) ∙ enclosed-shown encloses layout (c ∷ cs)

module _ {E P : Type 0} (writing : Writing E P) where
  cites-shown : (r : ℕ) (source : Source) (layout : LayoutValue) (items : List (ItemRender E P)) → all_shown (map (shown_cite writing r source layout) items) ≡ places_of items
  cites-shown r source layout [] = refl
  cites-shown r source layout (i ∷ items) = ap (λ l. i.properties.certain.initial_idx ∷ l) (cites-shown r source layout items)

  citation-shown : (r : ℕ) (c : CiteRender E P) → entries_shown (citation_tree writing r c) ≡ places_of (shown c.items)
  citation-shown r c =
      let layout : LayoutValue = c.request.style.citation.layout in
      assembled-shown (has_no_purpose c.items) layout (map (shown_cite writing r (source_of c.request) layout) (shown c.items))
      ∙ cites-shown r (source_of c.request) layout (shown c.items)

  shown-from : (n : ℕ) (cites : List (CiteRender E P)) → map (λ c. entries_shown c.citation) (map (λ c. citation_of writing c.0 c.1) (enumerate_from n cites)) ≡ map (λ c. places_of (shown c.items)) cites
  shown-from n [] = refl
  shown-from n (c ∷ cs) = λ i. citation-shown n c i ∷ shown-from (n + 1) cs i

  -- each citation shows the cites of its request that aren't hidden
  pub citations-shown : (cites : List (CiteRender E P)) → map (λ c. entries_shown c.citation) (citations_of writing cites) ≡ map (λ c. places_of (shown c.items)) cites
  citations-shown cites = shown-from 0 cites
