-- Steps along lists of elements and branches, as their views see them.
use Rattle.value_styles.specs.declared.element.LayoutRenderingElement.TheVariants.{Group, Choose, rolls-Group, rolls-Choose}
use Rattle.value_styles.specs.declared.element.LayoutRenderingElement.TheOpen.{LayoutRenderingElement-F}
use Rattle.value_styles.specs.declared.element.Affixes.{Affixes}
use Rattle.value_sources.specs.declared.formatting.StyleFormatting.{StyleFormatting}
use Rattle.value_sources.specs.declared.formatting.Display.{Display}
use Rattle.std.specs.Prelude.{String, option_map, string_bytes, Option}
use Rattle.std.specs.declared.alloc.Global.{Global}
use Rattle.std.proofs.Common.{Vec, ◌≡◌, ℕ, suc, ◌+◌, ◌<◌, List, [], ◌∷◌, refl, length, get_or, drop, sym, ap, ◌∙◌}
use Rattle.std.proofs.lemmas.List.{at_drop_more}
use Rattle.value_styles.specs.declared.element.LayoutRenderingElement.{LayoutRenderingElement, fold-roll-LayoutRenderingElement}
use Rattle.value_styles.specs.declared.element.ChooseBranch.{ChooseBranch, fold_out-ChooseBranch}
use Rattle.value_styles.specs.Element.{Element, group_element, choose_element, element, Branch, branch}
use Rattle.value_styles.specs.ElementView.{look, element_step, branch_step, element_view, elements_view, branch_view, branches_view, macros_view}
use Rattle.value_styles.specs.declared.element.CslMacro.{CslMacro}

-- the elements from the next one on
pub elements_rest : (xs : List LayoutRenderingElement) (i : ℕ) (x : LayoutRenderingElement) → i < length xs → x ≡ get_or xs i x
    → elements_view (drop i xs) ≡ element (element_view x) (elements_view (drop (i + 1) xs))
elements_rest xs i x h e =
    at_drop_more elements_view xs i x h ∙ ap (λ y. element (element_view y) (elements_view (drop (i + 1) xs))) (sym e)

pub branch_is : (b : ChooseBranch) → branch_view b ≡ (record { conditions = b.conditions.items; rule = b.rule; children = elements_view b.children.items })
branch_is b = fold_out-ChooseBranch Element Branch element_step branch_step b

-- the branches from the next one on
pub branches_rest : (es : List LayoutRenderingElement) (xs : List ChooseBranch) (i : ℕ) (x : ChooseBranch) → i < length xs → x ≡ get_or xs i x
    → branches_view (drop i xs) es ≡ branch x.conditions.items x.rule (elements_view x.children.items) (branches_view (drop (i + 1) xs) es)
branches_rest es xs i x h e =
    at_drop_more (λ bs. branches_view bs es) xs i x h
    ∙ ap (λ (b : Branch). branch b.conditions b.rule b.children (branches_view (drop (i + 1) xs) es)) (ap branch_view (sym e) ∙ branch_is x)

pub macros_length : (ms : List CslMacro) → length (macros_view ms) ≡ length ms
macros_length [] = refl
macros_length (m ∷ ms) = ap (λ n. suc n) (macros_length ms)

-- how an element is seen, variant by variant
pub group_view : (children : Vec LayoutRenderingElement Global) (delimiter : Option (String Global)) (a : Affixes) (f : StyleFormatting) (d : Option Display)
    → element_view (Group children delimiter a f d) ≡ group_element (elements_view children.items) (option_map string_bytes delimiter) (look a f d)
group_view children delimiter a f d =
    ap element_view (sym (rolls-Group children delimiter a f d)) ∙ fold-roll-LayoutRenderingElement Element Branch element_step branch_step (LayoutRenderingElement-F.Group children delimiter a f d)

pub choose_view : (branches : Vec ChooseBranch Global) (es : Vec LayoutRenderingElement Global)
    → element_view (Choose branches es) ≡ choose_element (branches_view branches.items es.items)
choose_view branches es =
    ap element_view (sym (rolls-Choose branches es)) ∙ fold-roll-LayoutRenderingElement Element Branch element_step branch_step (LayoutRenderingElement-F.Choose branches es)
