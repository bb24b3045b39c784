-- The derived test of equality on elements tells what is seen of them: level by level, and by their depth.
use Rattle.std.specs.Prelude.{◌≡◌, ◌+◌, ◌<◌, ℕ, Bool, true, false, ◌&&◌, List, [], ◌∷◌, Option, refl}
use Rattle.std.specs.Bool.{Decides, beq}
use Rattle.std.specs.Cmp.{booleans_Decides}
use Rattle.std.specs.Cmp.Lexicographic.{pointwise}
use Rattle.std.specs.Option.{option_eq}
use Rattle.std.proofs.Common.{ap, arith, max, sym, true≢false, zero, suc, ◌∙◌}
use denote.Hole.Carrier.{out}
use denote.Hole.Compared.{Rel, Agree, Local, compared, compared_is}
use denote.Param.Weighed.{most}
use Rattle.value_styles.proofs.Seen.{texts_told}
use Rattle.value_sources.proofs.Told.{list_told, option_told, same_strings}
use Rattle.value_styles.proofs.Views.{branch_is}
use Rattle.value_styles.specs.Element.{Look, Element, text_element, number_element, date_element, names_element, group_element, choose_element, element, otherwise, branch, Branch}
use Rattle.value_styles.specs.ElementView.{text_view, affixes_view, options_view, look, target_view, element_step, branch_step, element_view, elements_view, branch_view, branches_view}
use Rattle.value_sources.specs.EqualEntries.{name_variables_find, date_variables_find, number_variables_find}
use Rattle.value_sources.specs.Finds.{both, and-true, decides}
use Rattle.value_sources.specs.PlainEntry.{same_name_variable, same_date_variable, same_number_variable}
use Rattle.value_sources.specs.Tells.{TellsEqual, TellsSeen}
use Rattle.value_styles.specs.contracts.element.AffixesPartialEq.TheImpl as affixes_eq
use Rattle.value_styles.specs.contracts.element.ChooseMatchPartialEq.TheImpl as match_eq
use Rattle.value_styles.specs.contracts.element.ConditionPartialEq.TheImpl as condition_eq
use Rattle.value_styles.specs.contracts.element.InheritableNameOptionsPartialEq.TheImpl as options_eq
use Rattle.value_styles.specs.contracts.element.LayoutRenderingElementPartialEq.TheImpl as element_eq
use Rattle.value_styles.specs.contracts.element.TextTargetPartialEq.TheImpl as target_eq
use Rattle.value_sources.specs.contracts.formatting.DisplayPartialEq.TheImpl as display_eq
use Rattle.value_sources.specs.contracts.formatting.StyleFormattingPartialEq.TheImpl as formatting_eq
use Rattle.value_styles.specs.declared.element.Affixes.{Affixes}
use Rattle.value_styles.specs.declared.element.ChooseBranch.{ChooseBranch}
use Rattle.value_styles.specs.declared.element.LayoutRenderingElement.{LayoutRenderingElement, fold_out-LayoutRenderingElement, map-LayoutRenderingElement, out-LayoutRenderingElement, size-LayoutRenderingElement as depth, size_is-LayoutRenderingElement}
use Rattle.value_styles.specs.declared.element.LayoutRenderingElement.TheBlock.{the_members, the_family, the_depth, member-LayoutRenderingElement as of_elements, member-ChooseBranch as of_branches, weighs-LayoutRenderingElement}
use Rattle.value_styles.specs.declared.element.LayoutRenderingElement.TheOpen.{LayoutRenderingElement-F}
use Rattle.value_styles.specs.declared.element.LayoutRenderingElement.TheOpen as o
use Rattle.value_styles.specs.declared.element.LayoutRenderingElement.TheVariants as v
use Rattle.value_styles.specs.declared.element.LayoutRenderingElement.TheViews.{size-ChooseBranch as branch_depth, size_is-ChooseBranch}
use Rattle.value_sources.specs.declared.formatting.Display.{Display}
use Rattle.value_sources.specs.declared.formatting.StyleFormatting.{StyleFormatting}

-- a test of two elements, and one of two branches
abbrev Tests : Type 0
Tests = Rel the_members the_family the_depth Bool

-- one level of an element
abbrev Level : Type 0
Level = LayoutRenderingElement-F LayoutRenderingElement ChooseBranch

abbrev same_elements : Tests → List LayoutRenderingElement → List LayoutRenderingElement → Bool
same_elements r = pointwise (r of_elements)

abbrev same_branches : Tests → List ChooseBranch → List ChooseBranch → Bool
same_branches r = pointwise (r of_branches)

abbrev same_look : Affixes → Affixes → StyleFormatting → StyleFormatting → Option Display → Option Display → Bool
same_look a b f g d e = (affixes_eq.ghosts).eq a b && ((formatting_eq.ghosts).eq f g && option_eq (display_eq.ghosts).eq d e)

-- whether two levels are equal, where elements inside are told by a test
abbrev same_level : Tests → Level → Level → Bool
same_level r (o.Text s p q a f d) (o.Text t x y b g e) = (target_eq.ghosts).eq s t && (beq p x && (beq q y && same_look a b f g d e))
same_level r (o.Number m a f d) (o.Number n b g e) = same_number_variable m n && same_look a b f g d e
same_level r (o.Date m a f d) (o.Date n b g e) = same_date_variable m n && same_look a b f g d e
same_level r (o.Names m s p a f d) (o.Names n t q b g e) =
    pointwise same_name_variable m.items n.items && (pointwise same_name_variable s.items t.items && ((options_eq.ghosts).eq p q && same_look a b f g d e))
same_level r (o.Group xs s a f d) (o.Group ys t b g e) = same_elements r xs.items ys.items && (option_eq same_strings s t && same_look a b f g d e)
same_level r (o.Choose xs s) (o.Choose ys t) = same_branches r xs.items ys.items && same_elements r s.items t.items
same_level r _ _ = false

abbrev same_branch : Tests → ChooseBranch → ChooseBranch → Bool
same_branch r b c =
    pointwise (condition_eq.ghosts).eq b.conditions.items c.conditions.items
    && ((match_eq.ghosts).eq b.rule c.rule && same_elements r b.children.items c.children.items)

element_step_is : (r : Tests) (d e : LayoutRenderingElement)
    → element_eq.the_step r of_elements d e ≡ same_level r (out-LayoutRenderingElement d) (out-LayoutRenderingElement e)
unfolding out-LayoutRenderingElement out
element_step_is r (v.Text s p q a f d) (v.Text t x y b g e) = refl
element_step_is r (v.Number m a f d) (v.Number n b g e) = refl
element_step_is r (v.Date m a f d) (v.Date n b g e) = refl
element_step_is r (v.Names m s p a f d) (v.Names n t q b g e) = refl
element_step_is r (v.Group' k m s a f d) (v.Group' l n t b g e) = refl
element_step_is r (v.Choose' k m s x) (v.Choose' l n t y) = refl
element_step_is r _ _ = refl

branch_step_is : (r : Tests) (b c : ChooseBranch) → element_eq.the_step r of_branches b c ≡ same_branch r b c
branch_step_is r b c = refl

-- two tests that agree on what lists hold agree on the lists
lists_agree : {A : Type 0} (f g : A → A → Bool) (deep : A → ℕ) (n : ℕ) → ((x y : A) → deep x < n → deep y < n → f x y ≡ g x y)
    → (xs ys : List A) → most deep xs < n → most deep ys < n → pointwise f xs ys ≡ pointwise g xs ys
lists_agree f g deep n agree [] [] h k = refl
lists_agree f g deep n agree (x ∷ xs) (y ∷ ys) h k =
    let first : f x y ≡ g x y = agree x y (omega arith) (omega arith) in
    let rest : pointwise f xs ys ≡ pointwise g xs ys = lists_agree f g deep n agree xs ys (omega arith) (omega arith) in
    λ i. first i && rest i
lists_agree f g deep n agree [] (y ∷ ys) h k = refl
lists_agree f g deep n agree (x ∷ xs) [] h k = refl

-- how deep a level's elements and branches are
abbrev deepest : Level → ℕ
deepest (o.Group xs s a f d) = most depth xs.items
deepest (o.Choose xs s) = max (most branch_depth xs.items) (most depth s.items)
deepest _ = 0

depth_is : (d : LayoutRenderingElement) → depth d ≡ deepest (out-LayoutRenderingElement d) + 1
depth_is d = size_is-LayoutRenderingElement d ∙ weight_is (out-LayoutRenderingElement d)
  where
    weight_is : (x : Level) → weighs-LayoutRenderingElement.weight the_family the_depth x + 1 ≡ deepest x + 1
    weight_is (o.Text s p q a f d) = omega arith
    weight_is (o.Number m a f d) = omega arith
    weight_is (o.Date m a f d) = omega arith
    weight_is (o.Names m s p a f d) = omega arith
    weight_is (o.Group xs s a f d) = omega arith
    weight_is (o.Choose xs s) = omega arith

branch_depth_is : (b : ChooseBranch) → branch_depth b ≡ most depth b.children.items + 1
branch_depth_is b = omega (arith, size_is-ChooseBranch b)

module _ (r t : Tests) (n : ℕ) (agree : Agree the_members the_family the_depth Bool r t n) where
  elements_agree : (xs ys : List LayoutRenderingElement) → most depth xs < n → most depth ys < n
      → same_elements r xs ys ≡ same_elements t xs ys
  elements_agree = lists_agree (r of_elements) (t of_elements) depth n (agree of_elements)

  branches_agree : (xs ys : List ChooseBranch) → most branch_depth xs < n → most branch_depth ys < n → same_branches r xs ys ≡ same_branches t xs ys
  branches_agree = lists_agree (r of_branches) (t of_branches) branch_depth n (agree of_branches)

  levels_agree : (x y : Level) → deepest x < n → deepest y < n → same_level r x y ≡ same_level t x y
  levels_agree (o.Group xs s a f d) (o.Group ys u b g e) h k =
      let children = elements_agree xs.items ys.items h k in
      λ i. children i && (option_eq same_strings s u && same_look a b f g d e)
  levels_agree (o.Choose xs s) (o.Choose ys u) h k =
      let branches = branches_agree xs.items ys.items (omega arith) (omega arith) in
      let last = elements_agree s.items u.items (omega arith) (omega arith) in
      λ i. branches i && last i
  levels_agree _ _ h k = refl

  branch_agrees : (b c : ChooseBranch) → most depth b.children.items < n → most depth c.children.items < n
      → same_branch r b c ≡ same_branch t b c
  branch_agrees b c h k =
      let children = elements_agree b.children.items c.children.items h k in
      λ i. pointwise (condition_eq.ghosts).eq b.conditions.items c.conditions.items && ((match_eq.ghosts).eq b.rule c.rule && children i)

-- a level asks only of what lies deeper
pub local : Local the_members the_family the_depth Bool true element_eq.the_step
local r t n agree of_elements d e h k =
    let p : deepest (out-LayoutRenderingElement d) < n = omega (arith, depth_is d) in
    let q : deepest (out-LayoutRenderingElement e) < n = omega (arith, depth_is e) in
    element_step_is r d e ∙ levels_agree r t n agree _ _ p q ∙ sym (element_step_is t d e)
local r t n agree of_branches b c h k =
    let p : most depth b.children.items < n = omega (arith, branch_depth_is b) in
    let q : most depth c.children.items < n = omega (arith, branch_depth_is c) in
    branch_step_is r b c ∙ branch_agrees r t n agree b c p q ∙ sym (branch_step_is t b c)

-- the derived tests
abbrev same : Tests
same = compared the_members the_family the_depth Bool true element_eq.the_step

pub same_is : (d e : LayoutRenderingElement) → same of_elements d e ≡ same_level same (out-LayoutRenderingElement d) (out-LayoutRenderingElement e)
same_is d e = compared_is the_members the_family the_depth Bool true element_eq.the_step local of_elements d e ∙ element_step_is same d e

same_branch_is : (b c : ChooseBranch) → same of_branches b c ≡ same_branch same b c
same_branch_is b c = compared_is the_members the_family the_depth Bool true element_eq.the_step local of_branches b c ∙ branch_step_is same b c

-- what is seen of one level
abbrev level_view : Level → Element
level_view (o.Text s p q a f d) = text_element (target_view s) p q (look a f d)
level_view (o.Number m a f d) = number_element m (look a f d)
level_view (o.Date m a f d) = date_element m (look a f d)
level_view (o.Names m s p a f d) = names_element m.items s.items (options_view p) (look a f d)
level_view (o.Group xs s a f d) = group_element (elements_view xs.items) (text_view s) (look a f d)
level_view (o.Choose xs s) = choose_element (branches_view xs.items s.items)

pub view_is : (d : LayoutRenderingElement) → element_view d ≡ level_view (out-LayoutRenderingElement d)
view_is d = fold_out-LayoutRenderingElement Element Branch element_step branch_step d ∙ one (out-LayoutRenderingElement d)
  where
    one : (x : Level) → element_step (map-LayoutRenderingElement LayoutRenderingElement ChooseBranch Element Branch element_view branch_view x) ≡ level_view x
    one (o.Text s p q a f d) = refl
    one (o.Number m a f d) = refl
    one (o.Date m a f d) = refl
    one (o.Names m s p a f d) = refl
    one (o.Group xs s a f d) = refl
    one (o.Choose xs s) = refl

module _
    (targets : TellsSeen target_view (target_eq.ghosts).eq)
    (affixes : TellsSeen affixes_view (affixes_eq.ghosts).eq)
    (options : TellsSeen options_view (options_eq.ghosts).eq)
    (formattings : TellsEqual (formatting_eq.ghosts).eq)
    (displays : TellsEqual (display_eq.ghosts).eq)
    (conditions : TellsEqual (condition_eq.ghosts).eq)
    (matches : TellsEqual (match_eq.ghosts).eq)
  where
    looks_told : (a b : Affixes) (f g : StyleFormatting) (d e : Option Display) → Decides (same_look a b f g d e) (look a f d ≡ look b g e)
    looks_told a b f g d e =
        let told = option_told displays d e in (
          λ s. let p = both _ _ s in let q = both _ _ p.1 in
              λ i. record { affixes = (affixes a b).0 p.0 i; formatting = (formattings f g).0 q.0 i; display = told.0 q.1 i },
          λ s.
              and-true _ _ ((affixes a b).1 (ap (λ (l : Look). l.affixes) s))
              (and-true _ _ ((formattings f g).1 (ap (λ (l : Look). l.formatting) s)) (told.1 (ap (λ (l : Look). l.display) s))),
        )

    module _ (n : ℕ)
        (one : (x y : LayoutRenderingElement) → depth x < n → depth y < n
        → Decides (same of_elements x y) (element_view x ≡ element_view y))
        (arm : (b c : ChooseBranch) → branch_depth b < n → branch_depth c < n → Decides (same of_branches b c) (branch_view b ≡ branch_view c))
      where
        elements_told : (xs ys : List LayoutRenderingElement) → most depth xs < n → most depth ys < n
            → Decides (same_elements same xs ys) (elements_view xs ≡ elements_view ys)
        elements_told [] [] h k = (λ e. refl, λ e. refl)
        elements_told (x ∷ xs) (y ∷ ys) h k =
            let first = one x y (omega arith) (omega arith) in
            let rest = elements_told xs ys (omega arith) (omega arith) in (
              λ e. let p = both _ _ e in λ i. element (first.0 p.0 i) (rest.0 p.1 i),
              λ e.
                  let u : element_view x ≡ element_view y = cc in
                  let w : elements_view xs ≡ elements_view ys = cc in
                  and-true _ _ (first.1 u) (rest.1 w),
            )
        elements_told [] (y ∷ ys) h k = (λ e. absurd (true≢false (sym e)), λ e. cc)
        elements_told (x ∷ xs) [] h k = (λ e. absurd (true≢false (sym e)), λ e. cc)

        branches_told : (bs cs : List ChooseBranch) (xs ys : List LayoutRenderingElement)
            → most branch_depth bs < n → most branch_depth cs < n → most depth xs < n → most depth ys < n
            → Decides (same_branches same bs cs && same_elements same xs ys) (branches_view bs xs ≡ branches_view cs ys)
        branches_told [] [] xs ys h k p q =
            let last = elements_told xs ys p q in (
              λ e. ap otherwise (last.0 e),
              λ e. let u : elements_view xs ≡ elements_view ys = cc in last.1 u,
            )
        branches_told (b ∷ bs) (c ∷ cs) xs ys h k p q =
            let first = arm b c (omega arith) (omega arith) in
            let rest = branches_told bs cs xs ys (omega arith) (omega arith) p q in (
              λ e.
                  let u = both _ _ e in
                  let w = both _ _ u.0 in
                  let f = first.0 w.0 in
                  let g = rest.0 (and-true _ _ w.1 u.1) in
                  λ i. branch (f i).conditions (f i).rule (f i).children (g i),
              λ e.
                  let s : (branch_view b).conditions ≡ (branch_view c).conditions = cc in
                  let t : (branch_view b).rule ≡ (branch_view c).rule = cc in
                  let u : (branch_view b).children ≡ (branch_view c).children = cc in
                  let w : branches_view bs xs ≡ branches_view cs ys = cc in
                  let same_first : branch_view b ≡ branch_view c = λ i. record { conditions = s i; rule = t i; children = u i } in
                  let z = both _ _ (rest.1 w) in
                  and-true _ _ (and-true _ _ (first.1 same_first) z.0) z.1,
            )
        branches_told [] (c ∷ cs) xs ys h k p q = (λ e. absurd (true≢false (sym e)), λ e. cc)
        branches_told (b ∷ bs) [] xs ys h k p q = (λ e. absurd (true≢false (sym e)), λ e. cc)

        level_told : (x y : Level) → deepest x < n → deepest y < n → Decides (same_level same x y) (level_view x ≡ level_view y)
        level_told (o.Text s p q a f d) (o.Text t x y b g e) h k =
            let target = targets s t in
            let looks = looks_told a b f g d e in (
              λ m. let u = both _ _ m in let w = both _ _ u.1 in let z = both _ _ w.1 in
                  λ i. text_element (target.0 u.0 i) ((booleans_Decides p x).0 w.0 i) ((booleans_Decides q y).0 z.0 i) (looks.0 z.1 i),
              λ m.
                  let u : target_view s ≡ target_view t = cc in
                  let w : p ≡ x = cc in
                  let z : q ≡ y = cc in
                  let l : look a f d ≡ look b g e = cc in
                  and-true _ _ (target.1 u) (and-true _ _ ((booleans_Decides p x).1 w) (and-true _ _ ((booleans_Decides q y).1 z) (looks.1 l))),
            )
        level_told (o.Number v a f d) (o.Number w b g e) h k =
            let variable = decides number_variables_find v w in
            let looks = looks_told a b f g d e in (
              λ m. let p = both _ _ m in λ i. number_element (variable.0 p.0 i) (looks.0 p.1 i),
              λ m.
                  let u : v ≡ w = cc in
                  let l : look a f d ≡ look b g e = cc in
                  and-true _ _ (variable.1 u) (looks.1 l),
            )
        level_told (o.Date v a f d) (o.Date w b g e) h k =
            let variable = decides date_variables_find v w in
            let looks = looks_told a b f g d e in (
              λ m. let p = both _ _ m in λ i. date_element (variable.0 p.0 i) (looks.0 p.1 i),
              λ m.
                  let u : v ≡ w = cc in
                  let l : look a f d ≡ look b g e = cc in
                  and-true _ _ (variable.1 u) (looks.1 l),
            )
        level_told (o.Names v s p a f d) (o.Names w t q b g e) h k =
            let names = list_told (decides name_variables_find) v.items w.items in
            let substitutes = list_told (decides name_variables_find) s.items t.items in
            let looks = looks_told a b f g d e in (
              λ m. let u = both _ _ m in let x = both _ _ u.1 in let y = both _ _ x.1 in
                  λ i. names_element (names.0 u.0 i) (substitutes.0 x.0 i) ((options p q).0 y.0 i) (looks.0 y.1 i),
              λ m.
                  let u : v.items ≡ w.items = cc in
                  let x : s.items ≡ t.items = cc in
                  let y : options_view p ≡ options_view q = cc in
                  let l : look a f d ≡ look b g e = cc in
                  and-true _ _ (names.1 u) (and-true _ _ (substitutes.1 x) (and-true _ _ ((options p q).1 y) (looks.1 l))),
            )
        level_told (o.Group xs s a f d) (o.Group ys t b g e) h k =
            let children = elements_told xs.items ys.items h k in
            let delimiter = texts_told s t in
            let looks = looks_told a b f g d e in (
              λ m. let p = both _ _ m in let q = both _ _ p.1 in
                  λ i. group_element (children.0 p.0 i) (delimiter.0 q.0 i) (looks.0 q.1 i),
              λ m.
                  let u : elements_view xs.items ≡ elements_view ys.items = cc in
                  let w : text_view s ≡ text_view t = cc in
                  let l : look a f d ≡ look b g e = cc in
                  and-true _ _ (children.1 u) (and-true _ _ (delimiter.1 w) (looks.1 l)),
            )
        level_told (o.Choose bs xs) (o.Choose cs ys) h k =
            let told = branches_told bs.items cs.items xs.items ys.items (omega arith) (omega arith) (omega arith) (omega arith) in (
              λ m. ap choose_element (told.0 m),
              λ m. let u : branches_view bs.items xs.items ≡ branches_view cs.items ys.items = cc in told.1 u,
            )
        level_told _ _ h k = (λ m. absurd (true≢false (sym m)), λ m. cc)

        branch_told : (b c : ChooseBranch) → most depth b.children.items < n → most depth c.children.items < n
            → Decides (same_branch same b c) (branch_view b ≡ branch_view c)
        branch_told b c h k =
            let tested = list_told conditions b.conditions.items c.conditions.items in
            let rules = matches b.rule c.rule in
            let children = elements_told b.children.items c.children.items h k in (
              λ m. let p = both _ _ m in let q = both _ _ p.1 in
                  branch_is b ∙ (λ i. record { conditions = tested.0 p.0 i; rule = rules.0 q.0 i; children = children.0 q.1 i }) ∙ sym (branch_is c),
              λ m.
                  let e = sym (branch_is b) ∙ m ∙ branch_is c in
                  and-true _ _ (tested.1 (ap (λ (x : Branch). x.conditions) e))
                  (and-true _ _ (rules.1 (ap (λ (x : Branch). x.rule) e)) (children.1 (ap (λ (x : Branch). x.children) e))),
            )

    -- elements and branches up to a depth
    pub record Told (n : ℕ) : Type 0 where
      pub elements : (x y : LayoutRenderingElement) → depth x < n → depth y < n
          → Decides (same of_elements x y) (element_view x ≡ element_view y)
      pub branches : (b c : ChooseBranch) → branch_depth b < n → branch_depth c < n → Decides (same of_branches b c) (branch_view b ≡ branch_view c)

    told_to : (n : ℕ) → Told n
    told_to zero = record { elements = λ x y h k. absurd (omega arith); branches = λ b c h k. absurd (omega arith) }
    told_to (suc n) =
        let below = told_to n in
        record {
          elements = λ x y h k.
              let p : deepest (out-LayoutRenderingElement x) < n = omega (arith, depth_is x) in
              let q : deepest (out-LayoutRenderingElement y) < n = omega (arith, depth_is y) in
              let told = level_told n below.elements below.branches (out-LayoutRenderingElement x) (out-LayoutRenderingElement y) p q in (
                λ e. view_is x ∙ told.0 (sym (same_is x y) ∙ e) ∙ sym (view_is y),
                λ e. same_is x y ∙ told.1 (sym (view_is x) ∙ e ∙ view_is y),
              );
          branches = λ b c h k.
              let p : most depth b.children.items < n = omega (arith, branch_depth_is b) in
              let q : most depth c.children.items < n = omega (arith, branch_depth_is c) in
              let told = branch_told n below.elements below.branches b c p q in (
                λ e. told.0 (sym (same_branch_is b c) ∙ e),
                λ e. same_branch_is b c ∙ told.1 e,
              );
        }

    pub element_told : (x y : LayoutRenderingElement) → Decides (same of_elements x y) (element_view x ≡ element_view y)
    element_told x y = (told_to (suc (max (depth x) (depth y)))).elements x y (omega arith) (omega arith)

    pub arm_told : (b c : ChooseBranch) → Decides (same of_branches b c) (branch_view b ≡ branch_view c)
    arm_told b c = (told_to (suc (max (branch_depth b) (branch_depth c)))).branches b c (omega arith) (omega arith)
