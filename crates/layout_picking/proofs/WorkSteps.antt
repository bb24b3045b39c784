-- Steps that are added to a picking's list, over plain data.
use Rattle.std.proofs.Common.{◌≡◌, ℕ, zero, suc, ◌+◌, ◌-◌, ◌*◌, ◌<◌, List, [], ◌∷◌, ◌++◌, length, Bool, true, false, cond, Some, None, Bor, refl, sym, ap, ◌∙◌, subst, arith}
use Rattle.std.proofs.lemmas.List.{map-append, append-nil}
use Rattle.value_styles.specs.declared.element.LayoutRenderingElement.{LayoutRenderingElement}
use Rattle.value_styles.specs.declared.element.Condition.{Condition}
use Rattle.value_styles.specs.declared.element.ChooseMatch.{ChooseMatch}
use Rattle.value_styles.specs.Element.{Name, value_target, standard_target, macro_target, term_target, Element, text_element, number_element, date_element, names_element, group_element, choose_element, Elements, element, Branches, branch, Macro}
use Rattle.value_styles.specs.ElementView.{elements_view}
use Rattle.value_styles.specs.Ring.{body_of}
use Rattle.value_styles.specs.Weight.{weight_with, weight_all_with}
use Rattle.layout_picking.specs.declared.held.Opened.{Opened}
use Rattle.layout_picking.specs.declared.notes.Called.{Called}
use Rattle.layout_picking.specs.declared.notes.Notes.{Notes}
use Rattle.layout_picking.specs.declared.picking.OpenMacro.{OpenMacro}
use Rattle.layout_picking.specs.declared.picking.Step.{Step}
use Rattle.layout_picking.specs.declared.picking.Step.TheVariants as steps
use Rattle.layout_picking.specs.Env.{Env}
use Rattle.layout_picking.specs.Conditions.{passes, tested}
use Rattle.layout_picking.specs.Pieces.{NodeValue}
use Rattle.layout_picking.specs.Notes.{called_by_both}
use Rattle.layout_picking.specs.Picked.{Picked, Held, added, picked_group}
use Rattle.layout_picking.specs.Nodes.{inside, remembered, group_closed, macro_closed}
use Rattle.layout_picking.specs.Quiet.{seen, IsOpened}
use Rattle.layout_picking.specs.Pick.{Call, pick_all_with, pick_first_with, body_picked, called_macro, picks, picks_all}
use Rattle.layout_picking.specs.Work.{StepValue, step_view, steps_view, done, all_done, element_done, Fits, AllFit, body_weight, macro_weight, weight, weight_all, step_work, work}
use Rattle.layout_picking.specs.Walk.{Walk, walk, WalkGoesOn, TakesElement}
use Rattle.layout_picking.proofs.Tokens.{group_step, macro_step, added-nothing, added-followed}
use Rattle.layout_picking.proofs.MacroCalls.{macro_called}
use Rattle.layout_picking.proofs.Noted.{picks-kept}

all_done-append : (env : Env) (ms : List Macro) (xs ys : List StepValue) (h : Held) → all_done env ms (xs ++ ys) h ≡ all_done env ms xs (all_done env ms ys h)
all_done-append env ms [] ys h = refl
all_done-append env ms (x ∷ xs) ys h = ap (done env ms x) (all_done-append env ms xs ys h)

work-append : (ms : List Macro) (xs ys : List StepValue) → work ms (xs ++ ys) ≡ work ms xs + work ms ys
work-append ms [] ys = omega arith
work-append ms (x ∷ xs) ys = omega (arith, work-append ms xs ys)

-- a step that is added comes next
pub pushed : (env : Env) (ms : List Macro) (old new : List Step) (x : Step) (h : Held) → new ≡ old ++ x ∷ []
    → all_done env ms (steps_view new) h ≡ all_done env ms (steps_view old) (done env ms (step_view x) h)
pushed env ms old new x h e =
    ap (λ xs. all_done env ms (steps_view xs) h) e ∙ ap (λ xs. all_done env ms xs h) (map-append step_view old (x ∷ [])) ∙ all_done-append env ms (steps_view old) (step_view x ∷ []) h

pub pushed-work : (ms : List Macro) (old new : List Step) (x : Step) → new ≡ old ++ x ∷ [] → work ms (steps_view new) ≡ work ms (steps_view old) + step_work ms (step_view x)
pushed-work ms old new x e =
    let all = ap (λ xs. work ms (steps_view xs)) e ∙ ap (work ms) (map-append step_view old (x ∷ [])) ∙ work-append ms (steps_view old) (step_view x ∷ []) in
    omega (arith, all)

-- what holds of a step that comes next, and of those before it once it is done, holds of all
fit-append : (env : Env) (ms : List Macro) (xs : List StepValue) (y : StepValue) (h : Held) → AllFit env ms xs (done env ms y h) → Fits (called_macro env ms) y h → AllFit env ms (xs ++ y ∷ []) h
fit-append env ms [] y h f g = (g, tt)
fit-append env ms (x ∷ xs) y h f g = (subst (Fits (called_macro env ms) x) (sym (all_done-append env ms xs (y ∷ []) h)) f.0, fit-append env ms xs y h f.1 g)

fit-last : (env : Env) (ms : List Macro) (xs : List StepValue) (y : StepValue) (h : Held) → AllFit env ms (xs ++ y ∷ []) h → AllFit env ms xs (done env ms y h) × Fits (called_macro env ms) y h
fit-last env ms [] y h f = (tt, f.0)
fit-last env ms (x ∷ xs) y h f =
    let r = fit-last env ms xs y h f.1 in ((subst (Fits (called_macro env ms) x) (all_done-append env ms xs (y ∷ []) h) f.0, r.0), r.1)

pub fits_more : (env : Env) (ms : List Macro) (old new : List Step) (x : Step) (h : Held) → new ≡ old ++ x ∷ []
    → AllFit env ms (steps_view old) (done env ms (step_view x) h) → Fits (called_macro env ms) (step_view x) h → AllFit env ms (steps_view new) h
fits_more env ms old new x h e f g =
    subst (λ xs. AllFit env ms xs h) (sym (ap steps_view e ∙ map-append step_view old (x ∷ []))) (fit-append env ms (steps_view old) (step_view x) h f g)

pub fits_popped : (env : Env) (ms : List Macro) (new old : List Step) (x : Step) (h : Held) → old ≡ new ++ x ∷ []
    → AllFit env ms (steps_view old) h → AllFit env ms (steps_view new) (done env ms (step_view x) h) × Fits (called_macro env ms) (step_view x) h
fits_popped env ms new old x h e f =
    fit-last env ms (steps_view new) (step_view x) h (subst (λ xs. AllFit env ms xs h) (ap steps_view e ∙ map-append step_view new (x ∷ [])) f)

-- a macro that is passed over
pub passed_over : (p : Picked) (c : Called) (s now : Held) → p ≡ record { parts = []; called = c; noted = s.noted } → now ≡ record s { called = called_by_both s.called c } → now ≡ added p s
passed_over p c s now e f = f ∙ (λ i. record { tokens = sym (append-nil s.tokens) i; called = called_by_both s.called c; noted = s.noted }) ∙ ap (λ q. added q s) (sym e)

-- a walk that goes on with the same steps
pub goes_on : (env : Env) (ms : List Macro) (limit : ℕ) (a : List Step) (h now : Held) → now ≡ h → 0 < limit → WalkGoesOn env ms limit (walk a h) (walk a now)
goes_on env ms limit a h now is more = record {
  done = ap (all_done env ms (steps_view a)) is;
  fit = subst (AllFit env ms (steps_view a)) (sym is);
  falls = omega (arith, more);
}

element-positive : (call : Name → ℕ) (e : Element) → 0 < weight_with call e
element-positive call (text_element (value_target t) quotes strip look) = omega arith
element-positive call (text_element (standard_target v) quotes strip look) = omega arith
element-positive call (text_element (macro_target name) quotes strip look) = omega arith
element-positive call (text_element (term_target t form plural) quotes strip look) = omega arith
element-positive call (number_element variable look) = omega arith
element-positive call (date_element variable look) = omega arith
element-positive call (names_element variables substitute options look) = omega arith
element-positive call (group_element children delimiter look) = omega arith
element-positive call (choose_element branches) = omega arith

module _ (env : Env) (ms : List Macro) (depth : ℕ) where
  -- a group, which is opened
  module _ (a b c : List Step) (slice : Bor (List LayoutRenderingElement)) (items : List LayoutRenderingElement) (o : Opened) (node seen : NodeValue) (s now : Held)
      (e : b ≡ a ++ steps.CloseGroup o ∷ []) (f : c ≡ b ++ steps.Elements slice depth ∷ []) (v : slice.now ≡ items) (w : seen ≡ node) (x : now ≡ inside seen s) (y : o ≡ remembered s) where
    group_is : group_closed o (done env ms (step_view (steps.Elements slice depth)) now) ≡ added (picked_group node (picks_all env ms depth (elements_view items) s.noted)) s
    group_is =
        ap (λ xs. group_closed o (added (picks_all env ms depth (elements_view xs) now.noted) now)) v
        ∙ group_step (λ n. picks_all env ms depth (elements_view items) n) node seen s now _ _ o w x y refl refl

    pub group_pushed : all_done env ms (steps_view c) now ≡ all_done env ms (steps_view a) (added (picked_group node (picks_all env ms depth (elements_view items) s.noted)) s)
    group_pushed =
        pushed env ms b c (steps.Elements slice depth) now f ∙ pushed env ms a b (steps.CloseGroup o) _ e ∙ ap (all_done env ms (steps_view a)) group_is

    pub group_fits : AllFit env ms (steps_view a) (added (picked_group node (picks_all env ms depth (elements_view items) s.noted)) s) → AllFit env ms (steps_view c) now
    group_fits all =
        fits_more env ms b c (steps.Elements slice depth) now f
        (fits_more env ms a b (steps.CloseGroup o) (done env ms (step_view (steps.Elements slice depth)) now) e (subst (AllFit env ms (steps_view a)) (sym group_is) all) tt) tt

  -- a macro, which is opened
  module _ (a b c : List Step) (slice : Bor (List LayoutRenderingElement)) (call : OpenMacro) (node around : NodeValue) (s now : Held)
      (e : b ≡ a ++ steps.CloseMacro call ∷ []) (f : c ≡ b ++ steps.Elements slice (call.depth - 1) ∷ []) (w : around ≡ node) (x : now ≡ inside around s)
      (y : call.opened ≡ remembered s) (deep : 0 < call.depth) (found : Some (elements_view slice.now) ≡ body_of call.name.now ms) where
    macro_is : macro_closed call.opened (done env ms (step_view (steps.Elements slice (call.depth - 1))) now) ≡ added (called_macro env ms call.depth call.name.now node s.noted) s
    macro_is =
        macro_step (λ n. picks_all env ms (call.depth - 1) (elements_view slice.now) n) node around s now _ _ call.opened w x y refl refl
        ∙ ap (λ p. added p s) (macro_called env ms call.depth call.name.now node s.noted (elements_view slice.now) deep found)

    pub macro_pushed : all_done env ms (steps_view c) now ≡ all_done env ms (steps_view a) (added (called_macro env ms call.depth call.name.now node s.noted) s)
    macro_pushed =
        pushed env ms b c (steps.Elements slice (call.depth - 1)) now f ∙ pushed env ms a b (steps.CloseMacro call) _ e ∙ ap (all_done env ms (steps_view a)) macro_is

    pub macro_fits : call.seen ≡ seen s.noted → AllFit env ms (steps_view a) (added (called_macro env ms call.depth call.name.now node s.noted) s) → AllFit env ms (steps_view c) now
    macro_fits noted all =
        let inner : Notes → Picked = λ n. picks_all env ms (call.depth - 1) (elements_view slice.now) n in
        let opened : IsOpened (called_macro env ms) call.name.now call.depth call.seen call.opened (done env ms (step_view (steps.Elements slice (call.depth - 1))) now) = record {
          node = node;
          outside = s;
          inner = inner;
          means = λ k n. sym (macro_called env ms call.depth call.name.now k n (elements_view slice.now) deep found);
          opened = y;
          noted = noted;
          keeps = picks-kept env ms (call.depth - 1) (elements_view slice.now) s.noted;
          holds = ap (λ h. added (inner h.noted) h) (x ∙ ap (λ k. inside k s) w);
        } in
        fits_more env ms b c (steps.Elements slice (call.depth - 1)) now f
        (fits_more env ms a b (steps.CloseMacro call) (done env ms (step_view (steps.Elements slice (call.depth - 1))) now) e (subst (AllFit env ms (steps_view a)) (sym macro_is) all) opened) tt

  -- an element that is picked at once
  pub picked_at_once : (e : Element) (a : List Step) (s now : Held) → now ≡ element_done env ms depth e s → TakesElement env ms depth e (walk a s) (walk a now)
  picked_at_once e a s now is = goes_on env ms (2 * weight ms depth e) a (element_done env ms depth e s) now is (omega (arith, element-positive (macro_weight ms depth) e))

  -- and then those behind it
  pub elements_taken : (a b : List Step) (slice : Bor (List LayoutRenderingElement)) (e : Element) (s : Held) (new : Walk)
      → b ≡ a ++ steps.Elements slice depth ∷ [] → TakesElement env ms depth e (walk b s) new
      → WalkGoesOn env ms (2 * weight_all ms depth (element e (elements_view slice.now)))
      (walk a (added (picks_all env ms depth (element e (elements_view slice.now)) s.noted) s)) new
  elements_taken a b slice e s new p k =
      let one = picks env ms depth e s.noted in
      let h : Held = added one s in
      let rest = added-followed one (picks_all env ms depth (elements_view slice.now) one.noted) s in
      record {
        done = k.done ∙ pushed env ms a b (steps.Elements slice depth) h p ∙ ap (all_done env ms (steps_view a)) rest;
        fit = λ all. k.fit (fits_more env ms a b (steps.Elements slice depth) h p (subst (AllFit env ms (steps_view a)) (sym rest) all) tt);
        falls = omega (arith, k.falls, pushed-work ms a b (steps.Elements slice depth) p);
      }

-- a branch whose test holds, and one whose doesn't
module _ (env : Env) (call : Call) (conditions : List Condition) (rule : ChooseMatch) (children : Elements) (bs : Branches) (test : Bool) (n noted : Notes) where
  pub taken : test ≡ passes env rule conditions → test ≡ true → noted ≡ tested conditions n
      → pick_first_with env call (branch conditions rule children bs) n ≡ pick_all_with env call children noted
  taken p q e =
      ap (λ b. cond b (pick_all_with env call children (tested conditions n)) (pick_first_with env call bs (tested conditions n))) (sym p ∙ q)
      ∙ ap (pick_all_with env call children) (sym e)

  pub passed : test ≡ passes env rule conditions → test ≡ false → noted ≡ tested conditions n
      → pick_first_with env call (branch conditions rule children bs) n ≡ pick_first_with env call bs noted
  passed p q e =
      ap (λ b. cond b (pick_all_with env call children (tested conditions n)) (pick_first_with env call bs (tested conditions n))) (sym p ∙ q)
      ∙ ap (pick_first_with env call bs) (sym e)

-- a call of a macro that isn't there
pub no_macro : (env : Env) (ms : List Macro) (depth : ℕ) (name : Name) (node : NodeValue) (s : Held) → None ≡ body_of name ms → s ≡ added (called_macro env ms depth name node s.noted) s
no_macro env ms zero name node s e = sym (added-nothing s)
no_macro env ms (suc depth) name node s e =
    sym (added-nothing s) ∙ ap (λ o. added (body_picked (pick_all_with env (called_macro env ms depth)) o node s.noted) s) e

-- what a macro weighs that is there
pub macro_weighs : (ms : List Macro) (depth : ℕ) (name : Name) (body : Elements) → 0 < depth → Some body ≡ body_of name ms
    → 1 + weight_all ms (depth - 1) body ≡ macro_weight ms depth name
macro_weighs ms zero name body h e = absurd (omega arith)
macro_weighs ms (suc depth) name body h e =
    let d : suc depth - 1 ≡ depth = omega arith in
    ap (λ k. 1 + weight_all ms k body) d ∙ ap (body_weight (weight_all_with (macro_weight ms depth))) e

pub no_items : (xs : List Step) → length xs ≡ 0 → xs ≡ []
no_items [] e = refl
no_items (x ∷ xs) e = absurd (omega arith)
