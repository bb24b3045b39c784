-- For the code: what a picking has still to do, as a list of steps of which the last comes next.
use Rattle.std.specs.Prelude.{ℕ, zero, suc, ◌+◌, ◌*◌, List, [], ◌∷◌, map, false, Option, Some, None, ⊤}
use Rattle.value_styles.specs.Element.{Name, Element, number_element, date_element, names_element, group_element, choose_element, Elements, Macro}
use Rattle.value_styles.specs.ElementView.{elements_view}
use Rattle.value_sources.specs.declared.taxonomy.Variable.{Variable}
use Rattle.value_styles.specs.Ring.{body_of}
use Rattle.value_styles.specs.Weight.{weight_with, weight_all_with}
use Rattle.layout_picking.specs.declared.held.Opened.{Opened}
use Rattle.layout_picking.specs.declared.quiet.Seen.{Seen}
use Rattle.layout_picking.specs.declared.picking.Step.{Step}
use Rattle.layout_picking.specs.declared.picking.Step.TheVariants as steps
use Rattle.layout_picking.specs.Env.{Env}
use Rattle.layout_picking.specs.Picked.{Held, added}
use Rattle.layout_picking.specs.Variables.{meant, pick_variable, pick_date}
use Rattle.layout_picking.specs.Names.{pick_names}
use Rattle.layout_picking.specs.Nodes.{group_closed, macro_closed}
use Rattle.layout_picking.specs.Quiet.{IsOpened}
use Rattle.layout_picking.specs.Pick.{Call, picks, picks_all, called_macro}

-- these elements are to be picked, with macros nested so deep; a node is to be closed
pub data StepValue : Type 0 where
  elements_step : Elements → ℕ → StepValue
  group_step : Opened → StepValue
  macro_step : Name → ℕ → Seen → Opened → StepValue

abbrev pub step_view : Step → StepValue
step_view (steps.Elements elements depth) = elements_step (elements_view elements.now) depth
step_view (steps.CloseGroup opened) = group_step opened
step_view (steps.CloseMacro call) = macro_step call.name.now call.depth call.seen call.opened

abbrev pub steps_view : List Step → List StepValue
steps_view = map step_view

-- once a step is done
abbrev pub done : Env → List Macro → StepValue → Held → Held
done env macros (elements_step es depth) h = added (picks_all env macros depth es h.noted) h
done env macros (group_step o) h = group_closed o h
done env macros (macro_step name depth before o) h = macro_closed o h

-- once all are done, from the last to the first
abbrev pub all_done : Env → List Macro → List StepValue → Held → Held
all_done env macros [] h = h
all_done env macros (x ∷ xs) h = done env macros x (all_done env macros xs h)

-- what holds where a step is done next
abbrev pub Fits : (ℕ → Call) → StepValue → Held → Type 0
Fits call (elements_step es depth) h = ⊤
Fits call (group_step o) h = ⊤
Fits call (macro_step name depth before o) h = IsOpened call name depth before o h

-- where each is done in its turn
abbrev pub AllFit : Env → List Macro → List StepValue → Held → Type 0
AllFit env macros [] h = ⊤
AllFit env macros (x ∷ xs) h = Fits (called_macro env macros) x (all_done env macros xs h)
    × AllFit env macros xs h

-- once an element is picked
abbrev pub element_done : Env → List Macro → ℕ → Element → Held → Held
element_done env macros depth e h = added (picks env macros depth e h.noted) h

-- once a number, a date or names are picked, and nothing of any other element
abbrev pub plain_done : Env → Element → Held → Held
plain_done env (number_element v look) h =
    let variable = meant env.is_bibliography env.cite.usage (Variable.Number v) in
    added (pick_variable env variable look false false h.noted) h
plain_done env (date_element v look) h = added (pick_date env v look false false h.noted) h
plain_done env (names_element variables substitute options look) h =
    added (pick_names env variables substitute options look h.noted) h
plain_done env e h = h

-- once a group or a choice is picked, and nothing of any other element
abbrev pub inside_done : Env → List Macro → ℕ → Element → Held → Held
inside_done env macros depth (group_element children delimiter look) h =
    element_done env macros depth (group_element children delimiter look) h
inside_done env macros depth (choose_element branches) h =
    element_done env macros depth (choose_element branches) h
inside_done env macros depth e h = h

-- how many steps there are at most, macros and all
abbrev pub body_weight : (Elements → ℕ) → Option Elements → ℕ
body_weight all None = 0
body_weight all (Some elements) = 1 + all elements

abbrev pub macro_weight : List Macro → ℕ → Name → ℕ
macro_weight macros zero name = 0
macro_weight macros (suc depth) name =
    body_weight (weight_all_with (macro_weight macros depth)) (body_of name macros)

abbrev pub weight : List Macro → ℕ → Element → ℕ
weight macros depth = weight_with (macro_weight macros depth)

abbrev pub weight_all : List Macro → ℕ → Elements → ℕ
weight_all macros depth = weight_all_with (macro_weight macros depth)

abbrev pub step_work : List Macro → StepValue → ℕ
step_work macros (elements_step es depth) = 2 * weight_all macros depth es
step_work macros (group_step o) = 1
step_work macros (macro_step name depth before o) = 1

abbrev pub work : List Macro → List StepValue → ℕ
work macros [] = 0
work macros (x ∷ xs) = step_work macros x + work macros xs
