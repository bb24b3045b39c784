-- For the code: how a walk through a layout goes on, step by step.
use Rattle.std.specs.Prelude.{◌≡◌, ℕ, ◌+◌, ◌*◌, ◌<◌, List}
use Rattle.value_sources.specs.Answers.{Answers}
use Rattle.value_styles.specs.declared.element.LayoutRenderingElement.{LayoutRenderingElement}
use Rattle.value_styles.specs.ElementView.{element_view}
use Rattle.value_styles.specs.Element.{Target, Element, text_element, Macro}
use Rattle.layout_picking.specs.declared.input.Input.{Input}
use Rattle.layout_picking.specs.declared.picking.Step.{Step}
use Rattle.layout_picking.specs.declared.pieces.Shape.{Shape}
use Rattle.layout_picking.specs.Env.{Env}
use Rattle.layout_picking.specs.InputView.{env_of, macros_in}
use Rattle.layout_picking.specs.PiecesView.{shape_look}
use Rattle.layout_picking.specs.Picked.{Held}
use Rattle.layout_picking.specs.Pick.{Call, called_macro}
use Rattle.layout_picking.specs.Work.{StepValue, steps_view, all_done, AllFit, element_done, plain_done, weight, work}

-- what is read of an input, where entries answer so
abbrev pub env_in : {T : Type 0} → (T → Answers) → Input T → Env
env_in answers input = env_of (answers input.entry.now) input.setting

-- what calls of macros give there, at each depth
abbrev pub calls_in : {T : Type 0} → (T → Answers) → Input T → ℕ → Call
calls_in answers input = called_macro (env_in answers input) (macros_in input.setting)

-- once a number, a date or names are picked there
abbrev pub plain_in : {T : Type 0} → (T → Answers) → Input T → LayoutRenderingElement → Held → Held
plain_in answers input e = plain_done (env_in answers input) (element_view e)

-- the text of a target and a shape
abbrev pub text_of : Target → Shape → Element
text_of target s = text_element target s.quotes s.strip_periods (shape_look s)

-- where a walk is: the steps that are still to be done, and what is held
pub record Walk : Type 0 where
  pub steps : List StepValue
  pub held : Held

abbrev pub walk : List Step → Held → Walk
walk steps h = record { steps = steps_view steps; held = h }

-- a walk goes on from one place to another that comes to the same
pub record WalkGoesOn (env : Env) (macros : List Macro) (limit : ℕ) (old new : Walk) : Type 0 where
  -- the same is held in the end
  pub done : all_done env macros new.steps new.held ≡ all_done env macros old.steps old.held
  -- where each of the old steps fits in its turn, so does each of the new ones
  pub fit : AllFit env macros old.steps old.held → AllFit env macros new.steps new.held
  -- less work is left than there was and the limit together
  pub falls : work macros new.steps < work macros old.steps + limit

-- a walk goes on behind an element that was picked there
abbrev pub TakesElement : Env → List Macro → ℕ → Element → Walk → Walk → Type 0
TakesElement env macros depth e old new =
    WalkGoesOn env macros (2 * weight macros depth e)
    (record old { held = element_done env macros depth e old.held }) new
