-- What steps of writing make of what is written, and what is written of a plan.
use Rattle.std.specs.Prelude.{◌≡◌, ◌∷◌, List, [], length, unwrap_or}
use Rattle.value_trees.specs.Child.{Child}
use Rattle.value_sources.specs.declared.formatting.StyleFormatting.{StyleFormatting}
use Rattle.layout_picking.specs.declared.notes.Notes.{Notes}
use Rattle.driver_lookup.specs.Lookup.{Source, Lookup, lookup}
use Rattle.layout_picking.specs.Pieces.{Part}
use Rattle.csl_writing.specs.Plans.{PlanStep, section_step, text_step, space_step, Plan}
use Rattle.layout_context.specs.Wording.{pushed}
use Rattle.csl_writing.specs.PartsWritten.{parts_written}
use Rattle.layout_context.specs.WritingState.{State, begun, formatted, unformatted, with_space, flushed}

-- parts in a formatting, which holds for them alone
abbrev pub section_written : Lookup → StyleFormatting → List Part → State → State
section_written k f ps a = unformatted (length a.formats) (parts_written k ps (formatted f a))

abbrev pub step_written : Lookup → PlanStep → State → State
step_written k (section_step f ps) a = section_written k f ps a
step_written k (text_step t) a = pushed k t a
step_written k space_step a = with_space a

-- one behind the other
abbrev pub steps_written : Lookup → List PlanStep → State → State
steps_written k [] a = a
steps_written k (step ∷ steps) a = steps_written k steps (step_written k step a)

-- the finished tree
abbrev pub finished : State → List Child
finished a = unwrap_or (flushed a) []

-- the tree of steps that are written from nothing
abbrev pub tree_of : Source → List PlanStep → List Child
tree_of source steps = finished (steps_written (lookup source) steps (begun source.style.options))

-- for the code: a plan was carried out from a to b; the stacks are as high as before
pub record IsCarriedOut (k : Lookup) (plan : Plan) (a b : State) (notes : Notes) : Type 0 where
  pub written : b ≡ steps_written k plan.steps a
  pub noted : notes ≡ plan.noted
  pub formats : length b.formats ≡ length a.formats
  pub frames : length b.frames ≡ length a.frames

-- for the code: steps were written from a to b; the stacks are as high as before
pub record IsWritten (k : Lookup) (steps : List PlanStep) (a b : State) : Type 0 where
  pub written : b ≡ steps_written k steps a
  pub formats : length b.formats ≡ length a.formats
  pub frames : length b.frames ≡ length a.frames
