-- A cite from what is written and noted of it.
use Rattle.std.proofs.Common.{◌≡◌, Bool, ◌&&◌, List, [], Option, Some, ap, sym, ◌∙◌}
use Rattle.std.specs.Prelude.{is_some, unwrap_or}
use Rattle.value_sources.specs.Answers.{Answers}
use Rattle.value_trees.specs.Child.{Child}
use Rattle.layout_picking.specs.declared.notes.Notes.{Notes}
use Rattle.driver_lookup.specs.declared.purpose.CitePurpose.{CitePurpose}
use Rattle.driver_lookup.specs.declared.state.CollapseVerdict.{CollapseVerdict}
use Rattle.csl_writing.specs.CiteText.{arranged, rendered_cite}
use Rattle.layout_picking.specs.Env as env
use Rattle.driver_lookup.specs.Lookup.{Source, lookup}
use Rattle.layout_picking.specs.Notes.{first_notes}
use Rattle.csl_writing.specs.Plans.{cite_plan}
use Rattle.driver_lookup.specs.Properties.{Properties}
use Rattle.csl_writing.specs.StepsWritten.{steps_written, finished, tree_of, IsCarriedOut}
use Rattle.csl_writing.specs.Subject.{Subject, subject, cite_of}
use Rattle.driver_styles.specs.SuffixText.{explicit_suffix}
use Rattle.layout_context.specs.WritingState.{State, begun, flushed}

-- a flushed tree is the finished one
pub tree_finished : (a : State) (tree : List Child) → flushed a ≡ Some tree → tree ≡ finished a
tree_finished a tree e = sym (ap (λ (o : Option (List Child)). unwrap_or o []) e)

pub cite_rendered : (s : Subject) (purpose : Option CitePurpose) (verdict : Option CollapseVerdict) (a b : State) (n : Notes) (tree children : List Child)
    → a ≡ begun s.source.style.options
    → IsCarriedOut (lookup s.source) (cite_plan s purpose verdict (first_notes s.cite.usage)) a b n
    → flushed b ≡ Some tree → children ≡ arranged s.source.style purpose tree
    → (record { children = children; checked_disambiguate = n.checked_disambiguate; first_name = n.first_name; identifier_usage = n.usage })
    ≡ rendered_cite s purpose verdict
cite_rendered s purpose verdict a b n tree children start done out arrangement =
    let plan = cite_plan s purpose verdict (first_notes s.cite.usage) in
    let written : b ≡ steps_written (lookup s.source) plan.steps (begun s.source.style.options) =
    done.written ∙ ap (λ x. steps_written (lookup s.source) plan.steps x) start in
    let whole : children ≡ arranged s.source.style purpose (tree_of s.source plan.steps) =
    arrangement ∙ ap (λ cs. arranged s.source.style purpose cs) (tree_finished b tree out ∙ ap finished written) in
    let noted : n ≡ plan.noted = done.noted in
    λ i. record {
      children = whole i;
      checked_disambiguate = (noted i).checked_disambiguate;
      first_name = (noted i).first_name;
      identifier_usage = (noted i).usage;
    }

-- what is rendered, from its parts
pub subject_known : {P : Type 0} (source : Source) (answers : Answers) (props : Properties P) (c : env.ReadProperties) (writes : Bool)
    → c ≡ cite_of props → writes ≡ (is_some (env.suffix_of (cite_of props)) && explicit_suffix source.style)
    → (record { source = source; answers = answers; cite = c; explicit_suffix = writes }) ≡ subject source answers props
subject_known source answers props c writes e f = λ i. record { source = source; answers = answers; cite = e i; explicit_suffix = f i }
