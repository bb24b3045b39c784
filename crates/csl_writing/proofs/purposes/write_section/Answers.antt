use Rattle.driver_lookup.specs.SourceView.{lookup_view}
use Rattle.layout_context.specs.WritingState.{state}
use Rattle.csl_writing.proofs.PlanSteps.{section_carried}
use Rattle.csl_writing.proofs.purposes.write_section.Goals as goal

pub returns : goal.returns
returns c =
    section_carried (lookup_view c.args.style.now) c.args.section c.in_ok-mark.mark.height (state c.args.writing.now) (state c.push_format.new.self) (state c.write_pieces.new.writing) (state c.pop_format.new.self)
    c.in_ok-mark.ensures.token c.in_ok-mark.ensures.done c.in_ok-write_pieces.ensures c.in_ok-pop_format.ensures.done
