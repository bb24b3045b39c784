use Rattle.std.proofs.Common.{ap}
use Rattle.value_styles.specs.ElementView.{elements_view}
use Rattle.csl_writing.proofs.SectionSteps.{section_in}
use Rattle.csl_writing.proofs.subject.Subject.item_section.Goals as goal

pub returns : goal.returns
returns g c =
    let layout = c.args.bibliography.now.layout in
    section_in c.pick_section.result layout.formatting _ _ _ _ _ _ c.args.notes c.input-input.ensures.env c.input-input.ensures.macros
    (ap elements_view c.deref.ensures.value) c.pick_section.ensures
