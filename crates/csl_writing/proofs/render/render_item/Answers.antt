use Rattle.std.proofs.Common.{◌∙◌, ap, arith, length}
use Rattle.std.specs.Prelude.{true}
use Rattle.value_styles.specs.ElementView.{options_view}
use Rattle.value_styles.specs.StyleView.{bibliography_view}
use Rattle.layout_picking.specs.declared.notes.Form.{Form}
use Rattle.csl_writing.specs.Sections.{item_section}
use Rattle.driver_lookup.specs.SourceView.{lookup_view}
use Rattle.layout_context.specs.Steps.{term_text}
use Rattle.csl_writing.specs.SubjectView.{subject_view}
use Rattle.layout_context.specs.Wording.{suffixed}
use Rattle.layout_context.specs.WritingState.{state, prefixed}
use Rattle.csl_writing.proofs.ItemSteps.{item_flushes, item_rendered}
use Rattle.csl_writing.proofs.render.render_item.Goals as goal

pub apply_suffix-requires : goal.apply_suffix-requires
apply_suffix-requires g c =
    let value = item_section (subject_view g.T.EntryLike.answers c.args.subject.now) (bibliography_view c.args.bibliography.now) Form.Full true c.first_notes-notes.result in
    let inside = c.in_ok-_noted.ensures value c.in_ok-section.ensures in
    omega (arith, inside.frames, c.in_ok-prefix.ensures.frames, c.in_ok-prefix.ensures.height)

pub flush_apart-requires : goal.flush_apart-requires
flush_apart-requires g c =
    let value = item_section (subject_view g.T.EntryLike.answers c.args.subject.now) (bibliography_view c.args.bibliography.now) Form.Full true c.first_notes-notes.result in
    let inside = c.in_ok-_noted.ensures value c.in_ok-section.ensures in
    item_flushes (lookup_view c.args.subject.now.context) _ (options_view c.args.subject.now.context.style.now.settings.options) _ _ (state c.in_spare_memory-writing.result) (state c.begin_prefix.new.writing) (state c.write_section.new.writing) (state c.apply_suffix.new.writing)
    c.in_spare_memory-writing.ensures c.in_ok-prefix.ensures.formats c.in_ok-prefix.ensures.same_formats inside.formats c.in_ok-apply_suffix.ensures.done

pub returns : goal.returns
returns g c =
    let k = lookup_view c.args.subject.now.context in
    let a = state c.in_spare_memory-writing.result in
    let d = state c.write_section.new.writing in
    let h = c.in_ok-prefix.prefix.0.formats in
    let n = c.in_ok-prefix.prefix.1 in
    item_rendered (subject_view g.T.EntryLike.answers c.args.subject.now) (bibliography_view c.args.bibliography.now) c.in_ok-section.section
    a (state c.begin_prefix.new.writing) d (state c.apply_suffix.new.writing) h n c.first_notes-notes.result c.in_ok-_noted._noted c.in_ok-tree.tree
    c.in_spare_memory-writing.ensures c.first_notes-notes.ensures c.in_ok-section.ensures c.in_ok-prefix.ensures.formats
    (c.in_ok-prefix.ensures.offset ∙ ap (λ x. length (term_text x)) c.as_deref-before.ensures.value)
    (c.in_ok-prefix.ensures.done ∙ ap (λ x. prefixed x a) c.as_deref-before.ensures.value)
    c.in_ok-_noted.ensures
    (c.in_ok-apply_suffix.ensures.done ∙ ap (λ x. suffixed k x h n d) c.as_deref-behind.ensures.value)
    c.in_ok-tree.ensures
