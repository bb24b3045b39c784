-- A change at the end of the list of children.
use Rattle.std.proofs.Common.{length, ap, ◌∙◌, sym, false}
use Rattle.std.specs.Option.{option_map_or, option_and_then}
use Rattle.layout_context.specs.Cuts.{cut}
use Rattle.layout_context.specs.OpenFrames.{end_sole_text, on_end_sole_text, on_sole_text, filled, on_filled}
use Rattle.layout_context.specs.Steps.{ends_quoted, pulled}
use Rattle.layout_context.specs.Quotes.{quotes_view}
use Rattle.layout_context.proofs.CutSteps.{same_height}
use Rattle.layout_context.proofs.OpenSteps.{filled_cut, on_last_child-end, seen_filled, end_sole_text-seen, done_along, moved_along}
use Rattle.layout_context.proofs.flat.FlatFrames.pull_in_filled.Goals as goal

pub returns-clause-moved : goal.returns-clause-moved
returns-clause-moved c =
    let q = ends_quoted (quotes_view c.args.quotes) in
    let seen = sym (seen_filled end_sole_text end_sole_text-seen c.self.inside.counts.items c.self.inside.children) ∙ ap (λ F. option_and_then end_sole_text (filled F)) c.self.view_is in
    moved_along c.pull_in_tree.result _ _ (ap (λ o. option_map_or q o false) seen) c.pull_in_tree.ensures.moved

pub returns-clause-done : goal.returns-clause-done
returns-clause-done c =
    let g = pulled (quotes_view c.args.quotes) c.args.mark.now in
    let f = on_end_sole_text g in
    let ns = c.self.inside.counts.items in
    done_along c.pull_in_tree.result (cut ns) _ _ _ (filled_cut f (on_last_child-end (on_sole_text g)) ns c.self.inside.children ∙ ap (on_filled f) c.self.view_is) c.pull_in_tree.ensures.tree

pub returns-clause-height : goal.returns-clause-height
returns-clause-height c = same_height c.self.inside.counts.items _ c.self.inside.children ∙ ap length c.self.view_is
