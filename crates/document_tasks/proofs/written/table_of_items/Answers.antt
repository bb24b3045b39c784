-- Each task that is read has its tree, or none yet; else nothing is read.
use Rattle.std.proofs.Common.{◌+◌, [], ◌∷◌, ◌++◌, true, drop, ap, sym, ◌∙◌}
use Rattle.document_requests.proofs.Pairs.{fails_none}
use Rattle.serde_json.specs.View.{items_view}
use Rattle.host_memo.specs.declared.key.TaskKey.{TaskKey}
use Rattle.driver_writers.specs.declared.cite.Cite.{Cite}
use Rattle.document_values.proofs.Progress.{Progress, Progress-more}
use Rattle.document_values.specs.Words.{all_items}
use Rattle.document_tasks.specs.Known.{knows}
use Rattle.document_tasks.specs.WrittenForm.{has_tree, with_first_tree, written_form}
use Rattle.document_tasks.proofs.Tables.{one_more, one_more_found, two_trees}
use Rattle.document_tasks.proofs.written.table_of_items.Goals as goal

pub returns-then-not-agrees-clause-read : goal.returns-then-not-agrees-clause-read
returns-then-not-agrees-clause-read c =
    let items = c.args.items.now in
    let place = c.loop-place.place in
    let so_far = c.loop-place.invariant in
    let w : TaskKey × Cite = (c.in-Ok.key, c.in-Ok.cite) in
    let more : Progress (written_form (knows c.args.known.now)) items (place + 1) (so_far.written ++ w ∷ []) =
    Progress-more (written_form (knows c.args.known.now)) items place so_far.written c.index-items-place.result w c.loop-place-test.true c.index-items-place.is c.in-Ok.ensures.read so_far.so_far in
    fails_none c.in_item.result _
    (two_trees so_far.written w (all_items (written_form (knows c.args.known.now)) (items_view (drop (place + 1) items))) (all_items (written_form (knows c.args.known.now)) (items_view items))
    (ap (λ t. has_tree (t w.0) w.1 true) (sym so_far.first) ∙ sym c.agrees.ensures ∙ c.if-not-agrees.true) more)

pub loop-place-preserved : goal.loop-place-preserved
loop-place-preserved c =
    let so_far = c.loop-place.invariant in
    let w : TaskKey × Cite = (c.in-Ok.key, c.in-Ok.cite) in
    record {
      written = so_far.written ++ w ∷ [];
      so_far = Progress-more (written_form (knows c.args.known.now)) c.args.items.now c.loop-place.place so_far.written c.index-items-place.result w c.loop-place-test.true c.index-items-place.is c.in-Ok.ensures.read so_far.so_far;
      first = c.in_ok-add-in-Ok.ensures ∙ ap (with_first_tree w) so_far.first ∙ one_more_found so_far.written w;
      one_tree = one_more so_far.written w so_far.one_tree
          (ap (λ t. has_tree (t w.0) w.1 true) (sym so_far.first) ∙ sym c.agrees.ensures ∙ c.if-not-agrees.false);
    }
