-- One more entry, an index that points to nothing, and the end.
use Rattle.std.proofs.Common.{◌≡◌, ◌∙◌, ap, get_or, slice_get, sym}
use Rattle.std.specs.Prelude.{option_map}
use Rattle.std.proofs.lemmas.Grind.{get_or_default_zero}
use Rattle.std.proofs.lemmas.List.{map-id}
use Rattle.document_requests.specs.Indexes.{each_of}
use Rattle.document_requests.proofs.EachOf.{EachProgress-end, EachProgress-none, EachProgress-pushed}
use Rattle.document_requests.proofs.Got.{got}
use Rattle.document_answer.proofs.filling.entries_at.Goals as goal

pub loop-index-preserved : goal.loop-index-preserved
loop-index-preserved c =
    let entries = c.args.entries.now in
    let k = c.loop-index.index-index in
    let index = get_or c.args.indexes.now k 0 in
    EachProgress-pushed (λ i. i) (slice_get entries) (λ e. e.now) c.args.indexes.now k _ _ index c.in-Some.entry
    c.loop-index-test.true (sym (get_or_default_zero c.args.indexes.now k index c.loop-index-test.true))
    (sym (got entries index c.get.result c.get.ensures.lookup) ∙ ap (option_map (λ e. e.now)) c.in-Some.is)
    c.in_ok-push-in-Some.ensures.items c.loop-index.invariant

pub returns-in-None-clause-missing : goal.returns-in-None-clause-missing
returns-in-None-clause-missing c =
    let entries = c.args.entries.now in
    let k = c.loop-index.index-index in
    let index = get_or c.args.indexes.now k 0 in
    ap (each_of (slice_get entries)) (sym (map-id c.args.indexes.now))
    ∙ EachProgress-none (λ i. i) (slice_get entries) c.args.indexes.now k _ index
    c.loop-index-test.true (sym (get_or_default_zero c.args.indexes.now k index c.loop-index-test.true)) c.loop-index.invariant
    (sym (got entries index c.get.result c.get.ensures.lookup) ∙ ap (option_map (λ e. e.now)) c.in-None.is)

pub returns-clause-entries : goal.returns-clause-entries
returns-clause-entries c =
    ap (each_of (slice_get c.args.entries.now)) (sym (map-id c.args.indexes.now))
    ∙ EachProgress-end (λ i. i) (slice_get c.args.entries.now) c.args.indexes.now c.loop-index.index-index _ c.loop-index-test.false c.loop-index.invariant
