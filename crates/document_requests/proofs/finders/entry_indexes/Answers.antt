-- An entry whose key is there already changes nothing; the index of another one is put in.
use Rattle.std.proofs.Common.{◌≡◌, Some, length, slice_get, refl, ap, sym, ◌∙◌, take_all}
use Rattle.std.specs.Prelude.{option_map}
use Rattle.std.proofs.lemmas.Map.Text.{btree_map_updates_str}
use Rattle.std.proofs.lemmas.Option.{slice_get_read}
use Rattle.document_requests.specs.Entries.{entry_named}
use Rattle.document_requests.specs.Finders.{text_in}
use Rattle.document_requests.proofs.FirstKeyed.{kept_at, added_at}
use Rattle.document_requests.proofs.finders.entry_indexes.Goals as goal
use Rattle.document_requests.proofs.finders.entry_indexes.Goals.{then-not-contains_key+in_ok-insert, else-not-contains_key}

pub loop-index-preserved : goal.loop-index-preserved
loop-index-preserved c =
    let entries = c.args.entries.now in
    let at = c.loop-index.index in
    let entry = c.index-entries-index.result in
    elim c.if-not-contains_key.branch [
      | then-not-contains_key+in_ok-insert w ↦
          added_at (λ e. e.key) (λ e. Some e) text_in (slice_get entries) entries at entry c.as_str-key.result.now
          c.loop-index.by_key c.if-not-contains_key.by_key w.insert.new.self _
          c.loop-index-test.true c.index-entries-index.is c.as_str-key.ensures
          (slice_get_read entries (length entries) at entry refl c.loop-index-test.true c.index-entries-index.is) w.by_key-is c.loop-index.invariant
          (sym c.contains_key.ensures ∙ w.if-not-contains_key.true)
          (btree_map_updates_str c.as_str-key.result.now c.loop-index.by_key w.insert.new.self _ w.in_ok-insert.ensures.updates)
      | else-not-contains_key w ↦
          kept_at (λ e. e.key) (λ e. Some e) text_in (slice_get entries) entries at entry c.as_str-key.result.now
          c.loop-index.by_key c.if-not-contains_key.by_key
          c.loop-index-test.true c.index-entries-index.is c.as_str-key.ensures w.by_key-is c.loop-index.invariant
          (sym c.contains_key.ensures ∙ w.if-not-contains_key.false)
    ]

pub returns : goal.returns
returns c = λ key. c.loop-index.invariant key ∙ ap (λ es. option_map Some (entry_named es key)) (take_all c.loop-index.index c.args.entries.now c.loop-index-test.false)
