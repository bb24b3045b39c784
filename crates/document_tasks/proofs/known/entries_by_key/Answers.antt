-- An entry whose key is there already changes nothing; another one is put in.
use Rattle.std.proofs.Common.{refl, ap, sym, ◌∙◌, take_all}
use Rattle.std.proofs.lemmas.Map.Text.{btree_map_updates_str}
use Rattle.document_requests.specs.Entries.{entry_named}
use Rattle.document_requests.specs.Finders.{text_in}
use Rattle.document_requests.proofs.FirstKeyed.{found-itself, kept_at, added_at}
use Rattle.document_tasks.proofs.known.entries_by_key.Goals as goal
use Rattle.document_tasks.proofs.known.entries_by_key.Goals.{then-not-contains_key+in_ok-insert, else-not-contains_key}

pub loop-entry-preserved : goal.loop-entry-preserved
loop-entry-preserved c =
    elim c.if-not-contains_key.branch [
      | then-not-contains_key+in_ok-insert w ↦
          added_at (λ e. e.key) (λ e. e) text_in (λ r. r.now) c.args.entries.now c.loop-entry.entry-index c.entry-item.result c.as_str-key.result.now
          c.loop-entry.by_key c.if-not-contains_key.by_key w.insert.new.self _
          c.loop-entry-test.true c.entry-item.is c.as_str-key.ensures refl w.by_key-is c.loop-entry.invariant
          (sym c.contains_key.ensures ∙ w.if-not-contains_key.true)
          (btree_map_updates_str c.as_str-key.result.now c.loop-entry.by_key w.insert.new.self _ w.in_ok-insert.ensures.updates)
      | else-not-contains_key w ↦
          kept_at (λ e. e.key) (λ e. e) text_in (λ r. r.now) c.args.entries.now c.loop-entry.entry-index c.entry-item.result c.as_str-key.result.now
          c.loop-entry.by_key c.if-not-contains_key.by_key
          c.loop-entry-test.true c.entry-item.is c.as_str-key.ensures w.by_key-is c.loop-entry.invariant
          (sym c.contains_key.ensures ∙ w.if-not-contains_key.false)
    ]

pub returns : goal.returns
returns c =
    λ i key. (c.loop-entry.invariant key ∙ found-itself (λ e. e.key) _ key
    ∙ ap (λ es. entry_named es key) (take_all c.loop-entry.entry-index c.args.entries.now c.loop-entry-test.false)) i
