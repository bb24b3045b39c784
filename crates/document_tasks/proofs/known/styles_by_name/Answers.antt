-- A style whose name is there already changes nothing; another one is put in.
use Rattle.std.proofs.Common.{refl, ap, sym, ◌∙◌, string_bytes, take_all}
use Rattle.std.proofs.lemmas.Map.Text.{btree_map_updates_str}
use Rattle.value_styles.specs.StyleView.{style_view}
use Rattle.document_requests.specs.Finders.{text_in}
use Rattle.document_styles.specs.NamedStyleView.{named_styles_view}
use Rattle.document_styles.specs.Styles.{style_named}
use Rattle.document_styles.specs.declared.styles.NamedStyle.{NamedStyle}
use Rattle.document_requests.proofs.FirstKeyed.{found-pairs, kept_at, added_at}
use Rattle.document_tasks.proofs.known.styles_by_name.Goals as goal
use Rattle.document_tasks.proofs.known.styles_by_name.Goals.{then-not-contains_key+in_ok-insert, else-not-contains_key}

pub loop-named-preserved : goal.loop-named-preserved
loop-named-preserved c =
    elim c.if-not-contains_key.branch [
      | then-not-contains_key+in_ok-insert w ↦
          added_at (λ s. string_bytes s.name) (λ s. style_view s.style) text_in (λ r. style_view r.now.style) c.args.styles.now c.loop-named.named-index c.named-item.result c.as_str-name.result.now
          c.loop-named.by_name c.if-not-contains_key.by_name w.insert.new.self _
          c.loop-named-test.true c.named-item.is c.as_str-name.ensures.value refl w.by_name-is c.loop-named.invariant
          (sym c.contains_key.ensures ∙ w.if-not-contains_key.true)
          (btree_map_updates_str c.as_str-name.result.now c.loop-named.by_name w.insert.new.self _ w.in_ok-insert.ensures.updates)
      | else-not-contains_key w ↦
          kept_at (λ s. string_bytes s.name) (λ s. style_view s.style) text_in (λ r. style_view r.now.style) c.args.styles.now c.loop-named.named-index c.named-item.result c.as_str-name.result.now
          c.loop-named.by_name c.if-not-contains_key.by_name
          c.loop-named-test.true c.named-item.is c.as_str-name.ensures.value w.by_name-is c.loop-named.invariant
          (sym c.contains_key.ensures ∙ w.if-not-contains_key.false)
    ]

pub returns : goal.returns
returns c =
    λ i name. (c.loop-named.invariant name ∙ found-pairs {A = NamedStyle} (λ s. string_bytes s.name) (λ s. style_view s.style) _ name
    ∙ ap (λ ss. style_named (named_styles_view ss) name) (take_all c.loop-named.named-index c.args.styles.now c.loop-named-test.false)) i
