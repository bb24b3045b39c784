-- A style whose name is there already changes nothing; the index of another one is put in.
use Rattle.std.proofs.Common.{◌≡◌, Option, Some, None, length, slice_get, refl, ap, sym, ◌∙◌, string_bytes, take, take_all}
use Rattle.std.specs.Prelude.{find, option_map}
use Rattle.std.specs.Str.{bytes_eq}
use Rattle.std.proofs.lemmas.Map.Text.{btree_map_updates_str}
use Rattle.std.proofs.lemmas.Option.{slice_get-map, slice_get_read}
use Rattle.value_styles.specs.StyleView.{style_view}
use Rattle.document_requests.specs.Finders.{text_in}
use Rattle.document_requests.specs.FoundView.{unnamed}
use Rattle.document_styles.specs.NamedStyleView.{named_styles_view}
use Rattle.document_styles.specs.Styles.{style_named}
use Rattle.document_styles.specs.declared.styles.NamedStyle.{NamedStyle}
use Rattle.document_requests.proofs.FirstKeyed.{found-pairs, kept_at, added_at}
use Rattle.document_requests.proofs.finders.style_indexes.Goals as goal
use Rattle.document_requests.proofs.finders.style_indexes.Goals.{then-not-contains_key+in_ok-insert, else-not-contains_key}

pub loop-index-preserved : goal.loop-index-preserved
loop-index-preserved c =
    let styles = c.args.styles.now in
    let at = c.loop-index.index in
    let named = c.index-styles-index.result in
    elim c.if-not-contains_key.branch [
      | then-not-contains_key+in_ok-insert w ↦
          added_at (λ s. string_bytes s.name) (λ s. Some (style_view s.style)) text_in (slice_get (unnamed styles)) styles at named c.as_str-name.result.now
          c.loop-index.by_name c.if-not-contains_key.by_name w.insert.new.self _
          c.loop-index-test.true c.index-styles-index.is c.as_str-name.ensures.value
          (slice_get-map (λ s. style_view s.style) styles at
          ∙ ap (option_map (λ s. style_view s.style)) (slice_get_read styles (length styles) at named refl c.loop-index-test.true c.index-styles-index.is))
          w.by_name-is c.loop-index.invariant
          (sym c.contains_key.ensures ∙ w.if-not-contains_key.true)
          (btree_map_updates_str c.as_str-name.result.now c.loop-index.by_name w.insert.new.self _ w.in_ok-insert.ensures.updates)
      | else-not-contains_key w ↦
          kept_at (λ s. string_bytes s.name) (λ s. Some (style_view s.style)) text_in (slice_get (unnamed styles)) styles at named c.as_str-name.result.now
          c.loop-index.by_name c.if-not-contains_key.by_name
          c.loop-index-test.true c.index-styles-index.is c.as_str-name.ensures.value w.by_name-is c.loop-index.invariant
          (sym c.contains_key.ensures ∙ w.if-not-contains_key.false)
    ]

-- what is found, and then its style
later : (o : Option NamedStyle) → option_map (λ s. Some (style_view s.style)) o ≡ option_map Some (option_map (λ s. style_view s.style) o)
later None = refl
later (Some s) = refl

pub returns : goal.returns
returns c = λ name.
    let before = take c.loop-index.index c.args.styles.now in
    c.loop-index.invariant name
    ∙ later (find (λ s. bytes_eq (string_bytes s.name) name) before)
    ∙ ap (option_map Some) (found-pairs {A = NamedStyle} (λ s. string_bytes s.name) (λ s. style_view s.style) before name)
    ∙ ap (λ ss. option_map Some (style_named (named_styles_view ss) name)) (take_all c.loop-index.index c.args.styles.now c.loop-index-test.false)
