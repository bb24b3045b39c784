-- A document is read part by part.
use Rattle.std.proofs.Common.{◌≡◌, List, Option, Some, None, codes, refl, sym, ap, ◌∙◌, subst}
use Rattle.std.specs.Prelude.{IsSome, option_and_then}
use Rattle.serde_json.specs.Data.{Data}
use Rattle.value_styles.specs.Style.{LocaleValue}
use Rattle.value_sources.specs.declared.entry.PlainEntry.{PlainEntry}
use Rattle.document_requests.specs.Entries.{entry_form, entry_named}
use Rattle.document_requests.specs.Form.{Document, asked_form, document_form, document_of, top_form}
use Rattle.document_styles.specs.Locales.{locale_form}
use Rattle.document_styles.specs.Styles.{NamedStyle, style_named, styles_form}
use Rattle.document_values.specs.Words.{items_of_key, optional_items}

-- what comes of what is there
then-some : {A B : Type 0} (f : A → Option B) (o : Option A) (x : A) → o ≡ Some x → option_and_then f o ≡ f x
then-some f o x e = ap (option_and_then f) e

-- something of what is there is there
pub some-then : {A B : Type 0} (g : A → B) (o : Option A) → IsSome o → IsSome (option_and_then (λ x. Some (g x)) o)
some-then g None h = cc
some-then g (Some x) h = refl

module _ (v o : Data) (styles : List NamedStyle) (locales : List LocaleValue) (entries : List PlainEntry) where
  document-form : top_form v ≡ Some o → styles_form o ≡ Some styles → optional_items locale_form (codes "locales") o ≡ Some locales
      → items_of_key entry_form (codes "entries") o ≡ Some entries
      → document_form v ≡ option_and_then (λ a. Some (document_of locales a)) (asked_form (style_named styles) (entry_named entries) o)
  unfolding document_form
  document-form t s l e = then-some _ (top_form v) o t ∙ then-some _ (styles_form o) styles s
      ∙ then-some _ (optional_items locale_form (codes "locales") o) locales l ∙ then-some _ (items_of_key entry_form (codes "entries") o) entries e

  -- what is asked for makes the document
  pub document-read : top_form v ≡ Some o → styles_form o ≡ Some styles → optional_items locale_form (codes "locales") o ≡ Some locales
      → items_of_key entry_form (codes "entries") o ≡ Some entries → (read : Option Document)
      → IsSome (asked_form (style_named styles) (entry_named entries) o)
      → read ≡ option_and_then (λ a. Some (document_of locales a)) (asked_form (style_named styles) (entry_named entries) o)
      → IsSome (document_form v) × (read ≡ document_form v)
  document-read t s l e read there same =
      let is = document-form t s l e in
      (subst IsSome (sym is) (some-then (document_of locales) (asked_form (style_named styles) (entry_named entries) o) there), same ∙ sym is)
