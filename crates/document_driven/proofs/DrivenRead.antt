-- A driven document is read part by part.
use Rattle.std.proofs.Common.{◌≡◌, ℕ, List, [], Option, Some, None, codes, refl, sym, ap, ◌∙◌, subst}
use Rattle.std.specs.Prelude.{IsSome, option_and_then}
use Rattle.serde_json.specs.Data.{Data}
use Rattle.value_styles.specs.Style.{LocaleValue, StyleValue}
use Rattle.value_sources.specs.declared.entry.PlainEntry.{PlainEntry}
use Rattle.driver_writers.specs.declared.cite.Cite.{Cite}
use Rattle.host_memo.specs.declared.key.TaskKey.{TaskKey}
use Rattle.document_requests.specs.Entries.{entry_form, entry_named}
use Rattle.document_requests.specs.Form.{Asked, Document, asked_form, document_of}
use Rattle.document_styles.specs.Styles.{NamedStyle, style_named}
use Rattle.document_values.specs.Words.{items_of_key}
use Rattle.document_driven.specs.DrivenForm.{DrivenDocument, driven_by, driven_document_form, driven_top_form, written_at}
use Rattle.document_driven.specs.DrivenStyles.{driven_styles_form}

then-some : {A B : Type 0} (f : A → Option B) (o : Option A) (x : A) → o ≡ Some x → option_and_then f o ≡ f x
then-some f o x e = ap (option_and_then f) e

-- a document with what was written
abbrev pub with_table : (TaskKey → Option Cite) → Option Document → Option DrivenDocument
with_table table = option_and_then (λ x. Some (record { document = x; table = table }))

module _ (v o : Data) (styles : List NamedStyle) (entries : List PlainEntry) (table : TaskKey → Option Cite) where
  abbrev asked : Option (Asked StyleValue PlainEntry)
  asked = asked_form (style_named styles) (entry_named entries) o

  driven-form : driven_top_form v ≡ Some o → driven_styles_form o ≡ Some styles → items_of_key entry_form (codes "entries") o ≡ Some entries
      → driven_document_form v ≡ driven_by styles entries o
  unfolding driven_document_form
  driven-form t s e = then-some _ (driven_top_form v) o t ∙ then-some _ (driven_styles_form o) styles s ∙ then-some _ (items_of_key entry_form (codes "entries") o) entries e

  -- what is asked for, and then what was written
  abbrev both : Option (Asked StyleValue PlainEntry) → Option (TaskKey → Option Cite) → Option DrivenDocument
  both a written = option_and_then (λ x. option_and_then (λ t. Some (record { document = document_of [] x; table = t })) written) a

  driven-by : written_at styles entries o ≡ Some table → driven_by styles entries o ≡ both asked (Some table)
  unfolding driven_by
  driven-by w = ap (both asked) w

  there : (a : Option (Asked StyleValue PlainEntry)) → IsSome a → IsSome (both a (Some table))
  there None h = cc
  there (Some x) h = refl

  same : (a : Option (Asked StyleValue PlainEntry)) → with_table table (option_and_then (λ x. Some (document_of [] x)) a) ≡ both a (Some table)
  same None = refl
  same (Some x) = refl

  -- what is asked for and what was written make the driven document
  pub driven-read : driven_top_form v ≡ Some o → driven_styles_form o ≡ Some styles → items_of_key entry_form (codes "entries") o ≡ Some entries
      → written_at styles entries o ≡ Some table → (locales : List LocaleValue) → locales ≡ [] → (read : Option (Asked StyleValue PlainEntry)) → IsSome asked → read ≡ asked
      → IsSome (driven_document_form v) × (with_table table (option_and_then (λ x. Some (document_of locales x)) read) ≡ driven_document_form v)
  driven-read t s e w locales none read some is =
      let form = driven-form t s e ∙ driven-by w in (
        subst IsSome (sym form) (there asked some),
        (λ i. with_table table (option_and_then (λ x. Some (document_of (none i) x)) (is i))) ∙ same asked ∙ sym form,
      )
