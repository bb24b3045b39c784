-- An object without keys is a citation, so that reading it refuses no document.
use Rattle.std.proofs.Common.{◌≡◌, ℕ, BTreeMap, List, [], Option, Some, None, Result, Ok, Err, ap, ◌∙◌}
use Rattle.std.specs.Prelude.{String}
use Rattle.std.specs.declared.alloc.Global.{Global}
use Rattle.serde_json.proofs.Views.{view-Object}
use Rattle.serde_json.specs.Data.{Data, object, no_members}
use Rattle.serde_json.specs.View.{view, members_view}
use Rattle.serde_json.specs.declared.value.Value.{Value}
use Rattle.serde_json.specs.declared.value.Value.TheVariants.{Object}
use Rattle.value_styles.specs.Style.{CitationValue}
use Rattle.document_values.specs.Reads.{Faults, Reads}
use Rattle.document_values.specs.declared.error.ReadError.{ReadError}
use Rattle.document_values.specs.declared.error.ReadError.TheVariants as errors
use Rattle.document_driven.specs.DrivenStyles.{affixes_form, driven_citation_form}

unrefused : {X Y : Type 0} (view : X → Y) (result : Result X ReadError) (o : Option Y) (y : Y) (d : Data)
    → o ≡ Some y → Reads view result o → Faults result d
unrefused view (Ok x) o y d e h = tt
unrefused view (Err (errors.Document fault)) o y d e h = cc
unrefused view (Err errors.OutOfMemory) o y d e h = tt

is_citation : (name : List ℕ) → (c : CitationValue) × (driven_citation_form name (object no_members) ≡ Some c)
unfolding driven_citation_form affixes_form
is_citation name = (_, λ i. driven_citation_form name (object no_members))

pub empty_unrefused : {X : Type 0} (seen : X → CitationValue) (name : List ℕ) (result : Result X ReadError)
    (members : BTreeMap (String Global) Value) (d : Data)
    → members.entries ≡ [] → Reads seen result (driven_citation_form name (view (Object members))) → Faults result d
empty_unrefused seen name result members d e h =
    let there = is_citation name in
    unrefused seen result _ there.0 d
    (ap (driven_citation_form name) (view-Object members) ∙ ap (λ es. driven_citation_form name (object (members_view es))) e ∙ there.1) h
