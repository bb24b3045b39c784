-- What is told of names has as many forms as the names.
use Rattle.std.proofs.Common.{◌≡◌, length, take, drop, Option, Some, None, arith, length-append, length-drop, refl, ◌∙◌}
use Rattle.std.specs.Prelude.{slice_get}
use Rattle.std.specs.List.{enumerate_from}
use Rattle.std.proofs.Math.ListN.{length-map}
use Rattle.std.proofs.lemmas.List.{length-take}
use Rattle.std.proofs.lemmas.List.FromFn.{length-enumerate_from}
use Rattle.value_sources.specs.Forms.{Forms}
use Rattle.value_sources.specs.declared.names.NameDisambiguationProperties.{NameDisambiguationProperties}
use Rattle.driver_lookup.specs.declared.state.DisambiguateState.{DisambiguateState}
use Rattle.driver_lookup.specs.Means.{at_least, forms_in, told_forms, raised_forms}

as_many_raised : (least forms : Forms) → length (raised_forms least forms) ≡ length forms
as_many_raised least forms =
    length-map (enumerate_from 0 forms) (λ p. at_least (slice_get least p.0) p.1) ∙ length-enumerate_from 0 forms

as_many_in : (s : DisambiguateState) (forms : Forms) → length (forms_in s forms) ≡ length forms
as_many_in (DisambiguateState.NameDisambiguation own) forms =
    omega (arith, length-append (take (length forms) own.forms) (drop (length own.forms) forms), length-take (length forms) own.forms, length-drop (length own.forms) forms)
as_many_in DisambiguateState.None forms = refl
as_many_in DisambiguateState.Choose forms = refl
as_many_in (DisambiguateState.YearSuffix n) forms = refl

pub as_many_told : (least : Option NameDisambiguationProperties) (s : DisambiguateState) (forms : Forms) → length (told_forms least s forms) ≡ length forms
as_many_told (Some least) s forms = as_many_raised least.forms forms
as_many_told None s forms = as_many_in s forms
