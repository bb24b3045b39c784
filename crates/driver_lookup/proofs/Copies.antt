-- Copies are equal to what they were made of.
use Rattle.std.proofs.Common.{◌≡◌, refl, ap, Option, Some, None, rules}
use Rattle.std.proofs.lemmas.List.Elements.{same_from_all_zip}
use Rattle.std.specs.Borrow.{RattleType}
use Rattle.std.specs.contracts.prelude.OptionClone.TheImpl as option_clone
use denote.Signature.{static_lft}
use mir.Syntax.{Dict}
use Rattle.value_sources.specs.declared.names.NameDisambiguationProperties.{NameDisambiguationProperties}
use Rattle.value_sources.specs.contracts.names.NameDisambiguationPropertiesClone.TheImpl as names_clone
use Rattle.driver_lookup.specs.declared.locator.LocatorPayload.{LocatorPayload}
use Rattle.driver_lookup.specs.declared.locator.LocatorPayload.TheVariants as payload
use Rattle.driver_lookup.specs.declared.locator.SpecificLocator.{SpecificLocator}
use Rattle.driver_lookup.specs.contracts.locator.LocatorPayloadClone.TheImpl as payload_clone
use Rattle.driver_lookup.specs.contracts.locator.SpecificLocatorClone.TheImpl as locator_clone
use Rattle.driver_lookup.specs.contracts.locator.SpecificLocator.{the_row}
use Rattle.driver_lookup.specs.declared.properties.SpeculativeCiteProperties.{SpeculativeCiteProperties}
use Rattle.driver_lookup.specs.contracts.properties.SpeculativeCitePropertiesClone.TheImpl as speculative_clone
use Rattle.driver_lookup.specs.declared.state.DisambiguateState.{DisambiguateState}
use Rattle.driver_lookup.specs.contracts.state.DisambiguateStateClone.TheImpl as state_clone

names_copied : (x y : NameDisambiguationProperties) → (names_clone.ghosts).is_clone x y → y ≡ x
names_copied x y h = let forms : y.forms ≡ x.forms = search (rules, same_from_all_zip) in λ i. record { forms = forms i }

pub state_copied : (a b : DisambiguateState) → (state_clone.ghosts).is_clone a b → b ≡ a
state_copied DisambiguateState.None DisambiguateState.None h = refl
state_copied (DisambiguateState.NameDisambiguation x) (DisambiguateState.NameDisambiguation y) h = ap DisambiguateState.NameDisambiguation (names_copied x y h)
state_copied DisambiguateState.Choose DisambiguateState.Choose h = refl
state_copied (DisambiguateState.YearSuffix x) (DisambiguateState.YearSuffix y) h = ap DisambiguateState.YearSuffix h
state_copied _ _ h = absurd h

pub payload_copied : (P : RattleType) (d : Dict) (a b : LocatorPayload P.Denot) → (payload_clone.ghosts P d).is_clone a b → b ≡ a
payload_copied P d (payload.Str s) (payload.Str t) h = ap payload.Str h
payload_copied P d (payload.Transparent s) (payload.Transparent t) h = ap payload.Transparent h
payload_copied P d _ _ h = absurd h

pub locator_copied : (P : RattleType) (d : Dict) (a b : SpecificLocator P.Denot) → (locator_clone.ghosts P d).is_clone a b → b ≡ a
locator_copied P d a b h = let kind : b.0 ≡ a.0 = search rules in let payload = payload_copied P d a.1 b.1 h.1 in λ i. record { 0 = kind i; 1 = payload i }

pub some_locator_copied : (P : RattleType) (d e i : Dict) (a b : Option (SpecificLocator P.Denot)) → (option_clone.ghosts (the_row static_lft P) (locator_clone.ghosts P d) e i).is_clone a b → b ≡ a
some_locator_copied P d e i None None h = refl
some_locator_copied P d e i (Some x) (Some y) h = ap Some (locator_copied P d x y h)
some_locator_copied P d e i _ _ h = absurd h

pub speculative_copied : (P : RattleType) (d : Dict) (a b : SpeculativeCiteProperties P.Denot) → (speculative_clone.ghosts P d).is_clone a b → b ≡ a
speculative_copied P d a b h =
    let number : b.citation_number ≡ a.citation_number = search rules in
    let ibid : b.ibid ≡ a.ibid = search rules in
    let usage : b.identifier_usage ≡ a.identifier_usage = search rules in
    let state = state_copied a.disambiguation b.disambiguation h.1.1.1.0 in
    let means : b.means ≡ a.means = h.1.1.1.1.0 in
    let locator = some_locator_copied P d d d a.locator b.locator h.0 in
    λ i. record { locator = locator i; citation_number = number i; ibid = ibid i; disambiguation = state i; means = means i; identifier_usage = usage i }
