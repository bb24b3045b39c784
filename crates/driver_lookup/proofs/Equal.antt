-- The derived tests of equality on states, locators and properties find what is equal.
use Rattle.std.specs.Prelude.{◌≡◌, true, refl}
use Rattle.std.specs.Cmp.{booleans_Decides, unsigned_Decides}
use Rattle.std.proofs.Common.{ap, sym, true≢false}
use denote.Enum.Bare.{same_true, true_same}
use Rattle.value_sources.specs.Finds.{Finds, both, and-true, finds, lists_find, options_find}
use Rattle.value_sources.specs.contracts.names.DisambiguatedNameForm as form
use Rattle.value_sources.specs.contracts.names.DisambiguatedNameFormPartialEq.TheImpl as form_eq
use Rattle.value_sources.specs.contracts.names.NameDisambiguationPropertiesPartialEq.TheImpl as names_eq
use Rattle.driver_lookup.specs.declared.state.DisambiguateState.{DisambiguateState}
use Rattle.driver_lookup.specs.contracts.means.MeansPartialEq.TheImpl as means_eq
use Rattle.driver_lookup.specs.contracts.properties.CertainCitePropertiesPartialEq.TheImpl as certain_eq
use Rattle.driver_lookup.specs.contracts.state.IbidState as ibid
use Rattle.driver_lookup.specs.contracts.state.IdentifierUsage as usage
use Rattle.driver_lookup.specs.contracts.state.IbidStatePartialEq.TheImpl as ibid_eq
use Rattle.driver_lookup.specs.contracts.state.IdentifierUsagePartialEq.TheImpl as usage_eq
use Rattle.driver_lookup.specs.contracts.state.DisambiguateStatePartialEq.TheImpl as state_eq

forms_find : Finds (form_eq.ghosts).eq
forms_find = record { equal = λ a b e. same_true form.the_type tt a b e; self = λ a. true_same form.the_type a a refl }

names_find : Finds (names_eq.ghosts).eq
names_find = record {
  equal = λ a b e. λ i. record { forms = (lists_find forms_find).equal a.forms b.forms e i };
  self = λ a. (lists_find forms_find).self a.forms;
}

pub ibid_find : Finds (ibid_eq.ghosts).eq
ibid_find = record { equal = λ a b e. same_true ibid.the_type tt a b e; self = λ a. true_same ibid.the_type a a refl }

pub usage_find : Finds (usage_eq.ghosts).eq
usage_find = record { equal = λ a b e. same_true usage.the_type tt a b e; self = λ a. true_same usage.the_type a a refl }

pub states_find : Finds (state_eq.ghosts).eq
states_find = record { equal = equal; self = self }
  where
    equal : (a b : DisambiguateState) → (state_eq.ghosts).eq a b ≡ true → a ≡ b
    equal DisambiguateState.None DisambiguateState.None e = refl
    equal (DisambiguateState.NameDisambiguation x) (DisambiguateState.NameDisambiguation y) e = ap DisambiguateState.NameDisambiguation (names_find.equal x y e)
    equal DisambiguateState.Choose DisambiguateState.Choose e = refl
    equal (DisambiguateState.YearSuffix m) (DisambiguateState.YearSuffix n) e = ap DisambiguateState.YearSuffix ((unsigned_Decides m n).0 e)
    equal _ _ e = absurd (true≢false (sym e))

    self : (a : DisambiguateState) → (state_eq.ghosts).eq a a ≡ true
    self DisambiguateState.None = refl
    self (DisambiguateState.NameDisambiguation x) = names_find.self x
    self DisambiguateState.Choose = refl
    self (DisambiguateState.YearSuffix m) = (unsigned_Decides m m).1 refl

pub means_find : Finds (means_eq.ghosts).eq
means_find =
    let names = options_find names_find in
    let numbers = options_find (finds unsigned_Decides) in
    let truths = finds booleans_Decides in
    record {
      equal = λ a b e.
          let p = both _ _ e in let q = both _ _ p.1 in
          λ i. record {
            names = names.equal a.names b.names p.0 i;
            choose = truths.equal a.choose b.choose q.0 i;
            suffix = numbers.equal a.suffix b.suffix q.1 i;
          };
      self = λ a. and-true _ _ (names.self a.names) (and-true _ _ (truths.self a.choose) (numbers.self a.suffix));
    }

pub certain_find : Finds (certain_eq.ghosts).eq
certain_find =
    let numbers = finds unsigned_Decides in
    let notes = options_find numbers in
    let truths = finds booleans_Decides in
    record {
      equal = λ a b e.
          let p = both _ _ e in let q = both _ _ p.1 in let r = both _ _ q.1 in let s = both _ _ r.1 in
          λ i. record {
            note_number = notes.equal a.note_number b.note_number p.0 i;
            first_note_number = notes.equal a.first_note_number b.first_note_number q.0 i;
            is_near_note = truths.equal a.is_near_note b.is_near_note r.0 i;
            is_first = truths.equal a.is_first b.is_first s.0 i;
            initial_idx = numbers.equal a.initial_idx b.initial_idx s.1 i;
          };
      self = λ a.
          and-true _ _ (notes.self a.note_number)
          (and-true _ _ (notes.self a.first_note_number)
          (and-true _ _ (truths.self a.is_near_note)
          (and-true _ _ (truths.self a.is_first) (numbers.self a.initial_idx))));
    }
