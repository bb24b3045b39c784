-- How the state of an entry advances from one round to the next.
use Rattle.std.specs.Prelude.{◌≡◌, ◌⊎◌, ℕ, ◌+◌, ◌*◌, ◌<◌, ◌≤◌, List, length, sum_by}
use Rattle.std.specs.List.{AllZip}
use Rattle.value_sources.specs.declared.names.DisambiguatedNameForm.{DisambiguatedNameForm}
use Rattle.value_sources.specs.Ordered.{extent}
use Rattle.driver_lookup.specs.States.{forms_of, greater, kind_of}
use Rattle.driver_lookup.specs.declared.state.DisambiguateState.{DisambiguateState}

-- the later forms are as many, and none writes less of its name
abbrev pub NoFormFalls : List DisambiguatedNameForm → List DisambiguatedNameForm → Type 0
NoFormFalls = AllZip (λ a b. extent a ≤ extent b)

-- a state goes on to a later one: its kind goes up or stays in the order none, names, choice,
-- suffix; from names to names no form falls; and a suffix stays
abbrev pub GoesOnTo : DisambiguateState → DisambiguateState → Type 0
GoesOnTo (DisambiguateState.NameDisambiguation forms) (DisambiguateState.NameDisambiguation later) =
    NoFormFalls forms.forms later.forms
GoesOnTo (DisambiguateState.YearSuffix suffix) (DisambiguateState.YearSuffix later) = suffix ≡ later
GoesOnTo s m = kind_of s ≤ kind_of m

-- how far a state has come, where no state of names has more than this many forms
abbrev pub rank : ℕ → DisambiguateState → ℕ
rank most DisambiguateState.None = 0
rank most (DisambiguateState.NameDisambiguation forms) = 1 + sum_by extent forms.forms
rank most DisambiguateState.Choose = 3 * most + 2
rank most (DisambiguateState.YearSuffix suffix) = 3 * most + 3

-- a state goes on to itself, and where it goes on twice it does so at once
abbrev pub GoesOn : Type 0
GoesOn = ((s : DisambiguateState) → GoesOnTo s s)
    × ((a b c : DisambiguateState) → GoesOnTo a b → GoesOnTo b c → GoesOnTo a c)

-- the greater of two states is one of them
abbrev pub GreaterIsOne : Type 0
GreaterIsOne = (a b : DisambiguateState) → (greater a b ≡ a) ⊎ (greater a b ≡ b)

-- a state that goes on to another than itself comes farther
abbrev pub GoesFarther : Type 0
GoesFarther = (most : ℕ) (s m : DisambiguateState) → length (forms_of s).forms ≤ most
    → GoesOnTo s m → (s ≡ m)
    ⊎ (rank most s < rank most m)
