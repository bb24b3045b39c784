-- For the code: the persons of the members of a group, by the names that they share.
use Rattle.std.specs.Prelude.{◌≡◌, Bool, not, true, false, ◌&&◌, ◌||◌, List, [], ◌∷◌, ◌++◌, None, Some, Vec, bytes_eq, if◌then◌else◌}
use Rattle.std.specs.BTreeMap.{BTreeMap, get}
use Rattle.std.specs.List.{flat_map, list_any}
use Rattle.std.specs.Option.{option_eq, option_map_or}
use Rattle.std.specs.declared.alloc.Global.{Global}
use Rattle.std.specs.declared.cmp.Ordering.{Ordering}
use Rattle.value_sources.specs.Initials.{given_initials}
use Rattle.value_sources.specs.declared.entry.Person.{Person}
use Rattle.value_sources.specs.declared.names.DisambiguatedNameForm.{DisambiguatedNameForm}
use Rattle.driver_passes.specs.Renders.{Place}
use Rattle.rounds_names.specs.Persons.{same_person}
use Rattle.rounds_names.specs.Steps.{same_place}
use Rattle.rounds_names.specs.contracts.by_name.SharedNameOrd.TheImpl as name_ord
use Rattle.rounds_names.specs.declared.by_name.Holder.{Holder}
use Rattle.rounds_names.specs.declared.by_name.SharedName.{SharedName}
use Rattle.rounds_names.specs.declared.named_cite.NamedCite.{NamedCite}

abbrev pub same_name : SharedName → SharedName → Bool
same_name a b = bytes_eq a.name b.name && option_eq bytes_eq a.initials b.initials

abbrev pub name_cmp : SharedName → SharedName → Ordering
name_cmp = (name_ord.ghosts).cmp

abbrev pub by_family : Person → SharedName
by_family p = record { name = p.name; initials = None }

abbrev pub by_initials : Person → SharedName
by_initials p = record { name = p.name; initials = Some (given_initials p.given_name) }

-- another person than p is held elsewhere than at this place
abbrev pub is_other : Person → Place → Holder → Bool
is_other p place h = not (same_person p h.person) && not (same_place place h.place)

abbrev pub is_other_held : Person → Place → List Holder → Bool
is_other_held p place holders = list_any (is_other p place) holders

-- also by this name
abbrev pub is_other_named : SharedName → Person → Place → List (SharedName × Holder) → Bool
is_other_named name p place shown = list_any (λ e. same_name name e.0 && is_other p place e.1) shown

-- the names of a person of a member at a place
abbrev pub names_of : Place → Person → List (SharedName × Holder)
names_of place p = let h : Holder = record { person = p; place = place } in
    (by_family p, h) ∷ (by_initials p, h) ∷ []

-- the persons of members, with their names
abbrev pub shown_by : NamedCite → List (SharedName × Holder)
shown_by x = flat_map (names_of x.place) x.persons

abbrev pub shown_by_all : List NamedCite → List (SharedName × Holder)
shown_by_all group = flat_map shown_by group

-- one more who holds the person at this place changes no answer
abbrev pub IsTold : Person → Place → List Holder → Type 0
IsTold q place hs = (p : Person) (other : Place) → same_person p q ≡ false
    → same_place other place ≡ false
    → is_other_held p other hs ≡ true

-- the holders tell of each other person, at another place than this, what one more who holds
-- `added` here would
abbrev pub TellWithout : Person → Person → Place → List Holder → Type 0
TellWithout p added place hs = same_person p added ≡ false → (other : Place)
    → same_place other place ≡ false
    → is_other_held p other hs ≡ true

-- the holders tell of each person but `added`, elsewhere than at a place, what one more who holds
-- `added` here would
abbrev pub TellElsewhere : Place → Person → Place → List Holder → Type 0
TellElsewhere elsewhere added place hs = same_place elsewhere place ≡ false → (p : Person)
    → same_person p added ≡ false → is_other_held p elsewhere hs ≡ true

-- after a person at a place was added to holders of the same name
abbrev pub Grows : Person → Place → List Holder → List Holder → Type 0
Grows q place old new = (p : Person) (other : Place)
    → is_other_held p other new
    ≡ (is_other_held p other old || is_other p other (record { person = q; place = place }))

-- those who are held for a name
abbrev pub holders : BTreeMap SharedName (Vec Holder Global) → SharedName → List Holder
holders by_name name = option_map_or (λ v. v.items) (get name_cmp by_name name) []

-- for each name they tell of other persons what all persons of that name do
pub record AreByName (by_name : BTreeMap SharedName (Vec Holder Global))
    (shown : List (SharedName × Holder)) : Type 0 where
  pub tells : (name : SharedName) (p : Person) (place : Place)
      → is_other_held p place (holders by_name name) ≡ is_other_named name p place shown

-- what was told by these names is now told by more
abbrev pub TellsMore : BTreeMap SharedName (Vec Holder Global)
    → BTreeMap SharedName (Vec Holder Global)
    → List (SharedName × Holder) → Type 0
TellsMore old new more = (shown : List (SharedName × Holder)) → AreByName old shown
    → AreByName new (shown ++ more)

-- the form of a person: full where another one has its initials, else with initials where another
-- one has its family name
abbrev pub fuller_by : Bool → Bool → DisambiguatedNameForm → DisambiguatedNameForm
fuller_by named same form = if named
    then (if same then DisambiguatedNameForm.LongFull
    else DisambiguatedNameForm.LongInitialized) else form
