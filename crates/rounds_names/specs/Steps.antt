-- With how many names a member of a group is disambiguated from the others.
use Rattle.std.specs.Prelude.{ℕ, Bool, not, ◌&&◌, ◌==◌, List, Option, Some, filter, find, nat_eq, take}
use Rattle.std.specs.List.{list_all, list_any, range_with_len}
use Rattle.std.specs.Option.{option_eq}
use Rattle.std.specs.Cmp.Lexicographic.{pointwise}
use Rattle.value_sources.specs.declared.entry.Person.{Person}
use Rattle.driver_passes.specs.Renders.{Place}
use Rattle.rounds_names.specs.Cut.{cut_by_rule}
use Rattle.rounds_names.specs.Persons.{same_person}
use Rattle.rounds_names.specs.declared.named_cite.NamedCite.{NamedCite}

abbrev pub same_place : Place → Place → Bool
same_place a b = a.0 == b.0 && a.1 == b.1

abbrev pub same_persons : List Person → List Person → Bool
same_persons = pointwise same_person

-- the first i persons of both, cut by the rule of the first member, are the same
abbrev pub reads_alike : ℕ → NamedCite → NamedCite → Bool
reads_alike i x y =
    same_persons (cut_by_rule x.rule (take i x.persons)) (cut_by_rule x.rule (take i y.persons))

-- this is the step of a member, if it has one
abbrev pub is_own_step : ℕ → Option ℕ → Bool
is_own_step i step = option_eq nat_eq step (Some i)

module _ (group : List NamedCite) where
  -- all other members, those of the same entry too
  abbrev pub others : NamedCite → List NamedCite
  others x = filter (λ y. not (same_place x.place y.place)) group

  -- by i names the member is disambiguated from all others
  abbrev pub known : ℕ → NamedCite → Bool
  known i x = x.may_be_named && list_all (λ y. not (reads_alike i x y)) (others x)

  module _ (greatest : ℕ) where
    -- the least number of names by which it is
    unfoldable pub step : NamedCite → Option ℕ
    step x = find (λ i. known i x) (range_with_len 1 greatest)

    -- the numbers of names by which some member is disambiguated first, in order
    unfoldable pub steps : List ℕ
    steps = filter (λ i. list_any (λ x. is_own_step i (step x)) group) (range_with_len 1 greatest)
