-- For the code: the members of a group that read alike by a rule, as classes with numbers.
use Rattle.std.specs.Prelude.{◌≡◌, ◌<◌, ℕ, Bool, not, ◌&&◌, ◌==◌, All, List, Option, None, Some, find, if◌then◌else◌, length, nat_eq, option_map, slice_get, take, zip}
use Rattle.std.specs.List.{IsDistinct, list_all, list_any, range_with_len}
use Rattle.std.specs.Option.{is_none, option_eq}
use Rattle.value_styles.specs.contracts.style.DisambiguationRulePartialEq.TheImpl as rule_eq
use Rattle.value_sources.specs.declared.entry.Person.{Person}
use Rattle.value_styles.specs.declared.style.DisambiguationRule.{DisambiguationRule}
use Rattle.rounds_names.specs.Cut.{cut_by_rule, kept}
use Rattle.rounds_names.specs.Steps.{others, same_persons, same_place, step}
use Rattle.rounds_names.specs.declared.named_cite.NamedCite.{NamedCite}

abbrev pub same_rule : Option DisambiguationRule → Option DisambiguationRule → Bool
same_rule = option_eq (rule_eq.ghosts).eq

-- no two of them stand at one place
abbrev pub StandApart : List NamedCite → Type 0
StandApart group = IsDistinct (λ x y. same_place x.place y.place) group

-- a member of this rule that may be named has no step yet
abbrev pub waits_for_step : Option DisambiguationRule → NamedCite → Option ℕ → Bool
waits_for_step rule x own = is_none own && x.may_be_named && same_rule x.rule rule

-- the step of a member after its group was disambiguated by i names, where it is alone then
abbrev pub step_after : Option DisambiguationRule → ℕ → NamedCite → Option ℕ → Bool → Option ℕ
step_after rule i x own is_alone = if is_alone && waits_for_step rule x own then Some i else own

module _ (rule : Option DisambiguationRule) where
  -- what the rule keeps of the person at a place of a cite, if there is one
  abbrev pub kept_at : ℕ → List Person → Option Person
  kept_at i ps = option_map (kept rule (i == 0)) (slice_get ps i)

  -- the first i persons of both are the same, cut by this rule
  abbrev pub alike_by : ℕ → NamedCite → NamedCite → Bool
  alike_by i x y = same_persons (cut_by_rule rule (take i x.persons))
      (cut_by_rule rule (take i y.persons))

  module _ (group : List NamedCite) where
    -- no other member is like this one
    abbrev pub is_alone : ℕ → NamedCite → Bool
    is_alone i x = list_all (λ y. not (alike_by i x y)) (others group x)

    -- the step of a member of this rule, among the numbers up to n
    abbrev pub first_step : ℕ → NamedCite → Option ℕ
    first_step n x = if same_rule x.rule rule
        then find (λ i. x.may_be_named && is_alone i x) (range_with_len 1 n) else None

    -- the classes of the members, of which two have one number exactly where the members are alike
    pub record AreClasses (i : ℕ) (classes : List ℕ) : Type 0 where
      pub long : length classes ≡ length group
      pub below : All (λ c. c < length group) classes
      pub same : (a b : ℕ) (p q : NamedCite × ℕ) → slice_get (zip group classes) a ≡ Some p
          → slice_get (zip group classes) b ≡ Some q → nat_eq p.1 q.1 ≡ alike_by i p.0 q.0

-- the steps of the members of these rules
abbrev pub step_by : List (Option DisambiguationRule) → List NamedCite → ℕ → NamedCite → Option ℕ
step_by rules group greatest x = if list_any (same_rule x.rule) rules
    then step group greatest x else None
