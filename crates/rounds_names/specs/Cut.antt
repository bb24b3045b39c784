-- How much of each person a rule keeps when cites are disambiguated by their names.
use Rattle.std.specs.Prelude.{Bool, true, false, List, [], ◌∷◌, Option, None, Some, map, if◌then◌else◌}
use Rattle.value_sources.specs.Initials.{given_initials}
use Rattle.value_sources.specs.declared.entry.Person.{Person}
use Rattle.value_styles.specs.declared.style.DisambiguationRule.{DisambiguationRule}

-- the family name alone
abbrev pub without_given : Person → Person
without_given p = record p { given_name = None }

-- the family name and initials; an empty text where there is no given name
abbrev pub initialized : Person → Person
initialized p = record p { given_name = Some (given_initials p.given_name) }

-- what is kept of a person, who is the first of a cite or a later one; no rule stands for a style
-- that adds no given names
abbrev pub kept : Option DisambiguationRule → Bool → Person → Person
kept None is_first p = without_given p
kept (Some DisambiguationRule.AllNames) is_first p = p
kept (Some DisambiguationRule.ByCite) is_first p = p
kept (Some DisambiguationRule.AllNamesWithInitials) is_first p = initialized p
kept (Some DisambiguationRule.PrimaryName) is_first p = if is_first then p else without_given p
kept (Some DisambiguationRule.PrimaryNameWithInitials) is_first p = if is_first then initialized p
    else without_given p

-- the persons of a cite, cut by a rule
abbrev pub cut_by_rule : Option DisambiguationRule → List Person → List Person
cut_by_rule rule [] = []
cut_by_rule rule (p ∷ ps) = kept rule true p ∷ map (kept rule false) ps
