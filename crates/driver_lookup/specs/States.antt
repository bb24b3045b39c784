-- Which identifiers were written, and how far entries are disambiguated.
use Rattle.std.specs.Prelude.{ℕ, [], Bool, true, false, Option, Some, None, unwrap_or}
use Rattle.std.specs.Ordering.{nat_cmp, on, then_cmp, ord_max}
use Rattle.std.specs.declared.cmp.Ordering.{Ordering}
use Rattle.value_sources.specs.declared.names.NameDisambiguationProperties.{NameDisambiguationProperties}
use Rattle.value_sources.specs.Ordered.{properties_cmp}
use Rattle.driver_lookup.specs.declared.state.IdentifierUsage.{IdentifierUsage}
use Rattle.driver_lookup.specs.declared.state.DisambiguateState.{DisambiguateState}

-- the usage after a label was written
abbrev pub with_label : IdentifierUsage → IdentifierUsage
with_label IdentifierUsage.None = IdentifierUsage.OnlyCitationLabel
with_label IdentifierUsage.OnlyCitationLabel = IdentifierUsage.OnlyCitationLabel
with_label IdentifierUsage.OnlyCitationNumber = IdentifierUsage.Mixed
with_label IdentifierUsage.Mixed = IdentifierUsage.Mixed

-- and after a number was
abbrev pub with_number : IdentifierUsage → IdentifierUsage
with_number IdentifierUsage.None = IdentifierUsage.OnlyCitationNumber
with_number IdentifierUsage.OnlyCitationNumber = IdentifierUsage.OnlyCitationNumber
with_number IdentifierUsage.OnlyCitationLabel = IdentifierUsage.Mixed
with_number IdentifierUsage.Mixed = IdentifierUsage.Mixed

-- more names may be written, and `disambiguate` be made to hold
abbrev pub may_get_names : DisambiguateState → Bool
may_get_names DisambiguateState.None = true
may_get_names (DisambiguateState.NameDisambiguation forms) = true
may_get_names DisambiguateState.Choose = false
may_get_names (DisambiguateState.YearSuffix suffix) = false

-- a suffix may be given
abbrev pub may_get_suffix : DisambiguateState → Bool
may_get_suffix DisambiguateState.None = true
may_get_suffix (DisambiguateState.NameDisambiguation forms) = true
may_get_suffix DisambiguateState.Choose = true
may_get_suffix (DisambiguateState.YearSuffix suffix) = false

-- the kinds of states in their order
abbrev pub kind_of : DisambiguateState → ℕ
kind_of DisambiguateState.None = 0
kind_of (DisambiguateState.NameDisambiguation forms) = 1
kind_of DisambiguateState.Choose = 2
kind_of (DisambiguateState.YearSuffix suffix) = 3

-- the forms of a state of names; no forms in another
abbrev pub forms_of : DisambiguateState → NameDisambiguationProperties
forms_of (DisambiguateState.NameDisambiguation forms) = forms
forms_of _ = record { forms = [] }

-- the suffix of a state, which only one that disambiguates by a suffix has
abbrev pub year_suffix : DisambiguateState → Option ℕ
year_suffix (DisambiguateState.YearSuffix suffix) = Some suffix
year_suffix _ = None

-- the suffix by which states of one kind are in order; 0 where there is none
abbrev pub suffix_rank : DisambiguateState → ℕ
suffix_rank s = unwrap_or (year_suffix s) 0

-- states are in order by their kinds, then their forms and suffixes
abbrev pub state_cmp : DisambiguateState → DisambiguateState → Ordering
state_cmp = then_cmp (on kind_of nat_cmp)
    (then_cmp (on suffix_rank nat_cmp) (on forms_of properties_cmp))

abbrev pub greater : DisambiguateState → DisambiguateState → DisambiguateState
greater = ord_max state_cmp
