-- The order of states tells all states apart.
use Rattle.std.proofs.Common.{◌≡◌, ℕ, cond, ◌==◌, sym, ◌∙◌, refl}
use Rattle.std.specs.Ordering.{nat_cmp, ordering_then}
use Rattle.std.specs.declared.cmp.Ordering.{Ordering}
use Rattle.std.specs.declared.cmp.Ordering.TheVariants.{Less, Equal, Greater}
use Rattle.std.proofs.lemmas.Cmp.{on_total, then_total, nat_cmp_total, ranked, tied_itself}
use Rattle.std.specs.Cmp.{IsTotalOrder}
use Rattle.value_sources.specs.declared.names.NameDisambiguationProperties.{NameDisambiguationProperties}
use Rattle.value_sources.specs.Ordered.{IsValueOrder, properties_cmp}
use Rattle.driver_lookup.specs.declared.state.DisambiguateState.{DisambiguateState}
use Rattle.driver_lookup.specs.States.{kind_of, forms_of, suffix_rank, state_cmp}

-- a state from its kind, its suffix and its forms
state_from : ℕ → ℕ → NameDisambiguationProperties → DisambiguateState
state_from kind suffix forms =
    cond (kind == 0) DisambiguateState.None (cond (kind == 1) (DisambiguateState.NameDisambiguation forms) (cond (kind == 2) DisambiguateState.Choose (DisambiguateState.YearSuffix suffix)))

from_parts : (s : DisambiguateState) → state_from (kind_of s) (suffix_rank s) (forms_of s) ≡ s
unfolding state_from
from_parts DisambiguateState.None = refl
from_parts (DisambiguateState.NameDisambiguation forms) = refl
from_parts DisambiguateState.Choose = refl
from_parts (DisambiguateState.YearSuffix suffix) = refl

first_ties : (r s : Ordering) → ordering_then r s ≡ Equal → r ≡ Equal
first_ties Less s e = e
first_ties Equal s e = refl
first_ties Greater s e = e

second_ties : (r s : Ordering) → ordering_then r s ≡ Equal → s ≡ Equal
second_ties Less s e = cc
second_ties Equal s e = e
second_ties Greater s e = cc

numbers_tie : (x y : ℕ) → nat_cmp x y ≡ Equal → x ≡ y
numbers_tie x y e = ranked x y Equal (sym e)

module _ (order : IsValueOrder properties_cmp) where
  ties : (a b : DisambiguateState) → state_cmp a b ≡ Equal → a ≡ b
  ties a b e =
      let rest = second_ties (nat_cmp (kind_of a) (kind_of b)) _ e in
      let kinds = numbers_tie _ _ (first_ties (nat_cmp (kind_of a) (kind_of b)) _ e) in
      let suffixes = numbers_tie _ _ (first_ties (nat_cmp (suffix_rank a) (suffix_rank b)) _ rest) in
      let forms = order.equal _ _ (second_ties (nat_cmp (suffix_rank a) (suffix_rank b)) _ rest) in
      sym (from_parts a) ∙ (λ i. state_from (kinds i) (suffixes i) (forms i)) ∙ from_parts b

  total : IsTotalOrder state_cmp
  total = then_total (on_total kind_of nat_cmp_total) (then_total (on_total suffix_rank nat_cmp_total) (on_total forms_of order.total))

  pub states_in_order : IsValueOrder state_cmp
  states_in_order = record {
    total = total;
    equal = ties;
    self = tied_itself total;
  }
