-- The orders of name forms and of lists of them.
use Rattle.std.specs.Prelude.{◌≡◌, ℕ}
use Rattle.std.specs.Cmp.{IsTotalOrder}
use Rattle.std.specs.declared.cmp.Ordering.{Ordering}
use Rattle.std.specs.declared.cmp.Ordering.TheVariants.{Equal}
use Rattle.value_sources.specs.declared.names.DisambiguatedNameForm.{DisambiguatedNameForm}
use Rattle.value_sources.specs.declared.names.NameDisambiguationProperties.{NameDisambiguationProperties}
use Rattle.value_sources.specs.contracts.names.DisambiguatedNameFormOrd.TheImpl as form_ord
use Rattle.value_sources.specs.contracts.names.NameDisambiguationPropertiesOrd.TheImpl as properties_ord

-- how much of a name a form writes, from the least on
abbrev pub extent : DisambiguatedNameForm → ℕ
extent DisambiguatedNameForm.Count = 0
extent DisambiguatedNameForm.Short = 1
extent DisambiguatedNameForm.LongInitialized = 2
extent DisambiguatedNameForm.LongFull = 3

-- a total order that tells all values apart
pub record IsValueOrder {K : Type 0} (cmp : K → K → Ordering) : Type 0 where
  pub total : IsTotalOrder cmp
  pub equal : (a b : K) → cmp a b ≡ Equal → a ≡ b
  pub self : (a : K) → cmp a a ≡ Equal

abbrev pub form_cmp : DisambiguatedNameForm → DisambiguatedNameForm → Ordering
form_cmp = (form_ord.ghosts).cmp

abbrev pub properties_cmp : NameDisambiguationProperties → NameDisambiguationProperties → Ordering
properties_cmp = (properties_ord.ghosts).cmp
