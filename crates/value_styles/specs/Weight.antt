-- How many steps a walk over elements takes, where `call` says how many a macro takes: a measure.
use Rattle.std.specs.Prelude.{ℕ, ◌+◌}
use Rattle.value_styles.specs.Element.{Name, Target, macro_target, Element, text_element, number_element, date_element, names_element, group_element, choose_element, Elements, no_elements, element, Branches, otherwise, branch}

abbrev pub text_weight : (Name → ℕ) → Target → ℕ
text_weight call (macro_target name) = 1 + call name
text_weight call _ = 1

abbrev mutual
  pub weight_with : (Name → ℕ) → Element → ℕ
  weight_with call (text_element target quotes strip look) = text_weight call target
  weight_with call (number_element variable look) = 1
  weight_with call (date_element variable look) = 1
  weight_with call (names_element variables substitute options look) = 1
  weight_with call (group_element children delimiter look) = 1 + weight_all_with call children
  weight_with call (choose_element branches) = 1 + weight_branches_with call branches

  pub weight_all_with : (Name → ℕ) → Elements → ℕ
  weight_all_with call no_elements = 1
  weight_all_with call (element e es) = weight_with call e + weight_all_with call es

  pub weight_branches_with : (Name → ℕ) → Branches → ℕ
  weight_branches_with call (otherwise es) = 1 + weight_all_with call es
  weight_branches_with call (branch conditions rule children bs) =
      weight_all_with call children + weight_branches_with call bs
