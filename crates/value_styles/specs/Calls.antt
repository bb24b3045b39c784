-- The names of macros that an element calls, from left to right.
use Rattle.std.specs.Prelude.{List, [], ◌∷◌, ◌++◌}
use Rattle.value_styles.specs.Element.{Name, Target, macro_target, Element, text_element, number_element, date_element, names_element, group_element, choose_element, Elements, no_elements, element, Branches, otherwise, branch}

abbrev pub Names : Type 0
Names = List Name

abbrev pub target_calls : Target → Names
target_calls (macro_target name) = name ∷ []
target_calls _ = []

abbrev mutual
  pub calls : Element → Names
  calls (text_element target quotes strip look) = target_calls target
  calls (number_element variable look) = []
  calls (date_element variable look) = []
  calls (names_element variables substitute options look) = []
  calls (group_element children delimiter look) = calls_of_all children
  calls (choose_element branches) = calls_of_branches branches

  pub calls_of_all : Elements → Names
  calls_of_all no_elements = []
  calls_of_all (element e es) = calls e ++ calls_of_all es

  pub calls_of_branches : Branches → Names
  calls_of_branches (otherwise es) = calls_of_all es
  calls_of_branches (branch conditions rule children bs) = calls_of_all children
      ++ calls_of_branches bs
