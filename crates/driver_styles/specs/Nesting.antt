-- How deep the elements of a layout nest, and how many there are, where each call of a macro is
-- written out.
use Rattle.std.specs.Prelude.{ℕ, zero, suc, ◌+◌, List, [], ◌∷◌, ◌++◌, Bool, true, false}
use Rattle.std.specs.List.{list_all, sum_by}
use Rattle.std.specs.Option.{option_map_or}
use Rattle.value_styles.specs.Element.{Target, macro_target, Element, text_element, group_element, choose_element, Elements, no_elements, element, Branches, otherwise, branch, Macro}
use Rattle.value_styles.specs.Ring.{body_of}

abbrev pub items : Elements → List Element
items no_elements = []
items (element e es) = e ∷ items es

-- those of every branch
abbrev pub branch_items : Branches → List Element
branch_items (otherwise es) = items es
branch_items (branch conditions rule children bs) = items children ++ branch_items bs

-- in a call of a macro stand the children of the first macro of that name
abbrev pub called : List Macro → Target → List Element
called macros (macro_target name) = option_map_or items (body_of name macros) []
called macros _ = []

-- what stands directly in an element
abbrev pub children_of : List Macro → Element → List Element
children_of macros (text_element target quotes strip look) = called macros target
children_of macros (group_element children delimiter look) = items children
children_of macros (choose_element branches) = branch_items branches
children_of macros _ = []

-- they nest at most so deep: no elements nest within 0, and else what stands in each nests one less
-- deep
abbrev pub nests_within : List Macro → ℕ → List Element → Bool
nests_within macros zero [] = true
nests_within macros zero (e ∷ es) = false
nests_within macros (suc depth) es =
    list_all (λ e. nests_within macros depth (children_of macros e)) es

-- how many there are down to that depth: each, and what stands in it
abbrev pub count_to : List Macro → ℕ → List Element → ℕ
count_to macros zero es = 0
count_to macros (suc depth) es = sum_by (λ e. 1 + count_to macros depth (children_of macros e)) es
