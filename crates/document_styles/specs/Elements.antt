-- The form of elements.
use Rattle.std.specs.Prelude.{◌≡◌, ℕ, zero, suc, Bool, List, [], ◌∷◌, ◌++◌, Option, Some, None, option_and_then, option_map, nat_eq, codes, if◌then◌else◌}
use Rattle.std.specs.Cmp.Lexicographic.{pointwise}
use Rattle.serde_json.specs.Data.{Data, depth}
use Rattle.serde_json.specs.Find.{get, as_str}
use Rattle.value_styles.specs.declared.element.ChooseMatch.{ChooseMatch}
use Rattle.value_styles.specs.declared.element.Condition.{Condition}
use Rattle.value_sources.specs.declared.formatting.FontStyle.{FontStyle}
use Rattle.value_sources.specs.declared.formatting.FontWeight.{FontWeight}
use Rattle.value_sources.specs.declared.formatting.StyleFormatting.{StyleFormatting}
use Rattle.value_sources.specs.declared.taxonomy.TermForm.{TermForm}
use Rattle.value_sources.specs.declared.taxonomy.Variable.{Variable}
use Rattle.value_styles.specs.Element.{Look, Target, value_target, standard_target, macro_target, term_target, Element, text_element, number_element, date_element, names_element, group_element, choose_element, Branch, elements_of, branches_of}
use Rattle.document_values.specs.Words.{◌>>=◌, object_with, required, optional, where_present, flag, items_of_key, optional_items, name_form}
use Rattle.document_values.specs.Names.{value_named, one_of, variable_named, term_named}
use Rattle.document_styles.specs.Options.{options_at}
use Rattle.document_values.specs.Tables.{displays, font_variants, text_decorations, vertical_aligns, standard_variables, term_forms, number_variables, date_variables, name_variables, positions, matches}

-- ---- what elements have in common

-- what `italic` and `bold` ask for; where one is false, letters stay as around
abbrev pub slant_of : Bool → Option FontStyle
slant_of italic = if italic then Some FontStyle.Italic else None

abbrev pub weight_of : Bool → Option FontWeight
weight_of bold = if bold then Some FontWeight.Bold else None

-- the formatting of an object
unfoldable pub formatting_form : Data → Option StyleFormatting
formatting_form o = do
  italic ← flag (codes "italic") o
  bold ← flag (codes "bold") o
  variant ← where_present (one_of font_variants) (codes "font_variant") o
  decoration ← where_present (one_of text_decorations) (codes "text_decoration") o
  align ← where_present (one_of vertical_aligns) (codes "vertical_align") o
  Some (record {
    font_style = slant_of italic;
    font_variant = variant;
    font_weight = weight_of bold;
    text_decoration = decoration;
    vertical_align = align;
  })

-- what every element but a choice has
unfoldable pub look_form : Data → Option Look
look_form o = do
  prefix ← where_present as_str (codes "prefix") o
  suffix ← where_present as_str (codes "suffix") o
  formatting ← formatting_form o
  display ← where_present (one_of displays) (codes "display") o
  Some (record {
    affixes = record { prefix = prefix; suffix = suffix };
    formatting = formatting;
    display = display;
  })

-- the keys of an element's kind and look
abbrev pub look_keys : List (List ℕ)
look_keys = codes "kind" ∷ codes "prefix" ∷ codes "suffix" ∷ codes "italic" ∷ codes "bold"
    ∷ codes "font_variant" ∷ codes "text_decoration" ∷ codes "vertical_align" ∷ codes "display"
    ∷ []

-- ---- elements with no elements inside

-- what a text writes, of the members of the four keys that say it, of which exactly one must be
-- there
abbrev pub target_of : TermForm → Bool → Option Data → Option Data → Option Data → Option Data
    → Option Target
target_of form plural (Some d) None None None = option_map value_target (as_str d)
target_of form plural None (Some d) None None =
    option_map standard_target (one_of standard_variables d)
target_of form plural None None (Some d) None = option_map macro_target (as_str d)
target_of form plural None None None (Some d) =
    option_map (λ t. term_target t form plural) (name_form term_named d)
target_of form plural _ _ _ _ = None

-- what a text writes
unfoldable pub target_form : Data → Option Target
target_form o = do
  form ← optional TermForm.Long (one_of term_forms) (codes "form") o
  plural ← flag (codes "plural") o
  target_of form plural (get (codes "value") o) (get (codes "variable") o) (get (codes "macro") o)
      (get (codes "term") o)

abbrev pub text_keys : List (List ℕ)
text_keys = look_keys ++ codes "value" ∷ codes "variable" ∷ codes "macro" ∷ codes "term"
    ∷ codes "form"
    ∷ codes "plural" ∷ codes "quotes" ∷ codes "strip_periods" ∷ []

-- an element that writes a text
unfoldable pub text_form : Data → Option Element
text_form d = do
  o ← object_with text_keys d
  target ← target_form o
  quotes ← flag (codes "quotes") o
  strip_periods ← flag (codes "strip_periods") o
  look ← look_form o
  Some (text_element target quotes strip_periods look)

-- an element that writes a number
unfoldable pub number_form : Data → Option Element
number_form d = do
  o ← object_with (look_keys ++ codes "variable" ∷ []) d
  variable ← required (one_of number_variables) (codes "variable") o
  look ← look_form o
  Some (number_element variable look)

-- an element that writes a date
unfoldable pub date_form : Data → Option Element
date_form d = do
  o ← object_with (look_keys ++ codes "variable" ∷ []) d
  variable ← required (one_of date_variables) (codes "variable") o
  look ← look_form o
  Some (date_element variable look)

-- an element that writes names
unfoldable pub names_form : Data → Option Element
names_form d = do
  o ← object_with (look_keys ++ codes "variables" ∷ codes "substitute" ∷ codes "options" ∷ []) d
  variables ← items_of_key (one_of name_variables) (codes "variables") o
  substitute ← optional_items (one_of name_variables) (codes "substitute") o
  options ← options_at o
  look ← look_form o
  Some (names_element variables substitute options look)

-- ---- conditions

-- an object that names a variable
unfoldable pub variable_form : Data → Option Variable
variable_form d = do
  o ← object_with (codes "variable" ∷ []) d
  required (name_form variable_named) (codes "variable") o

-- `disambiguate`, or a position
abbrev pub condition_named : List ℕ → Option Condition
condition_named name =
    if pointwise nat_eq name (codes "disambiguate") then Some Condition.Disambiguate
    else option_map Condition.Position (value_named positions name)

-- a condition's name, or an object that names a variable
unfoldable pub condition_form : Data → Option Condition
condition_form d = elim (as_str d)
    [ Some name ↦ condition_named name | None ↦ option_map Condition.Variable (variable_form d) ]

-- ---- elements in which elements of the form `inner` stand

abbrev pub group_keys : List (List ℕ)
group_keys = look_keys ++ codes "children" ∷ codes "delimiter" ∷ []

-- a group
unfoldable pub group_form : (Data → Option Element) → Data → Option Element
group_form inner d = do
  o ← object_with group_keys d
  children ← items_of_key inner (codes "children") o
  delimiter ← where_present as_str (codes "delimiter") o
  look ← look_form o
  Some (group_element (elements_of children) delimiter look)

abbrev pub branch_keys : List (List ℕ)
branch_keys = codes "if" ∷ codes "match" ∷ codes "children" ∷ []

-- a branch of a choice
unfoldable pub branch_form : (Data → Option Element) → Data → Option Branch
branch_form inner d = do
  o ← object_with branch_keys d
  children ← items_of_key inner (codes "children") o
  conditions ← items_of_key condition_form (codes "if") o
  rule ← optional ChooseMatch.All (one_of matches) (codes "match") o
  Some (record { conditions = conditions; rule = rule; children = elements_of children })

abbrev pub choose_keys : List (List ℕ)
choose_keys = codes "kind" ∷ codes "branches" ∷ codes "else" ∷ []

-- a choice
unfoldable pub choose_form : (Data → Option Element) → Data → Option Element
choose_form inner d = do
  o ← object_with choose_keys d
  branches ← items_of_key (branch_form inner) (codes "branches") o
  last ← optional_items inner (codes "else") o
  Some (choose_element (branches_of branches (elements_of last)))

-- an element of this kind
abbrev pub kind_form : (Data → Option Element) → List ℕ → Data → Option Element
kind_form inner kind d =
    if pointwise nat_eq kind (codes "text") then text_form d else
    (if pointwise nat_eq kind (codes "number") then number_form d else
    (if pointwise nat_eq kind (codes "date") then date_form d else
    (if pointwise nat_eq kind (codes "names") then names_form d else
    (if pointwise nat_eq kind (codes "group") then group_form inner d else
    (if pointwise nat_eq kind (codes "choose") then choose_form inner d else None)))))

-- an element of the kind that it names, in which elements of the form `inner` stand
abbrev pub element_over : (Data → Option Element) → Data → Option Element
element_over inner d =
    option_and_then (λ kind. kind_form inner kind d) (required as_str (codes "kind") d)

-- an element in which elements nest less than n deep
abbrev pub element_within : ℕ → Data → Option Element
element_within zero d = None
element_within (suc n) d = element_over (element_within n) d

-- an element, however deep elements nest in it: no deeper than the value itself
unfoldable pub element_form : Data → Option Element
element_form d = element_within (suc (depth d)) d

-- elements are made of elements: no bound on their nesting matters
abbrev pub ElementsNest : Type 0
ElementsNest = (d : Data) → element_form d ≡ element_over element_form d
