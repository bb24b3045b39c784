-- The plain data that the elements of a style stand for.
use Rattle.std.specs.Prelude.{ℕ, List, map, Option, option_map, String, string_bytes}
use Rattle.std.specs.declared.alloc.Global.{Global}
use Rattle.value_sources.specs.declared.formatting.StyleFormatting.{StyleFormatting}
use Rattle.value_sources.specs.declared.formatting.Display.{Display}
use Rattle.value_styles.specs.declared.element.Affixes.{Affixes}
use Rattle.value_styles.specs.declared.element.InheritableNameOptions.{InheritableNameOptions}
use Rattle.value_styles.specs.declared.element.TextTarget.{TextTarget}
use Rattle.value_styles.specs.declared.element.CslMacro.{CslMacro}
use Rattle.value_styles.specs.declared.element.LayoutRenderingElement.{LayoutRenderingElement, fold-LayoutRenderingElement}
use Rattle.value_styles.specs.declared.element.LayoutRenderingElement.TheOpen.{LayoutRenderingElement-F, ChooseBranch-F}
use Rattle.value_styles.specs.declared.element.ChooseBranch.{ChooseBranch, fold-ChooseBranch}
use Rattle.value_styles.specs.Element.{Affix, NameOptions, Look, Target, value_target, standard_target, macro_target, term_target, Element, text_element, number_element, date_element, names_element, group_element, choose_element, Elements, Branches, Branch, Macro, elements_of, branches_of}

-- a text that may be absent
abbrev pub text_view : Option (String Global) → Option (List ℕ)
text_view = option_map string_bytes

abbrev pub affixes_view : Affixes → Affix
affixes_view a = record { prefix = text_view a.prefix; suffix = text_view a.suffix }

abbrev pub options_view : InheritableNameOptions → NameOptions
options_view o = record {
  and = o.and;
  name_delimiter = text_view o.name_delimiter;
  names_delimiter = text_view o.names_delimiter;
  et_al_min = o.et_al_min;
  et_al_use_first = o.et_al_use_first;
  name_form = o.name_form;
  initialize_with = text_view o.initialize_with;
}

abbrev pub look : Affixes → StyleFormatting → Option Display → Look
look a f d = record { affixes = affixes_view a; formatting = f; display = d }

abbrev pub target_view : TextTarget → Target
target_view (TextTarget.Value t) = value_target (string_bytes t)
target_view (TextTarget.Standard v) = standard_target v
target_view (TextTarget.Macro name) = macro_target (string_bytes name)
target_view (TextTarget.Term t form plural) = term_target t form plural

-- one level, with each element inside already seen as plain data
abbrev pub element_step : LayoutRenderingElement-F Element Branch → Element
element_step (LayoutRenderingElement-F.Text target quotes strip a f d) =
    text_element (target_view target) quotes strip (look a f d)
element_step (LayoutRenderingElement-F.Number variable a f d) = number_element variable (look a f d)
element_step (LayoutRenderingElement-F.Date variable a f d) = date_element variable (look a f d)
element_step (LayoutRenderingElement-F.Names variables substitute options a f d) =
    names_element variables.items substitute.items (options_view options) (look a f d)
element_step (LayoutRenderingElement-F.Group children delimiter a f d) =
    group_element (elements_of children.items) (text_view delimiter) (look a f d)
element_step (LayoutRenderingElement-F.Choose branches last) =
    choose_element (branches_of branches.items (elements_of last.items))

abbrev pub branch_step : ChooseBranch-F Element Branch → Branch
branch_step b = record {
  conditions = b.conditions.items;
  rule = b.rule;
  children = elements_of b.children.items;
}

abbrev pub element_view : LayoutRenderingElement → Element
element_view = fold-LayoutRenderingElement Element Branch element_step branch_step

abbrev pub elements_view : List LayoutRenderingElement → Elements
elements_view es = elements_of (map element_view es)

abbrev pub branch_view : ChooseBranch → Branch
branch_view = fold-ChooseBranch Element Branch element_step branch_step

abbrev pub branches_view : List ChooseBranch → List LayoutRenderingElement → Branches
branches_view bs es = branches_of (map branch_view bs) (elements_view es)

abbrev pub macro_view : CslMacro → Macro
macro_view m = record { name = string_bytes m.name; children = elements_view m.children.items }

abbrev pub macros_view : List CslMacro → List Macro
macros_view = map macro_view
