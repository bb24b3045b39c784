-- Elements as plain data: a text is its list of bytes, and no capacity is seen.
use Rattle.std.specs.Prelude.{ℕ, List, [], ◌∷◌, Bool, Option}
use Rattle.value_sources.specs.declared.taxonomy.StandardVariable.{StandardVariable}
use Rattle.value_sources.specs.declared.taxonomy.NumberVariable.{NumberVariable}
use Rattle.value_sources.specs.declared.taxonomy.NameVariable.{NameVariable}
use Rattle.value_sources.specs.declared.taxonomy.DateVariable.{DateVariable}
use Rattle.value_sources.specs.declared.taxonomy.Term.{Term}
use Rattle.value_sources.specs.declared.taxonomy.TermForm.{TermForm}
use Rattle.value_styles.specs.declared.element.NameAnd.{NameAnd}
use Rattle.value_styles.specs.declared.element.NameForm.{NameForm}
use Rattle.value_styles.specs.declared.element.Condition.{Condition}
use Rattle.value_styles.specs.declared.element.ChooseMatch.{ChooseMatch}
use Rattle.value_sources.specs.declared.formatting.StyleFormatting.{StyleFormatting}
use Rattle.value_sources.specs.declared.formatting.Display.{Display}

-- the name of a macro
abbrev pub Name : Type 0
Name = List ℕ

pub record Affix : Type 0 where
  pub prefix : Option (List ℕ)
  pub suffix : Option (List ℕ)

pub record NameOptions : Type 0 where
  pub and : Option NameAnd
  pub name_delimiter : Option (List ℕ)
  pub names_delimiter : Option (List ℕ)
  pub et_al_min : Option ℕ
  pub et_al_use_first : Option ℕ
  pub name_form : Option NameForm
  pub initialize_with : Option (List ℕ)

-- what every element but a choice has
pub record Look : Type 0 where
  pub affixes : Affix
  pub formatting : StyleFormatting
  pub display : Option Display

-- what a text element writes; the truth value asks for the plural
pub data Target : Type 0 where
  value_target : List ℕ → Target
  standard_target : StandardVariable → Target
  macro_target : Name → Target
  term_target : Term → TermForm → Bool → Target

mutual
  pub data Element : Type 0 where
    text_element : Target → Bool → Bool → Look → Element
    number_element : NumberVariable → Look → Element
    date_element : DateVariable → Look → Element
    names_element : List NameVariable → List NameVariable → NameOptions → Look → Element
    group_element : Elements → Option (List ℕ) → Look → Element
    choose_element : Branches → Element

  pub data Elements : Type 0 where
    no_elements : Elements
    element : Element → Elements → Elements

  -- tests in their order, and what stands where none holds
  pub data Branches : Type 0 where
    otherwise : Elements → Branches
    branch : List Condition → ChooseMatch → Elements → Branches → Branches

-- one branch
pub record Branch : Type 0 where
  pub conditions : List Condition
  pub rule : ChooseMatch
  pub children : Elements

pub record Macro : Type 0 where
  pub name : Name
  pub children : Elements

abbrev pub elements_of : List Element → Elements
elements_of [] = no_elements
elements_of (e ∷ es) = element e (elements_of es)

abbrev pub branches_of : List Branch → Elements → Branches
branches_of [] es = otherwise es
branches_of (b ∷ bs) es = branch b.conditions b.rule b.children (branches_of bs es)
