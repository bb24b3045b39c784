-- What a layout picks: one definition a kind of element, from left to right.
use Rattle.std.specs.Prelude.{◌≡◌, ℕ, zero, suc, List, length, Bool, false, Option, Some, None}
use Rattle.std.specs.Bool.{if◌then◌else◌}
use Rattle.value_sources.specs.declared.taxonomy.Variable.{Variable}
use Rattle.value_styles.specs.Element.{Name, Look, Target, value_target, standard_target, macro_target, term_target, Element, text_element, number_element, date_element, names_element, group_element, choose_element, Elements, no_elements, element, Branches, otherwise, branch, Macro}
use Rattle.value_styles.specs.Ring.{body_of, HasNoRing}
use Rattle.layout_picking.specs.declared.notes.Notes.{Notes}
use Rattle.layout_picking.specs.Env.{Env}
use Rattle.layout_picking.specs.Pieces.{NodeValue, plain_node}
use Rattle.layout_picking.specs.Picked.{Picked, nothing, followed, picked_group, in_macro}
use Rattle.layout_picking.specs.Conditions.{passes, tested}
use Rattle.layout_picking.specs.Variables.{meant, pick_variable, pick_words, pick_date}
use Rattle.layout_picking.specs.Names.{pick_names}

-- what the call of a macro gives in such a node
abbrev pub Call : Type 0
Call = Name → NodeValue → Notes → Picked

-- the node of a group has a delimiter between its parts
abbrev pub group_node : Look → Option (List ℕ) → NodeValue
group_node look delimiter = record (plain_node look false false None) { delimiter = delimiter }

-- a text: a value, a term, a variable, or a macro
abbrev pub pick_text : Env → Call → Target → Look → Bool → Bool → Notes → Picked
pick_text env call (value_target t) look quotes strip n =
    pick_words env.form (Some t) look quotes strip n
pick_text env call (term_target t form plural) look quotes strip n =
    pick_words env.form (env.term t form plural) look quotes strip n
pick_text env call (standard_target v) look quotes strip n =
    pick_variable env (meant env.is_bibliography env.cite.usage (Variable.Standard v)) look
    quotes strip n
pick_text env call (macro_target name) look quotes strip n =
    call name (plain_node look quotes strip None) n

-- what an element, a list of elements and a choice give, where `call` says what a macro gives
abbrev mutual
  pub pick_with : Env → Call → Element → Notes → Picked
  pick_with env call (text_element target quotes strip look) n =
      pick_text env call target look quotes strip n
  pick_with env call (number_element v look) n =
      pick_variable env (meant env.is_bibliography env.cite.usage (Variable.Number v)) look
      false false n
  pick_with env call (date_element v look) n = pick_date env v look false false n
  pick_with env call (names_element variables substitute options look) n =
      pick_names env variables substitute options look n
  pick_with env call (group_element children delimiter look) n =
      picked_group (group_node look delimiter) (pick_all_with env call children n)
  pick_with env call (choose_element branches) n = pick_first_with env call branches n

  pub pick_all_with : Env → Call → Elements → Notes → Picked
  pick_all_with env call no_elements n = nothing n
  pick_all_with env call (element e es) n =
      followed (pick_with env call e n) (pick_all_with env call es (pick_with env call e n).noted)

  -- the first branch whose test holds, else the last part
  pub pick_first_with : Env → Call → Branches → Notes → Picked
  pick_first_with env call (otherwise es) n = pick_all_with env call es n
  pick_first_with env call (branch conditions rule children bs) n =
      if passes env rule conditions
      then pick_all_with env call children (tested conditions n)
      else pick_first_with env call bs (tested conditions n)

-- a call of a macro, where `inner` says what its children give; nothing where there is no such
-- macro
abbrev pub body_picked : (Elements → Notes → Picked) → Option Elements → NodeValue → Notes → Picked
body_picked inner None node n = nothing n
body_picked inner (Some elements) node n = in_macro node (inner elements n)

-- the same, where macros nest at most so deep
abbrev pub called_macro : Env → List Macro → ℕ → Call
called_macro env macros zero name node n = nothing n
called_macro env macros (suc depth) name node n =
    body_picked (pick_all_with env (called_macro env macros depth)) (body_of name macros) node n

abbrev pub picks : Env → List Macro → ℕ → Element → Notes → Picked
picks env macros depth e n = pick_with env (called_macro env macros depth) e n

abbrev pub picks_all : Env → List Macro → ℕ → Elements → Notes → Picked
picks_all env macros depth es n = pick_all_with env (called_macro env macros depth) es n

abbrev pub picks_first : Env → List Macro → ℕ → Branches → Notes → Picked
picks_first env macros depth bs n = pick_first_with env (called_macro env macros depth) bs n

-- what a layout of a style with these macros gives; that macros are followed so deep is never
-- felt, as the law below says
abbrev pub pick_layout : Env → List Macro → Elements → Notes → Picked
pick_layout env macros es n = picks_all env macros (length macros) es n

-- a call of a macro means the first macro of its name: it gives what that one's children give
abbrev pub call_of : Env → List Macro → Call
call_of env macros name node n = body_picked (pick_layout env macros) (body_of name macros) node n

-- a layout is picked element by element, with that meaning of calls
abbrev pub MacrosUnfold : Type 0
MacrosUnfold =
    (env : Env) (macros : List Macro) → HasNoRing macros → (es : Elements) (n : Notes)
    → pick_layout env macros es n ≡ pick_all_with env (call_of env macros) es n
