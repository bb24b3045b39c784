-- What a names element gives (CSL 1.0.2, names).
use Rattle.std.specs.Prelude.{ℕ, ◌==◌, List, [], ◌∷◌, ◌++◌, map, filter, find, length, Bool, true, false, not, ◌&&◌, Option, Some, None, option_map, option_to_list, is_none, codes, if◌then◌else◌}
use Rattle.std.specs.List.{list_any, filter_map, flat_map, zip, enumerate_from}
use Rattle.value_sources.specs.declared.taxonomy.NameVariable.{NameVariable}
use Rattle.value_sources.specs.declared.taxonomy.Variable.{Variable}
use Rattle.value_sources.specs.declared.taxonomy.OtherTerm.{OtherTerm}
use Rattle.value_sources.specs.declared.taxonomy.Term.{Term}
use Rattle.value_sources.specs.declared.taxonomy.TermForm.{TermForm}
use Rattle.value_styles.specs.declared.element.NameAnd.{NameAnd}
use Rattle.value_sources.specs.declared.entry.Person.{Person}
use Rattle.value_trees.specs.declared.elem.ElemMeta.TheVariants as meta
use Rattle.value_sources.specs.declared.names.DisambiguatedNameForm.{DisambiguatedNameForm}
use Rattle.value_sources.specs.Answers.{Answers}
use Rattle.value_styles.specs.Element.{NameOptions, Look}
use Rattle.value_sources.specs.Forms.{Forms}
use Rattle.value_styles.specs.PlainLook.{no_look}
use Rattle.layout_picking.specs.declared.notes.Form.{Form}
use Rattle.layout_picking.specs.declared.notes.Notes.{Notes}
use Rattle.driver_lookup.specs.Means.{names_told}
use Rattle.layout_picking.specs.Notes.{is_suppressed, with_suppressed}
use Rattle.layout_picking.specs.Env.{ReadProperties, Env}
use Rattle.layout_picking.specs.Conditions.{has_persons}
use Rattle.layout_picking.specs.Options.{applied_options}
use Rattle.layout_picking.specs.NameRules.{Rules, rules_of, forms_by}
use Rattle.layout_picking.specs.NameText.{name_leaf}
use Rattle.layout_picking.specs.Pieces.{LeafValue, text_leaf, NodeValue, Part, leaf_part, node_part, no_parts, part, node_of, plain_node}
use Rattle.layout_picking.specs.Variables.{same_variable, words_for}
use Rattle.layout_picking.specs.Picked.{Picked, gives, called_with}

-- the words of terms
abbrev pub Terms : Type 0
Terms = Term → TermForm → Bool → Option (List ℕ)

-- whether a variable has persons, and hasn't stood in for others
abbrev pub is_present : Answers → Notes → NameVariable → Bool
is_present answers n v = has_persons (answers.names v) && not (is_suppressed n.suppressed v)

-- the first substitute that is present, where none of the variables is
abbrev pub stand_in : Answers → Notes → List NameVariable → List NameVariable → Option NameVariable
stand_in answers n variables substitute =
    elim (filter (is_present answers n) variables) [
      | [] ↦ find (is_present answers n) substitute
      | _
          ∷ _ ↦ None
    ]

-- the blocks of an element, each the names of one variable
abbrev pub blocks : Answers → Notes → List NameVariable → List NameVariable → List NameVariable
blocks answers n variables substitute =
    filter (is_present answers n) variables
    ++ option_to_list (stand_in answers n variables substitute)

-- the editor stands for the author where the entry has editors and no author
abbrev pub author_variable : Answers → NameVariable
author_variable answers =
    if has_persons (answers.names NameVariable.Editor)
    && not (has_persons (answers.names NameVariable.Author))
    then NameVariable.Editor
    else NameVariable.Author

abbrev pub is_variable : Variable → NameVariable → Bool
is_variable v w = same_variable v (Variable.Name w)

-- the blocks that are written in a form, where `writer` is the author's variable
abbrev pub written_blocks : Form → NameVariable → List NameVariable → List NameVariable
written_blocks Form.Full writer vs = vs
written_blocks Form.SuppressAuthor writer vs =
    if list_any (is_variable (Variable.Name writer)) vs then []
    else vs
written_blocks (Form.VarOnly v) writer vs = filter (is_variable v) vs
written_blocks Form.OnlyFirstDate writer vs = []
written_blocks Form.OnlyYearSuffix writer vs = []

-- the names that are written, each with its place, where `end` follows each initial
abbrev pub written_names : List ℕ → Forms → List Person → List (ℕ × LeafValue)
written_names end forms persons =
    filter_map (λ x. option_map (λ leaf. (x.0, leaf)) (name_leaf end x.1.0 x.1.1))
    (enumerate_from 0 (zip forms persons))

-- a name's node
abbrev pub name_part : NameVariable → ℕ × LeafValue → Part
name_part v x = node_part (plain_node no_look false false (Some (meta.Name v x.0)))
    (part (leaf_part x.1) no_parts)

-- what stands between names and isn't one
abbrev pub joint_part : List ℕ → Part
joint_part words = leaf_part (text_leaf words)

abbrev pub and_words : Terms → NameAnd → List ℕ
and_words terms NameAnd.Symbol = codes "&"
and_words terms NameAnd.Text = words_for terms OtherTerm.And (codes "and")

-- between the last two of so many names, of which none is cut
abbrev pub last_joint : Terms → Rules → ℕ → List ℕ
last_joint terms r count =
    elim r.and [
      | None ↦ r.name_delimiter
      | Some and ↦ (if count == 2 then codes " " else r.name_delimiter) ++ and_words terms and
          ++ codes " "
    ]

abbrev pub is_count : DisambiguatedNameForm → Bool
is_count DisambiguatedNameForm.Count = true
is_count _ = false

-- parts behind another one, with a text before each, and another before the last
abbrev pub joined_behind : List ℕ → List ℕ → List Part → List Part
joined_behind words last [] = []
joined_behind words last (p ∷ ps) =
    joint_part (if gives ps then words else last) ∷ p ∷ joined_behind words last ps

abbrev pub joined_parts : List ℕ → List ℕ → List Part → List Part
joined_parts words last [] = []
joined_parts words last (p ∷ ps) = p ∷ joined_behind words last ps

-- the same where names may be cut
abbrev pub last_words : Terms → Rules → Bool → ℕ → List ℕ
last_words terms r cut count = if cut then r.name_delimiter else last_joint terms r count

-- behind names that are cut, a space and the term
abbrev pub et_al_parts : Terms → Bool → List Part
et_al_parts terms false = []
et_al_parts terms true =
    joint_part (codes " " ++ words_for terms OtherTerm.EtAl (codes "et al.")) ∷ []

-- names, with what stands between and behind them; where some are cut the term stands also if none
-- is written
abbrev pub joined_names : Terms → Rules → Bool → List Part → List Part
joined_names terms r cut ps =
    joined_parts r.name_delimiter (last_words terms r cut (length ps)) ps ++ et_al_parts terms cut

-- a block, whose names have these forms
abbrev pub block_parts : Terms → Rules → NameVariable → Forms → List Person → List Part
block_parts terms r v forms persons =
    joined_names terms r (list_any is_count forms)
    (map (name_part v) (written_names r.initial_end forms persons))

-- a block by the rules alone
abbrev pub plain_block : Env → Rules → NameVariable → List Part
plain_block env r v = block_parts env.term r v (forms_by r (length (env.answers.names v)))
    (env.answers.names v)

-- the forms of the first block; before any names were written, what is told of names has its say
abbrev pub first_forms : ReadProperties → Notes → Forms → Forms
first_forms cite n forms = if is_none n.first_name then names_told cite.state cite.means forms
    else forms

abbrev pub first_block : Env → Rules → Notes → NameVariable → List Part
first_block env r n v =
    block_parts env.term r v
    (first_forms env.cite n (forms_by r (length (env.answers.names v))))
    (env.answers.names v)

-- the blocks that give a part, with a text between them
abbrev pub joined_blocks : List ℕ → List (List Part) → List Part
joined_blocks words bs = elim (filter gives bs) [
  | [] ↦ []
  | b ∷ others ↦ b
      ++ flat_map (λ o. joint_part words ∷ o) others
]

abbrev pub blocks_parts : Env → Rules → Notes → List NameVariable → List Part
blocks_parts env r n [] = []
blocks_parts env r n (v ∷ vs) =
    joined_blocks r.names_delimiter (first_block env r n v ∷ map (plain_block env r) vs)

-- each block's persons and variable
abbrev pub block_persons : Answers → NameVariable → List Person × NameVariable
block_persons answers v = (answers.names v, v)

abbrev pub names_node : Answers → Look → List NameVariable → NodeValue
names_node answers look vs =
    plain_node look false false (Some (meta.Names (map (block_persons answers) vs)))

-- forms are noted where none were noted before
abbrev pub with_forms : Forms → Notes → Notes
with_forms forms n = elim n.first_name
    [ None ↦ record n { first_name = Some (record { forms = forms }) } | Some _ ↦ n ]

-- those of the first block, by the rules alone
abbrev pub noted_forms : Answers → Rules → List NameVariable → Notes → Notes
noted_forms answers r [] n = n
noted_forms answers r (v ∷ vs) n = with_forms (forms_by r (length (answers.names v))) n

-- who stood in is noted where that gave a part
abbrev pub noted_stand_in : Bool → Option NameVariable → Notes → Notes
noted_stand_in true (Some v) n = record n { suppressed = with_suppressed v n.suppressed }
noted_stand_in _ _ n = n

abbrev pub pick_names : Env → List NameVariable → List NameVariable → NameOptions → Look
    → Notes → Picked
pick_names env variables substitute options look n =
    let r = rules_of (applied_options env.options options) in
    let vs = written_blocks env.form (author_variable env.answers)
    (blocks env.answers n variables substitute) in
    let ps = node_of (names_node env.answers look vs) (blocks_parts env r n vs) in
    record {
      parts = ps;
      called = called_with (gives ps);
      noted = noted_stand_in (gives ps) (stand_in env.answers n variables substitute)
          (noted_forms env.answers r vs n);
    }
