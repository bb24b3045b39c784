-- Forms of names that were noted are noted still, whatever is picked.
use Rattle.std.proofs.Common.{◌≡◌, ℕ, zero, suc, List, [], ◌∷◌, Bool, true, false, cond, Option, Some, None, refl, ap, ◌∙◌}
use Rattle.value_sources.specs.declared.names.NameDisambiguationProperties.{NameDisambiguationProperties}
use Rattle.value_sources.specs.declared.taxonomy.Variable.{Variable}
use Rattle.value_sources.specs.declared.taxonomy.NameVariable.{NameVariable}
use Rattle.value_sources.specs.declared.taxonomy.DateVariable.{DateVariable}
use Rattle.value_trees.specs.declared.elem.ElemMeta.TheVariants as meta
use Rattle.value_sources.specs.declared.taxonomy.StandardVariable.TheVariants as standard
use Rattle.value_sources.specs.declared.taxonomy.NumberVariable.TheVariants as number
use Rattle.value_sources.specs.Answers.{Answers}
use Rattle.value_sources.specs.Forms.{Forms}
use Rattle.value_styles.specs.Element.{Name, Look, NameOptions, Target, value_target, standard_target, macro_target, term_target, Element, text_element, number_element, date_element, names_element, group_element, choose_element, Elements, no_elements, element, Branches, otherwise, branch, Macro}
use Rattle.value_styles.specs.Ring.{body_of}
use Rattle.layout_picking.specs.declared.notes.Form.{Form}
use Rattle.layout_picking.specs.declared.notes.Notes.{Notes}
use Rattle.layout_picking.specs.Env.{Env}
use Rattle.layout_picking.specs.Conditions.{passes, tested}
use Rattle.layout_picking.specs.Names.{stand_in, blocks, author_variable, written_blocks, blocks_parts, names_node, with_forms, noted_forms, noted_stand_in, pick_names}
use Rattle.layout_picking.specs.Options.{applied_options}
use Rattle.layout_picking.specs.NameRules.{Rules, rules_of}
use Rattle.layout_picking.specs.Pieces.{NodeValue, node_of, leaves_of, plain_node}
use Rattle.layout_picking.specs.Picked.{Picked, Held, added, gives, nothing, without_content, called_with}
use Rattle.layout_picking.specs.Variables.{meant, is_plain, writes, text_leaves, variable_leaf, suffix_behind, variable_meta, dated, noted_use, noted_behind, pick_variable, pick_words, date_leaves, pick_date}
use Rattle.layout_picking.specs.Pick.{Call, pick_text, pick_with, pick_all_with, pick_first_with, body_picked, called_macro, picks_all}
use Rattle.layout_picking.specs.Quiet.{Keeps}
use Rattle.layout_picking.specs.Work.{plain_done}

abbrev Forms_of : Type 0
Forms_of = Option NameDisambiguationProperties

pub kept : (n : Notes) → Keeps n n
kept n p h = h

pub kept-on : (a b c : Notes) → Keeps a b → Keeps b c → Keeps a c
kept-on a b c h k p e = k p (h p e)

-- texts, numbers and dates
dated-same : (b : Bool) (n : Notes) → (dated b n).first_name ≡ n.first_name
dated-same true n = refl
dated-same false n = refl

use-same : (b : Bool) (v : Variable) (n : Notes) → (noted_use b v n).first_name ≡ n.first_name
use-same true (Variable.Standard standard.CitationLabel) n = refl
use-same false (Variable.Standard standard.CitationLabel) n = refl
use-same true (Variable.Number number.CitationNumber) n = refl
use-same false (Variable.Number number.CitationNumber) n = refl
use-same b v n = refl

behind-same : (b : Bool) (v : Variable) (given : Bool) (n : Notes) → (noted_behind b v given n).first_name ≡ n.first_name
behind-same b (Variable.Standard standard.CitationLabel) given n =
    dated-same given (noted_use b (Variable.Standard standard.CitationLabel) n) ∙ use-same b (Variable.Standard standard.CitationLabel) n
behind-same b v given n = use-same b v n

chosen-same : (b : Bool) (p q : Picked) (f : Forms_of) → p.noted.first_name ≡ f → q.noted.first_name ≡ f → (cond b p q).noted.first_name ≡ f
chosen-same true p q f h k = h
chosen-same false p q f h k = k

variable-same : (env : Env) (v : Variable) (look : Look) (quotes strip : Bool) (n : Notes) → (pick_variable env v look quotes strip n).noted.first_name ≡ n.first_name
variable-same env v look quotes strip n =
    let ps = node_of (plain_node look quotes strip (variable_meta v)) (leaves_of (variable_leaf env v) (suffix_behind env v n)) in
    chosen-same (writes env.form v) (record { parts = ps; called = called_with (gives ps); noted = noted_behind env.is_bibliography v (gives ps) n }) (without_content n) n.first_name
    (behind-same env.is_bibliography v (gives ps) n) refl

words-same : (form : Form) (words : Option (List ℕ)) (look : Look) (quotes strip : Bool) (n : Notes) → (pick_words form words look quotes strip n).noted.first_name ≡ n.first_name
words-same form words look quotes strip n =
    chosen-same (is_plain form) (record (nothing n) { parts = node_of (plain_node look quotes strip None) (leaves_of (text_leaves words) None) }) (nothing n) n.first_name refl refl

date-kept : (env : Env) (v : DateVariable) (look : Look) (n : Notes) → Keeps n (pick_date env v look false false n).noted
date-kept env v look n p e =
    let ps = node_of (plain_node look false false (Some meta.Date)) (date_leaves env v (env.answers.date v) n) in
    dated-same (gives ps) n ∙ e

-- names
forms-kept : (forms : Forms) (n : Notes) → Keeps n (with_forms forms n)
forms-kept forms n p h =
    let set : Notes = record n { first_name = Some (record { forms = forms }) } in
    let by : (o : Forms_of) → o ≡ Some p → (elim o as (λ _. Notes) [ None ↦ set | Some _ ↦ n ]).first_name ≡ Some p = λ o.
    elim o as (λ o. o ≡ Some p → (elim o as (λ _. Notes) [ None ↦ set | Some _ ↦ n ]).first_name ≡ Some p) [
      | None ↦ λ e. absurd (cc)
      | Some q ↦ λ e. h
    ] in
    by n.first_name h

noted-kept : (answers : Answers) (r : Rules) (vs : List NameVariable) (n : Notes) → Keeps n (noted_forms answers r vs n)
noted-kept answers r [] n = kept n
noted-kept answers r (v ∷ vs) n = forms-kept _ n

stand_in-same : (b : Bool) (v : Option NameVariable) (n : Notes) → (noted_stand_in b v n).first_name ≡ n.first_name
stand_in-same true (Some v) n = refl
stand_in-same true None n = refl
stand_in-same false v n = refl

names-kept : (env : Env) (variables substitute : List NameVariable) (options : NameOptions) (look : Look) (n : Notes) → Keeps n (pick_names env variables substitute options look n).noted
names-kept env variables substitute options look n p e =
    let r = rules_of (applied_options env.options options) in
    let vs = written_blocks env.form (author_variable env.answers) (blocks env.answers n variables substitute) in
    let ps = node_of (names_node env.answers look vs) (blocks_parts env r n vs) in
    stand_in-same (gives ps) (stand_in env.answers n variables substitute) (noted_forms env.answers r vs n) ∙ noted-kept env.answers r vs n p e

chosen-kept : (n : Notes) (b : Bool) (p q : Picked) → Keeps n p.noted → Keeps n q.noted → Keeps n (cond b p q).noted
chosen-kept n true p q h k = h
chosen-kept n false p q h k = k

module _ (env : Env) (call : Call) (each : (name : Name) (node : NodeValue) (n : Notes) → Keeps n (call name node n).noted) where
  text-kept : (t : Target) (look : Look) (quotes strip : Bool) (n : Notes) → Keeps n (pick_text env call t look quotes strip n).noted
  text-kept (value_target t) look quotes strip n = λ p e. words-same env.form (Some t) look quotes strip n ∙ e
  text-kept (standard_target v) look quotes strip n = λ p e. variable-same env (meant env.is_bibliography env.cite.usage (Variable.Standard v)) look quotes strip n ∙ e
  text-kept (macro_target name) look quotes strip n = each name (plain_node look quotes strip None) n
  text-kept (term_target t form plural) look quotes strip n = λ p e. words-same env.form (env.term t form plural) look quotes strip n ∙ e

  mutual
    pub one-kept : (e : Element) (n : Notes) → Keeps n (pick_with env call e n).noted
    one-kept (text_element target quotes strip look) n = text-kept target look quotes strip n
    one-kept (number_element v look) n = λ p e. variable-same env (meant env.is_bibliography env.cite.usage (Variable.Number v)) look false false n ∙ e
    one-kept (date_element v look) n = date-kept env v look n
    one-kept (names_element variables substitute options look) n = names-kept env variables substitute options look n
    one-kept (group_element children delimiter look) n = all-kept children n
    one-kept (choose_element branches) n = first-kept branches n

    pub all-kept : (es : Elements) (n : Notes) → Keeps n (pick_all_with env call es n).noted
    all-kept no_elements n = kept n
    all-kept (element e es) n = λ p h. all-kept es (pick_with env call e n).noted p (one-kept e n p h)

    first-kept : (bs : Branches) (n : Notes) → Keeps n (pick_first_with env call bs n).noted
    first-kept (otherwise es) n = all-kept es n
    first-kept (branch conditions rule children bs) n =
        chosen-kept n (passes env rule conditions) (pick_all_with env call children (tested conditions n)) (pick_first_with env call bs (tested conditions n))
        (all-kept children (tested conditions n)) (first-kept bs (tested conditions n))

-- calls of macros
body-kept : (env : Env) (call : Call) → ((name : Name) (node : NodeValue) (n : Notes) → Keeps n (call name node n).noted)
    → (o : Option Elements) (node : NodeValue) (n : Notes) → Keeps n (body_picked (pick_all_with env call) o node n).noted
body-kept env call each None node n = kept n
body-kept env call each (Some es) node n = all-kept env call each es n

pub call-kept : (env : Env) (ms : List Macro) (depth : ℕ) (name : Name) (node : NodeValue) (n : Notes) → Keeps n (called_macro env ms depth name node n).noted
call-kept env ms zero name node n = kept n
call-kept env ms (suc depth) name node n = body-kept env (called_macro env ms depth) (call-kept env ms depth) (body_of name ms) node n

pub picks-kept : (env : Env) (ms : List Macro) (depth : ℕ) (es : Elements) (n : Notes) → Keeps n (picks_all env ms depth es n).noted
picks-kept env ms depth es n = all-kept env (called_macro env ms depth) (call-kept env ms depth) es n

-- once a variable is picked, and once an element without others inside is
pub variable-kept : (env : Env) (v : Variable) (look : Look) (quotes strip : Bool) (s now : Held) → now ≡ added (pick_variable env v look quotes strip s.noted) s → Keeps s.noted now.noted
variable-kept env v look quotes strip s now is p h = ap (λ x. x.noted.first_name) is ∙ variable-same env v look quotes strip s.noted ∙ h

pub plain-kept : (env : Env) (e : Element) (s now : Held) → now ≡ plain_done env e s → Keeps s.noted now.noted
plain-kept env e s now is p h = ap (λ x. x.noted.first_name) is ∙ by e p h
  where
    by : (e : Element) → Keeps s.noted (plain_done env e s).noted
    by (number_element v look) = λ p e. variable-same env (meant env.is_bibliography env.cite.usage (Variable.Number v)) look false false s.noted ∙ e
    by (date_element v look) = date-kept env v look s.noted
    by (names_element variables substitute options look) = names-kept env variables substitute options look s.noted
    by (text_element target quotes strip look) = kept s.noted
    by (group_element children delimiter look) = kept s.noted
    by (choose_element branches) = kept s.noted
