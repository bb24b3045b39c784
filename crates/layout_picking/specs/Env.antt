-- What a picking only reads.
use Rattle.std.specs.Prelude.{ℕ, List, Bool, Option, option_map}
use Rattle.value_sources.specs.declared.taxonomy.Term.{Term}
use Rattle.value_sources.specs.declared.taxonomy.TermForm.{TermForm}
use Rattle.value_sources.specs.declared.taxonomy.Locator.{Locator}
use Rattle.value_sources.specs.Answers.{Answers}
use Rattle.value_styles.specs.Element.{NameOptions}
use Rattle.layout_picking.specs.declared.notes.Form.{Form}
use Rattle.driver_lookup.specs.declared.means.Means.{Means}
use Rattle.driver_lookup.specs.declared.state.DisambiguateState.{DisambiguateState}
use Rattle.driver_lookup.specs.declared.state.IbidState.{IbidState}
use Rattle.driver_lookup.specs.declared.state.IdentifierUsage.{IdentifierUsage}
use Rattle.driver_lookup.specs.Lookup.{Lookup, term_of}
use Rattle.driver_lookup.specs.Means.{suffix_told}
use Rattle.layout_picking.specs.Options.{applied_options}

-- what a locator counts, and its text; none where it is the caller's own
pub record CiteLocator : Type 0 where
  pub kind : Locator
  pub text : Option (List ℕ)

-- what is read of a cite's properties
pub record ReadProperties : Type 0 where
  pub citation_number : ℕ
  pub first_note_number : Option ℕ
  pub is_first : Bool
  pub is_near_note : Bool
  pub initial_idx : ℕ
  pub ibid : IbidState
  pub locator : Option CiteLocator
  pub state : DisambiguateState
  pub means : Means
  pub usage : IdentifierUsage

-- the suffix of the cite's year
abbrev pub suffix_of : ReadProperties → Option ℕ
suffix_of cite = suffix_told cite.state cite.means

pub record Env : Type 0 where
  -- what the entry answers
  pub answers : Answers
  pub cite : ReadProperties
  -- which elements are written
  pub form : Form
  -- a term's words in a form, in the plural where the truth value says so
  pub term : Term → TermForm → Bool → Option (List ℕ)
  -- a year-suffix text stands in a layout of the style
  pub explicit_suffix : Bool
  -- an item of the bibliography is picked
  pub is_bibliography : Bool
  -- the name options that hold where a names element has none of its own
  pub options : NameOptions

-- for an entry and what is read of a cite of it, where terms are looked up and these name options
-- of a style and of a layout hold
abbrev pub env_for : Answers → ReadProperties → Lookup → NameOptions → NameOptions → Form → Bool
    → Bool → Env
env_for answers cite lookup of_style of_layout form explicit_suffix is_bibliography = record {
  answers = answers;
  cite = cite;
  form = form;
  term = term_of lookup (option_map (λ l. l.kind) cite.locator);
  explicit_suffix = explicit_suffix;
  is_bibliography = is_bibliography;
  options = applied_options of_style of_layout;
}
