-- The plain data that a picking reads.
use Rattle.std.specs.Prelude.{ℕ, List, Bool, Option, option_map}
use Rattle.value_sources.specs.declared.taxonomy.Term.{Term}
use Rattle.value_sources.specs.declared.taxonomy.TermForm.{TermForm}
use Rattle.value_sources.specs.Answers.{Answers}
use Rattle.value_styles.specs.Element.{Macro}
use Rattle.value_styles.specs.ElementView.{options_view, macros_view}
use Rattle.layout_picking.specs.declared.input.LocatorFacts.{LocatorFacts}
use Rattle.layout_picking.specs.declared.input.CiteFacts.{CiteFacts}
use Rattle.layout_picking.specs.declared.input.Setting.{Setting}
use Rattle.driver_lookup.specs.Lookup.{term_of}
use Rattle.driver_lookup.specs.SourceView.{lookup_view}
use Rattle.layout_picking.specs.Env.{CiteLocator, ReadProperties, Env, env_for}

abbrev pub locator_facts : LocatorFacts → CiteLocator
locator_facts l = record { kind = l.kind; text = option_map (λ t. t.now) l.text }

abbrev pub cite_facts : CiteFacts → ReadProperties
cite_facts c = record {
  citation_number = c.citation_number;
  first_note_number = c.first_note_number;
  is_first = c.is_first;
  is_near_note = c.is_near_note;
  initial_idx = c.initial_idx;
  ibid = c.ibid;
  locator = option_map locator_facts c.locator;
  state = c.state.now;
  means = c.means.now;
  usage = c.usage;
}

-- the words of terms, for the cite
abbrev pub term_for : Setting → Term → TermForm → Bool → Option (List ℕ)
term_for s = term_of (lookup_view s.context) (option_map (λ l. l.kind) s.cite.locator)

abbrev pub env_of : Answers → Setting → Env
env_of answers s =
    env_for answers (cite_facts s.cite) (lookup_view s.context)
    (options_view s.context.style.now.settings.options) (options_view s.layout_options.now) s.form
    s.explicit_suffix s.is_bibliography

abbrev pub macros_in : Setting → List Macro
macros_in s = macros_view s.context.style.now.macros.items
