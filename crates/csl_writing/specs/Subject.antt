-- What is rendered: a cite of an entry, in a style with its locales.
use Rattle.std.specs.Prelude.{ℕ, List, Bool, Option, None, Some, option_map, is_some, ◌&&◌}
use Rattle.value_sources.specs.Answers.{Answers}
use Rattle.value_styles.specs.Element.{NameOptions}
use Rattle.layout_picking.specs.declared.notes.Form.{Form}
use Rattle.driver_lookup.specs.declared.state.IbidState.{IbidState}
use Rattle.driver_lookup.specs.Lookup.{Source, lookup}
use Rattle.driver_lookup.specs.Properties.{Payload, text_payload, own_payload, LocatorValue, Properties}
use Rattle.layout_picking.specs.Env.{CiteLocator, ReadProperties, Env, env_for, suffix_of}
use Rattle.driver_styles.specs.SuffixText.{explicit_suffix}

pub record Subject : Type 0 where
  pub source : Source
  -- what the entry answers
  pub answers : Answers
  pub cite : ReadProperties
  -- the cite has a year suffix, and a text that writes it stands in a layout of the style
  pub explicit_suffix : Bool

module _ {P : Type 0} where
  -- the text of a locator, where it isn't the caller's own
  abbrev pub payload_text : Payload P → Option (List ℕ)
  payload_text (text_payload t) = Some t
  payload_text (own_payload p) = None

  abbrev pub locator_read : LocatorValue P → CiteLocator
  locator_read l = record { kind = l.kind; text = payload_text l.payload }

  -- what of a cite's properties is read
  abbrev pub cite_of : Properties P → ReadProperties
  cite_of p = record {
    citation_number = p.speculative.citation_number;
    first_note_number = p.certain.first_note_number;
    is_first = p.certain.is_first;
    is_near_note = p.certain.is_near_note;
    initial_idx = p.certain.initial_idx;
    ibid = p.speculative.ibid;
    locator = option_map locator_read p.speculative.locator;
    state = p.speculative.disambiguation;
    means = p.speculative.means;
    usage = p.speculative.identifier_usage;
  }

  abbrev pub subject : Source → Answers → Properties P → Subject
  subject source answers props = record {
    source = source;
    answers = answers;
    cite = cite_of props;
    explicit_suffix = is_some (suffix_of (cite_of props)) && explicit_suffix source.style;
  }

-- what a picking reads, under these name options and in this form, and whether it is an item of the
-- bibliography
abbrev pub env : Subject → NameOptions → Form → Bool → Env
env s options form is_bibliography =
    env_for s.answers s.cite (lookup s.source) s.source.style.options options form s.explicit_suffix
    is_bibliography

-- the cite as if it repeated no other
abbrev pub as_different : Subject → Subject
as_different s = record s { cite = record s.cite { ibid = IbidState.Different } }
