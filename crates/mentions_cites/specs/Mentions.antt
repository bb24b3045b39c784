-- What is known of mentions once all are told apart.
use Rattle.std.specs.Prelude.{ℕ, ◌+◌, ◌*◌, Bool, false, List, None, Option, find, if◌then◌else◌, map, option_map, slice_get, slice_index_or, unwrap_or}
use Rattle.std.specs.List.{enumerate_from, zip}
use Rattle.std.specs.Option.{option_and_then, option_map_or}
use Rattle.mentions_cited.specs.declared.kept.KeptOfMention.{KeptOfMention}
use Rattle.driver_lookup.specs.declared.state.IdentifierUsage.{IdentifierUsage}
use Rattle.mentions_ranges.specs.declared.suffixes.Suffix.{Suffix}
use Rattle.mentions_groups.specs.contracts.shown.ShownNamesPartialEq.TheImpl as names_eq
use Rattle.mentions_groups.specs.declared.shown.ShownNames.{ShownNames}
use Rattle.mentions_cites.specs.declared.mentions.ToldMention.{ToldMention}

-- what `==` says of names as they are shown: they read alike, and are those of the same persons
abbrev pub same_names : ShownNames → ShownNames → Bool
same_names = (names_eq.ghosts).eq

-- what was kept of each mention as it was written last, from what was kept at first and again
abbrev pub kept_last : List KeptOfMention → List (Option KeptOfMention) → List KeptOfMention
kept_last firsts again = map (λ p. unwrap_or p.1 p.0) (zip firsts again)

-- the index of the first mention that shows these names
abbrev pub first_with_names : List KeptOfMention → ShownNames → Option ℕ
first_with_names lasts names = option_map (λ p. p.0)
    (find (λ p. option_map_or (same_names names) p.1.names false) (enumerate_from 0 lasts))

-- a mention of which this was kept at first and again, and which reads so; names are numbered
abbrev pub told_mention : (ShownNames → Option ℕ) → KeptOfMention → Option KeptOfMention
    → Option ℕ → ToldMention
told_mention number first again text =
    let last = unwrap_or again first in
    record {
      usage = first.usage;
      shown = record {
        names = option_and_then number last.names;
        text = text;
        has_number = last.shows_number;
        has_date = last.shows_date;
      };
    }

-- all mentions: what was kept of them at first and again, and what they read as
abbrev pub told_mentions : List KeptOfMention → List (Option KeptOfMention) → List (Option ℕ)
    → List ToldMention
told_mentions firsts again texts =
    let number = first_with_names (kept_last firsts again) in
    map (λ p. told_mention number p.0.0 p.0.1 p.1) (zip (zip firsts again) texts)

-- where the mentions of an entry stand, by its index
abbrev pub mention_index : ℕ → Bool → ℕ
mention_index entry is_first = if is_first then 2 * entry else 2 * entry + 1

-- a mention of which nothing is known
abbrev pub unshown : ToldMention
unshown = record {
  usage = IdentifierUsage.None;
  shown = record {
    names = None;
    text = None;
    has_number = false;
    has_date = false;
  };
}

-- the first mention of an entry, or its later one; nothing is shown where it isn't there
abbrev pub mention_of : List ToldMention → ℕ → Bool → ToldMention
mention_of mentions entry is_first =
    unwrap_or (slice_get mentions (mention_index entry is_first)) unshown

-- the number of the suffix of an entry, if it has one
abbrev pub suffix_number : List (Option ℕ) → ℕ → Option ℕ
suffix_number suffixes entry = slice_index_or suffixes entry None

-- its suffix, of the class of those whose later mentions read as its own does; an entry with a
-- suffix has a later mention with a text
abbrev pub entry_suffix : List ToldMention → List (Option ℕ) → ℕ → Option Suffix
entry_suffix mentions suffixes entry = option_map
    (λ number. record {
      class = unwrap_or (mention_of mentions entry false).shown.text 0;
      number = number;
    })
    (suffix_number suffixes entry)
