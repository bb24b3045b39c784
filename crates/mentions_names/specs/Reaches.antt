-- What names can tell at most of the mentions of an ambiguous group.
use Rattle.std.specs.Prelude.{Bool, true, false, List, [], Option, None, Some, if◌then◌else◌, map, slice_get, take}
use Rattle.std.specs.List.{enumerate_from}
use Rattle.std.specs.Option.{option_and_then}
use Rattle.value_sources.specs.declared.names.DisambiguatedNameForm.{DisambiguatedNameForm}
use Rattle.value_styles.specs.declared.style.DisambiguationRule.{DisambiguationRule}
use Rattle.mentions_names.specs.ByDocument.{document_form}
use Rattle.mentions_names.specs.Forms.{base, greater, shown, written}
use Rattle.mentions_names.specs.Looks.{look}
use Rattle.mentions_names.specs.Persons.{own_forms}
use Rattle.mentions_names.specs.declared.look.Look.{Look}
use Rattle.mentions_names.specs.declared.mention.MentionedName.{MentionedName}
use Rattle.mentions_names.specs.declared.mention.NamedMention.{NamedMention}
use Rattle.mentions_names.specs.declared.reach.Reach.{Reach}

-- given names are added cite by cite
abbrev pub is_by_cite : Option DisambiguationRule → Bool
is_by_cite (Some DisambiguationRule.ByCite) = true
is_by_cite _ = false

-- the names that can be shown: all where the style of the group adds names, else those that the
-- mention's own style shows
abbrev pub can_be_shown : Bool → List MentionedName → List MentionedName
can_be_shown adds_names names = if adds_names then names else take (shown (own_forms names)) names

-- the greatest form of a name: in full where given names are added cite by cite, else that by the
-- document, or the one in which the style writes it where that is greater
abbrev pub reach_form : Bool → DisambiguatedNameForm → DisambiguatedNameForm → DisambiguatedNameForm
    → DisambiguatedNameForm
reach_form by_cite base document own = if by_cite then DisambiguatedNameForm.LongFull
    else greater document (written base own)

module _ (mentions : List NamedMention) where
  -- the mention that leads the group that this one is in; its style says what the group may do
  abbrev pub first_member : NamedMention → Option NamedMention
  first_member m = option_and_then (slice_get mentions) m.group

  -- the looks of its names in their greatest forms, where the group may add names, and may add
  -- given names cite by cite
  abbrev pub looks_in : Bool → Bool → NamedMention → List Look
  looks_in adds_names by_cite m =
      map (λ p. look (reach_form by_cite (base (own_forms m.names))
      (document_form mentions m.rule p.0 p.1) p.1.own) p.1.person)
      (enumerate_from 0 (can_be_shown adds_names m.names))

  -- that of a mention whose group this one leads; of one that is in no group there is
  -- nothing to tell
  abbrev pub reach_by : NamedMention → Option NamedMention → Reach
  reach_by m None = record { group = m.group; by_cite = false; looks = []; occurs = m.occurs }
  reach_by m (Some f) = record {
    group = m.group;
    by_cite = is_by_cite f.rule;
    looks = looks_in f.adds_names (is_by_cite f.rule) m;
    occurs = m.occurs;
  }

  abbrev pub reach : NamedMention → Reach
  reach m = reach_by m (first_member m)
