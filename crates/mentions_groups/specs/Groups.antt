-- Ambiguous groups: mentions that read alike, of several entries.
use Rattle.std.specs.Prelude.{ℕ, Bool, not, ◌&&◌, ◌==◌, List, Option, None, bytes_eq, filter, find, if◌then◌else◌, length, nat_eq, option_map}
use Rattle.std.specs.List.{enumerate_from, list_any}
use Rattle.std.specs.Option.{option_or}
use Rattle.mentions_groups.specs.declared.mention.Mention.{Mention}

abbrev pub same_text : Mention → Mention → Bool
same_text m n = bytes_eq m.text n.text

-- another entry is mentioned by the same text
abbrev pub is_rival : Mention → Mention → Bool
is_rival m n = same_text m n && not (nat_eq m.entry n.entry)

-- something was written
abbrev pub has_text : Mention → Bool
has_text m = not (length m.text == 0)

-- the index of the first of these with a text
abbrev pub first_among : List (ℕ × Mention) → List ℕ → Option ℕ
first_among indexed text = option_map (λ p. p.0) (find (λ p. bytes_eq text p.1.text) indexed)

module _ (mentions : List Mention) where
  abbrev pub is_ambiguous : Mention → Bool
  is_ambiguous m = has_text m && list_any (is_rival m) mentions

  -- the index of the first mention with a text
  abbrev pub first_with : List ℕ → Option ℕ
  first_with = first_among (enumerate_from 0 mentions)

  -- what a mention reads as, if it has a text, by the index of the first one with that text
  abbrev pub text_of : Mention → Option ℕ
  text_of m = if has_text m then first_with m.text else None

  -- of the mentions with a text the first that occurs leads, or the first of all if none does
  abbrev pub leader : List ℕ → Option ℕ
  leader text = option_or
      (first_among (filter (λ p. p.1.occurs) (enumerate_from 0 mentions)) text) (first_with text)

  -- the group of a mention, if it is in one, by the index of its leader
  abbrev pub group_of : Mention → Option ℕ
  group_of m = if is_ambiguous m then leader m.text else None

  -- the members of a group, in the order of the mentions
  abbrev pub members : Mention → List Mention
  members m = filter (same_text m) mentions

  -- those that occur
  abbrev pub occurring : List Mention
  occurring = filter (λ m. m.occurs) mentions

  -- a group is asked to differ if mentions of two entries in it occur
  abbrev pub is_asked : Mention → Bool
  is_asked m = has_text m
      && list_any (λ x. same_text m x && list_any (is_rival x) occurring) occurring

  -- where the condition `disambiguate` is made to hold: in each mention of such a group that
  -- tested it
  abbrev pub is_chosen : Bool → Mention → Bool
  is_chosen tested m = tested && is_asked m
