-- For the code: the mentions that were looked at and occur, by what they read as in their classes.
use Rattle.std.specs.Prelude.{◌≡◌, ℕ, Bool, false, not, ◌&&◌, ◌||◌, List, Option, None, Some, nat_eq}
use Rattle.std.specs.BTreeMap.{BTreeMap, get}
use Rattle.std.specs.List.{list_any}
use Rattle.mentions_groups.specs.Groups.{text_of}
use Rattle.mentions_groups.specs.Suffixes.{class_of}
use Rattle.mentions_groups.specs.contracts.readings.ReadingOrd.TheImpl as reading_ord
use Rattle.mentions_groups.specs.contracts.readings.ReadingPartialEq.TheImpl as reading_eq
use Rattle.mentions_groups.specs.declared.mention.Mention.{Mention}
use Rattle.mentions_groups.specs.declared.readings.Entries.{Entries}
use Rattle.mentions_groups.specs.declared.readings.Reading.{Reading}

abbrev pub same_reading : Reading → Reading → Bool
same_reading = (reading_eq.ghosts).eq

-- a text and a class, where there are both
abbrev pub reading_by : Option ℕ → Option ℕ → Option Reading
reading_by (Some text) (Some class) = Some (record { text = text; class = class })
reading_by _ _ = None

-- once a mention of this entry was added
abbrev pub joined : ℕ → Entries → Entries
joined entry c = record c { several = c.several || not (nat_eq c.entry entry) }

abbrev pub entries_with : ℕ → Option Entries → Entries
entries_with entry None = record { entry = entry; several = false }
entries_with entry (Some c) = joined entry c

-- another entry than this one is mentioned
abbrev pub is_other_at : ℕ → Option Entries → Bool
is_other_at entry None = false
is_other_at entry (Some c) = c.several || not (nat_eq c.entry entry)

abbrev pub entries_at : BTreeMap Reading Entries → Reading → Option Entries
entries_at readings r = get (reading_ord.ghosts).cmp readings r

-- this is the reading
abbrev pub is_reading : Reading → Option Reading → Bool
is_reading r None = false
is_reading r (Some q) = same_reading r q

module _ (mentions : List Mention) where
  abbrev pub reading_of : Mention → Option Reading
  reading_of m = reading_by (text_of mentions m) (class_of mentions m.entry)

  -- of each reading: whether one of these that occur is of another entry than any
  abbrev pub AreReadingsOf : BTreeMap Reading Entries → List Mention → Type 0
  AreReadingsOf readings ms = (r : Reading) (entry : ℕ) → is_other_at entry (entries_at readings r)
      ≡ list_any (λ n. n.occurs && (is_reading r (reading_of n) && not (nat_eq entry n.entry))) ms
