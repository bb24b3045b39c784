-- Year suffixes: of entries that read alike in cites.
use Rattle.std.specs.Prelude.{ℕ, Bool, not, ◌&&◌, List, Option, None, Some, filter, if◌then◌else◌, length, map, nat_eq, slice_get, take}
use Rattle.std.specs.List.{enumerate_from, list_any}
use Rattle.std.specs.Option.{option_and_then}
use Rattle.mentions_names.specs.Telling.{in_one_group}
use Rattle.mentions_groups.specs.Groups.{text_of}
use Rattle.mentions_groups.specs.declared.counted.EntryClass.{EntryClass}
use Rattle.mentions_groups.specs.declared.mention.Mention.{Mention}

module _ (mentions : List Mention) where
  -- the later mentions of all entries, in the order of the bibliography
  abbrev pub laters : List Mention
  laters = filter (λ m. not m.is_first) mentions

  -- the class of an entry is what its later mention reads as
  abbrev pub class_of : ℕ → Option ℕ
  class_of entry = option_and_then (text_of mentions) (slice_get laters entry)

  -- a mention reads like one that occurs, of another entry of its entry's class
  abbrev pub is_mistaken_for : Mention → Mention → Bool
  is_mistaken_for m n = n.occurs && ((in_one_group (text_of mentions m) (text_of mentions n)
      && in_one_group (class_of m.entry) (class_of n.entry)) && not (nat_eq m.entry n.entry))

  -- an entry is asked to differ if one of its mentions that occur does
  abbrev pub is_entry_asked : ℕ → Bool
  is_entry_asked entry = list_any
      (λ m. nat_eq entry m.entry && (m.occurs && list_any (is_mistaken_for m) mentions)) mentions

  -- such entries alone get suffixes by their classes
  abbrev pub entry_class : Mention → EntryClass
  entry_class later = record {
    adds_suffix = later.adds_suffix;
    class = if is_entry_asked later.entry then class_of later.entry else None;
  }

  abbrev pub entry_classes : List EntryClass
  entry_classes = map entry_class laters

abbrev pub is_in_class : Option ℕ → EntryClass → Bool
is_in_class class e = in_one_group class e.class

-- of these entries, in the order of the bibliography
module _ (entries : List EntryClass) where
  -- the style of some entry of the class adds year suffixes
  abbrev pub gets_suffixes : Option ℕ → Bool
  gets_suffixes class = list_any (λ e. e.adds_suffix && is_in_class class e) entries

  -- the suffix of the k-th: how many of its class come before
  abbrev pub suffix_of : ℕ × EntryClass → Option ℕ
  suffix_of p = if gets_suffixes p.1.class
      then Some (length (filter (is_in_class p.1.class) (take p.0 entries))) else None

  abbrev pub suffixes_by : List (Option ℕ)
  suffixes_by = map suffix_of (enumerate_from 0 entries)

abbrev pub suffixes : List Mention → List (Option ℕ)
suffixes mentions = suffixes_by (entry_classes mentions)
