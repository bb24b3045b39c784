-- Year suffixes: whose they are, and that nothing is left by them.
use Rattle.std.specs.Prelude.{◌≡◌, ◌≢◌, ◌≤◌, ℕ, true, false, ◌||◌, List, [], None, Option, Some, filter, length, map, option_and_then, slice_get}
use Rattle.std.specs.List.{range_with_len, zip}
use Rattle.mentions_names.specs.Telling.{in_one_group}
use Rattle.mentions_groups.specs.Suffixes.{entry_class, entry_classes, gets_suffixes, is_in_class, laters}
use Rattle.mentions_groups.specs.declared.mention.Mention.{Mention}

abbrev pub element : {X : Type 0} → List X → Type 0
element {X = X} xs = X

abbrev pub EntryClass : Type 0
EntryClass = element (entry_classes [])

-- the suffix of an entry, if it has one
abbrev pub suffix_at : List (Option ℕ) → ℕ → Option ℕ
suffix_at suffixes entry = option_and_then (λ s. s) (slice_get suffixes entry)

-- two entries have suffixes that differ
pub record HaveOtherSuffixes (suffixes : List (Option ℕ)) (e d : ℕ) : Type 0 where
  pub one : ℕ
  pub other : ℕ
  pub is_one : suffix_at suffixes e ≡ Some one
  pub is_other : suffix_at suffixes d ≡ Some other
  pub apart : one ≢ other

-- of all mentions as they read in the end, and the suffixes of all entries
module _ (mentions : List Mention) where
  -- the entries in a class: those that are asked to differ, and whose later mentions read alike
  abbrev pub members_of : ℕ → List EntryClass
  members_of class = filter (is_in_class (Some class)) (entry_classes mentions)

  -- the later mentions of two entries occur and read alike
  pub record ReadAlike (e d : ℕ) : Type 0 where
    pub one : Mention
    pub other : Mention
    pub is_one : slice_get (laters mentions) e ≡ Some one
    pub is_other : slice_get (laters mentions) d ≡ Some other
    pub one_occurs : one.occurs ≡ true
    pub other_occurs : other.occurs ≡ true
    pub apart : e ≢ d
    pub has_text : one.text ≢ []
    pub same_text : one.text ≡ other.text

  -- mentions of two entries occur and read alike
  pub record AreShownAlike (e d : ℕ) : Type 0 where
    pub one : Mention
    pub other : Mention
    pub at_one : ℕ
    pub at_other : ℕ
    pub is_one : slice_get mentions at_one ≡ Some one
    pub is_other : slice_get mentions at_other ≡ Some other
    pub one_entry : one.entry ≡ e
    pub other_entry : other.entry ≡ d
    pub one_occurs : one.occurs ≡ true
    pub other_occurs : other.occurs ≡ true
    pub has_text : one.text ≢ []
    pub same_text : one.text ≡ other.text

  module _ (suffixes : List (Option ℕ)) where
    -- the suffixes of the entries of a class
    abbrev pub suffixes_in : ℕ → List (Option ℕ)
    suffixes_in class = map (λ p. p.1)
        (filter (λ p. is_in_class (Some class) p.0) (zip (entry_classes mentions) suffixes))

    -- suffixes count the entries of a class
    pub record SuffixesCount : Type 0 where
      -- each entry has one later mention, and a suffix or none
      pub entries : map (λ m. m.entry) (laters mentions) ≡ range_with_len 0 (length suffixes)
      -- where the style of one of them adds suffixes they are 0, 1 and so on, in their order
      pub in_order : (class : ℕ) → gets_suffixes (entry_classes mentions) (Some class) ≡ true
          → suffixes_in class ≡ map Some (range_with_len 0 (length (members_of class)))
      -- else there is none
      pub no_others : (class : ℕ) → gets_suffixes (entry_classes mentions) (Some class) ≡ false
          → suffixes_in class ≡ map (λ m. None) (members_of class)
      -- a class has two entries at least
      pub two_at_least : (class : ℕ) → members_of class ≢ [] → 2 ≤ length (members_of class)

    -- nothing is left: two entries whose later mentions read alike
    pub record NothingIsLeft : Type 0 where
      -- are of one class
      pub one_class : (e d : ℕ) (r : ReadAlike e d)
          → in_one_group (entry_class mentions r.one).class (entry_class mentions r.other).class
          ≡ true
      -- and have suffixes that differ, if the style of either adds suffixes
      pub told_apart : (e d : ℕ) (r : ReadAlike e d)
          → r.one.adds_suffix || r.other.adds_suffix ≡ true → HaveOtherSuffixes suffixes e d

    -- an entry whose suffix another one's differs from, since cites show them alike
    pub record HasReason (e : ℕ) : Type 0 where
      pub other : ℕ
      pub alike : AreShownAlike e other
      pub differ : HaveOtherSuffixes suffixes e other

    -- no suffix is given in vain
    abbrev pub NoneInVain : Type 0
    NoneInVain = (e number : ℕ) → suffix_at suffixes e ≡ Some number → HasReason e
