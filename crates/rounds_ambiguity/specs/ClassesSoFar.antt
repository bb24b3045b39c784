-- For the code: the classes of the cites that were looked at, by their texts.
use Rattle.std.specs.Prelude.{◌≡◌, ℕ, List, [], ◌∷◌, ◌++◌, map, length, Option, None, Some, bytes_eq, string_bytes, slice_index_or, slice_set, if◌then◌else◌}
use Rattle.std.specs.List.{position_or_len}
use Rattle.std.specs.BTreeMap.{get}
use Rattle.std.specs.String.{string_cmp, string_eq}
use Rattle.driver_passes.specs.Renders.{Place}
use Rattle.rounds_ambiguity.specs.Ambiguity.{class_of, classes, seconds}
use Rattle.rounds_ambiguity.specs.Members.{Member, place_of, shown_text}
use Rattle.rounds_ambiguity.specs.InRange.{HeapText}
use Rattle.rounds_ambiguity.specs.declared.classes.Class.{Class}
use Rattle.rounds_ambiguity.specs.declared.classes.Class.TheVariants.{Single, Group}
use Rattle.rounds_ambiguity.specs.declared.classes.Classes.{Classes}

-- what is found of a text
abbrev pub class_at : Classes → HeapText → Option Class
class_at c text = get string_cmp c.by_text text

-- the groups as lists of places
abbrev pub groups_in : Classes → List (List Place)
groups_in c = map (λ g. g.items) c.groups.items

module _ {E P : Type 0} where
  -- where the cites of a text are found that are these: one alone, or all in the i-th group
  abbrev pub class_found : List (Member E P) → ℕ → Option Class
  class_found [] i = None
  class_found (m ∷ []) i = Some (Single m.place)
  class_found (m ∷ n ∷ ms) i = Some (Group i)

module _ {E P : Type 0} (cites : List (Member E P)) where
  -- the texts of the groups
  abbrev pub texts : List (List ℕ)
  texts = map shown_text (seconds cites)

  -- where the cites of this text are found
  abbrev pub class_of_text : List ℕ → Option Class
  class_of_text text = class_found (class_of cites text) (position_or_len (bytes_eq text) texts)

  -- they are the classes of these cites
  pub record AreClassesOf (c : Classes) : Type 0 where
    pub groups : groups_in c ≡ map (map place_of) (classes cites)
    pub at : (text : HeapText) → class_at c text ≡ class_of_text (string_bytes text)

-- this class is found of the text from now on, and of other texts what was found before
abbrev pub SetsClass : Class → HeapText → Classes → Classes → Type 0
SetsClass class text old new = (q : HeapText)
    → class_at new q ≡ (if string_eq text q then Some class else class_at old q)

-- a cite at p was added whose text is found nowhere
pub record StartsClass (p : Place) (text : HeapText) (old new : Classes) : Type 0 where
  pub at : SetsClass (Single p) text old new
  pub groups : groups_in new ≡ groups_in old

-- a cite at p was added, and one with the same text stands at first
pub record MakesGroup (first p : Place) (text : HeapText) (old new : Classes) : Type 0 where
  pub at : SetsClass (Group (length (groups_in old))) text old new
  pub groups : groups_in new ≡ groups_in old ++ (first ∷ p ∷ []) ∷ []

-- a cite at p was added to the i-th group
pub record JoinsGroup (i : ℕ) (p : Place) (old new : Classes) : Type 0 where
  pub at : (q : HeapText) → class_at new q ≡ class_at old q
  pub groups : groups_in new
      ≡ slice_set (groups_in old) i (slice_index_or (groups_in old) i [] ++ p ∷ [])

-- a cite at p with this text was added, of which this had been found
abbrev pub AddsTo : Option Class → Place → HeapText → Classes → Classes → Type 0
AddsTo None p text old new = StartsClass p text old new
AddsTo (Some (Single first)) p text old new = MakesGroup first p text old new
AddsTo (Some (Group i)) p text old new = JoinsGroup i p old new

abbrev pub Adds : Place → HeapText → Classes → Classes → Type 0
Adds p text old new = AddsTo (class_at old text) p text old new
