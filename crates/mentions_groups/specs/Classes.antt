-- For the code: the mentions that were looked at, by their texts.
use Rattle.std.specs.Prelude.{◌≡◌, ℕ, Bool, false, not, ◌&&◌, ◌||◌, List, Option, None, Some, bytes_eq, if◌then◌else◌, nat_eq, option_map}
use Rattle.std.specs.BTreeMap.{BTreeMap, get}
use Rattle.std.specs.Cmp.Lexicographic.{slice_cmp}
use Rattle.std.specs.List.{list_any}
use Rattle.std.specs.Option.{option_or}
use Rattle.std.specs.Ordering.{nat_cmp}
use Rattle.mentions_groups.specs.Groups.{first_among}
use Rattle.mentions_groups.specs.declared.classes.Class.{Class}
use Rattle.mentions_groups.specs.declared.mention.Mention.{Mention}

-- once one that mentions this entry was added
abbrev pub joined : ℕ → Class → Class
joined entry c = record c { several = c.several || not (nat_eq c.entry entry) }

-- the same of a mention at this index, also where it is the first
abbrev pub class_with : ℕ → ℕ → Option Class → Class
class_with k entry None = record { first = k; entry = entry; several = false }
class_with k entry (Some c) = joined entry c

-- another entry than this one is mentioned
abbrev pub is_other : ℕ → Option Class → Bool
is_other entry None = false
is_other entry (Some c) = c.several || not (nat_eq c.entry entry)

-- several entries are
abbrev pub several_in : Option Class → Bool
several_in None = false
several_in (Some c) = c.several

-- the index of the leader, where another entry is mentioned
abbrev pub first_if : Bool → Option ℕ → Option Class → Option ℕ
first_if other occurring c =
    if other then option_or occurring (option_map (λ c. c.first) c) else None

-- what is known of a text
abbrev pub class_at : BTreeMap (List ℕ) Class → List ℕ → Option Class
class_at classes t = get (slice_cmp nat_cmp) classes t

-- a mention with its index occurs
abbrev pub does_occur : ℕ × Mention → Bool
does_occur p = p.1.occurs

-- of each text: the first of these mentions, and whether there is one of another entry than any
pub record AreClassesOf (classes : BTreeMap (List ℕ) Class) (indexed : List (ℕ × Mention))
    : Type 0 where
  pub first : (t : List ℕ) → option_map (λ c. c.first) (class_at classes t)
      ≡ first_among indexed t
  pub other : (t : List ℕ) (entry : ℕ) → is_other entry (class_at classes t)
      ≡ list_any (λ p. bytes_eq t p.1.text && not (nat_eq entry p.1.entry)) indexed

abbrev pub group_found : BTreeMap (List ℕ) Class → BTreeMap (List ℕ) Class → Mention → Option ℕ
group_found classes occurring m = first_if (is_other m.entry (class_at classes m.text))
    (option_map (λ c. c.first) (class_at occurring m.text)) (class_at classes m.text)
