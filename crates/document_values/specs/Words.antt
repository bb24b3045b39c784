-- Words for the forms of JSON values.
use Rattle.std.specs.Prelude.{ℕ, ℤ, Bool, false, List, [], ◌∷◌, Option, Some, None, option_and_then, option_map, nat_eq, int_le, if◌then◌else◌, ◌&&◌}
use Rattle.std.specs.List.{list_any, list_all}
use Rattle.std.specs.Option.{option_map_or}
use Rattle.std.specs.Cmp.Lexicographic.{pointwise}
use Rattle.serde_json.specs.Data.{Data, Items, no_items, item, Members, no_members, member}
use Rattle.serde_json.specs.Find.{get, as_array, as_bool, as_i64, as_number, as_object, as_str, as_u64}

-- one after another: nothing where one gives nothing
infixl 10 ◌>>=◌
abbrev pub ◌>>=◌ : {A B : Type 0} → Option A → (A → Option B) → Option B
o >>= f = option_and_then f o

-- what the first gives, or else what the second gives
abbrev pub first_of : {A : Type 0} → Option A → Option A → Option A
first_of (Some x) other = Some x
first_of None other = other

-- ---- objects

-- a text is one of the keys
abbrev pub is_one_of : List (List ℕ) → List ℕ → Bool
is_one_of keys k = list_any (pointwise nat_eq k) keys

-- the keys of an object, in their order
abbrev pub member_keys : Members → List (List ℕ)
member_keys no_members = []
member_keys (member k d ms) = k ∷ member_keys ms

-- an object that has no keys but these
abbrev pub has_only : List (List ℕ) → Data → Bool
has_only keys d = option_map_or (λ ms. list_all (is_one_of keys) (member_keys ms))
    (as_object d) false

-- the value, if it is such an object
abbrev pub object_with : List (List ℕ) → Data → Option Data
object_with keys d = if has_only keys d then Some d else None

-- the member of a key, which must be there and of the form f
abbrev pub required : {A : Type 0} → (Data → Option A) → List ℕ → Data → Option A
required f k d = option_and_then f (get k d)

-- what a member is, or the default where there is none
abbrev pub or_default : {A : Type 0} → A → (Data → Option A) → Option Data → Option A
or_default default f None = Some default
or_default default f (Some e) = f e

-- the same, or a default where it isn't there
abbrev pub optional : {A : Type 0} → A → (Data → Option A) → List ℕ → Data → Option A
optional default f k d = or_default default f (get k d)

-- what is of the form f, as what may be absent
abbrev pub present : {A : Type 0} → (Data → Option A) → Data → Option (Option A)
present f d = option_map (λ x. Some x) (f d)

-- what is of the form f, where there is a member
abbrev pub where_present : {A : Type 0} → (Data → Option A) → List ℕ → Data → Option (Option A)
where_present f = optional None (present f)

-- the truth value of a key; false where the key is absent
abbrev pub flag : List ℕ → Data → Option Bool
flag = optional false as_bool

-- ---- lists and objects of things

-- what the items are, each of the form f
abbrev pub all_items : {A : Type 0} → (Data → Option A) → Items → Option (List A)
all_items f no_items = Some []
all_items f (item d ds) = do
  x ← f d
  xs ← all_items f ds
  Some (x ∷ xs)

-- an array whose items are of the form f
abbrev pub list_form : {A : Type 0} → (Data → Option A) → Data → Option (List A)
list_form f d = option_and_then (all_items f) (as_array d)

-- what the items of a key's array are, which must be there
abbrev pub items_of_key : {A : Type 0} → (Data → Option A) → List ℕ → Data → Option (List A)
items_of_key f k d = option_and_then (all_items f) (required as_array k d)

-- the same; none where the key is absent
abbrev pub optional_items : {A : Type 0} → (Data → Option A) → List ℕ → Data → Option (List A)
optional_items f k d = option_and_then (all_items f) (optional no_items as_array k d)

-- a member's name and what the member is, where that is of the form f
abbrev pub member_form : {A : Type 0} → (Data → Option A) → List ℕ → Data → Option (List ℕ × A)
member_form f k d = option_map (λ x. (k, x)) (f d)

-- what the members are, each of the form f, with their names
abbrev pub all_members : {A : Type 0} → (Data → Option A) → Members → Option (List (List ℕ × A))
all_members f no_members = Some []
all_members f (member k d ms) = do
  x ← member_form f k d
  xs ← all_members f ms
  Some (x ∷ xs)

-- ---- numbers and names

-- a whole number from 0 to the greatest of 64 bits, without sign, fraction and exponent
abbrev pub whole : Data → Option ℕ
whole d = option_and_then as_u64 (as_number d)

-- a number, if it is neither below the one bound nor above the other
abbrev pub within_bounds : ℤ → ℤ → ℤ → Option ℤ
within_bounds low high z = if int_le low z && int_le z high then Some z else None

-- a whole number between these bounds, without fraction and exponent
abbrev pub whole_between : ℤ → ℤ → Data → Option ℤ
whole_between low high d =
    option_and_then (within_bounds low high) (option_and_then as_i64 (as_number d))

-- a text that names what f finds
abbrev pub name_form : {A : Type 0} → (List ℕ → Option A) → Data → Option A
name_form f d = option_and_then f (as_str d)
