-- For the code: the looks that go on from a node, by what they share.
use Rattle.std.specs.Prelude.{◌≡◌, Bool, not, true, false, ◌&&◌, List, [], ◌∷◌, ◌++◌, Option, None, Some, if◌then◌else◌, is_some}
use Rattle.std.specs.BTreeMap.{BTreeMap, get}
use Rattle.std.specs.List.{list_any}
use Rattle.value_sources.specs.declared.names.DisambiguatedNameForm.{DisambiguatedNameForm}
use Rattle.mentions_names.specs.Looks.{initials_of, same_look}
use Rattle.mentions_names.specs.contracts.rivals.SharedNameOrd.TheImpl as name_ord
use Rattle.mentions_names.specs.contracts.rivals.SharedNamePartialEq.TheImpl as name_eq
use Rattle.mentions_names.specs.declared.look.Look.{Look}
use Rattle.mentions_names.specs.declared.rivals.Held.{Held}
use Rattle.mentions_names.specs.declared.rivals.Node.{Node}
use Rattle.mentions_names.specs.declared.rivals.SharedName.{SharedName}

abbrev pub same_name : SharedName → SharedName → Bool
same_name = (name_eq.ghosts).eq

abbrev pub at_node : Node → SharedName
at_node n = record { node = n; name = None; initials = None }

abbrev pub by_family : Node → Look → SharedName
by_family n r = record { node = n; name = Some r.name; initials = None }

abbrev pub by_initials : Node → Look → SharedName
by_initials n r = record { node = n; name = Some r.name; initials = Some (initials_of r.given) }

-- another look is among what is held
abbrev pub is_other : Look → Held → Bool
is_other r (Held.One s) = not (same_look r s)
is_other r Held.Several = true

-- what is held once this look was added
abbrev pub joined : Look → Held → Held
joined r held = if is_other r held then Held.Several else held

-- also where nothing was held
abbrev pub held_with : Look → Option Held → Held
held_with r None = Held.One r
held_with r (Some held) = joined r held

abbrev pub is_other_held : Look → Option Held → Bool
is_other_held r None = false
is_other_held r (Some held) = is_other r held

-- what is shown, each look by a shared name
abbrev pub Shown : Type 0
Shown = List (SharedName × Look)

-- another look is shown by this name
abbrev pub is_other_shown : SharedName → Look → Shown → Bool
is_other_shown name r es = list_any (λ e. same_name name e.0 && not (same_look r e.1)) es

-- some look is
abbrev pub is_shown : SharedName → Shown → Bool
is_shown name es = list_any (λ e. same_name name e.0) es

-- a look by its family name, and by this and its initials
abbrev pub named_keys : Node → Look → Shown
named_keys n r = (by_family n r, r) ∷ (by_initials n r, r) ∷ []

-- a look that goes on from a node
abbrev pub keys_at : Bool → Node → Look → Shown
keys_at by_cite n r = (at_node n, r) ∷ (if by_cite then named_keys n r else [])

-- what is held for a name
abbrev pub held_for : BTreeMap SharedName Held → SharedName → Option Held
held_for rivals name = get (name_ord.ghosts).cmp rivals name

-- they tell of any look and name what all that is shown does
pub record AreRivals (rivals : BTreeMap SharedName Held) (es : Shown) : Type 0 where
  pub others : (name : SharedName) (r : Look) → is_other_held r (held_for rivals name)
      ≡ is_other_shown name r es
  pub held : (name : SharedName) → is_some (held_for rivals name) ≡ is_shown name es

-- what was told of these is now told of more
abbrev pub TellsMore : BTreeMap SharedName Held → BTreeMap SharedName Held → Shown → Type 0
TellsMore old new more = (es : Shown) → AreRivals old es → AreRivals new (es ++ more)

-- the form of a look: by whether it has a given name, whether another is of its family name, and
-- whether another is of its initials too
abbrev pub form_by : Bool → Bool → Bool → DisambiguatedNameForm
form_by given named same = if given && named
    then (if same then DisambiguatedNameForm.LongFull else DisambiguatedNameForm.LongInitialized)
    else DisambiguatedNameForm.Short
