-- For the code: all that is shown from the stops of the mentions' ways, and what follows for one
-- of them.
use Rattle.std.specs.Prelude.{◌≡◌, ◌+◌, ℕ, Bool, List, [], ◌∷◌, Option, None, Some, filter, if◌then◌else◌, is_some, length, map}
use Rattle.std.specs.List.{enumerate_from, flat_map, list_any, range_with_len}
use Rattle.value_sources.specs.declared.names.DisambiguatedNameForm.{DisambiguatedNameForm}
use Rattle.mentions_names.specs.Known.{rival_form}
use Rattle.mentions_names.specs.Rivals.{AreRivals, Shown, at_node, held_for, is_other_held, keys_at}
use Rattle.mentions_names.specs.Telling.{form_needed, greatest, names_needed}
use Rattle.mentions_names.specs.contracts.rivals.NodePartialEq.TheImpl as node_eq
use Rattle.mentions_names.specs.declared.gathered.Gathered.{Gathered}
use Rattle.mentions_names.specs.declared.gathered.Needs.{Needs}
use Rattle.mentions_names.specs.declared.look.Look.{Look}
use Rattle.mentions_names.specs.declared.reach.Reach.{Reach}
use Rattle.mentions_names.specs.declared.rivals.Node.{Node}
use Rattle.mentions_names.specs.declared.ways.Stop.{Stop}
use Rattle.mentions_names.specs.declared.ways.Way.{Way}

abbrev pub same_node : Node → Node → Bool
same_node = (node_eq.ghosts).eq

-- what goes on from a stop
abbrev pub shown_from : Bool → Node → Option Look → Shown
shown_from by_cite n None = []
shown_from by_cite n (Some r) = keys_at by_cite n r

abbrev pub shown_at : Bool → Stop → Shown
shown_at by_cite s = shown_from by_cite s.node s.look

abbrev pub shown_by : Way → Shown
shown_by w = flat_map (shown_at w.by_cite) w.stops

-- the node of a stop at which the names end
abbrev pub ends_with : Node → Option Look → List Node
ends_with n None = n ∷ []
ends_with n (Some r) = []

abbrev pub ends_at : Stop → List Node
ends_at s = ends_with s.node s.look

abbrev pub ends_of : Way → List Node
ends_of w = flat_map ends_at w.stops

abbrev pub is_end : Node → List Node → Bool
is_end n nodes = list_any (same_node n) nodes

-- the ways of the mentions that occur
abbrev pub asking : List Way → List Way
asking = filter (λ w. w.occurs)

-- all that is shown on these ways, and all ends, are known
pub record IsGathered (gathered : Gathered) (ways : List Way) : Type 0 where
  pub beside : AreRivals gathered.beside (flat_map shown_by ways)
  pub ends : (n : Node) → is_end n gathered.ends.keys ≡ is_end n (flat_map ends_of ways)

-- how many names are needed because of what goes on or ends where a mention has shown i names
abbrev pub count_of : ℕ → Bool → Bool → ℕ
count_of i other_goes_on other_ends = if other_goes_on then i + 1 else (if other_ends then i else 0)

-- where the mention itself goes on, or ends
abbrev pub count_from : Gathered → ℕ → Node → Option Look → ℕ
count_from g i n None = if is_some (held_for g.beside (at_node n)) then i else 0
count_from g i n (Some r) = count_of i (is_other_held r (held_for g.beside (at_node n)))
    (is_end n g.ends.keys)

abbrev pub count_at : Gathered → ℕ × Stop → ℕ
count_at g p = count_from g p.0 p.1.node p.1.look

-- the forms that the name behind a stop needs, where there is one
abbrev pub forms_from : Gathered → Bool → Node → Option Look → List DisambiguatedNameForm
forms_from g by_cite n None = []
forms_from g by_cite n (Some r) =
    (if by_cite then rival_form g.beside n r else DisambiguatedNameForm.Short) ∷ []

abbrev pub forms_at : Gathered → Bool → Stop → List DisambiguatedNameForm
forms_at g by_cite s = forms_from g by_cite s.node s.look

-- what the way of a mention needs
abbrev pub needs_on : Gathered → Way → Needs
needs_on g w = record {
  count = greatest (map (count_at g) (enumerate_from 0 w.stops));
  forms = flat_map (forms_at g w.by_cite) w.stops;
}

-- what a mention that is in a group needs against the others of it
abbrev pub needs : List Reach → Reach → Needs
needs reaches a = record {
  count = names_needed reaches a;
  forms = map (form_needed reaches a) (range_with_len 0 (length a.looks));
}
