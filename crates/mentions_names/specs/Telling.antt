-- Names that tell mentions of a group apart, by pairs.
use Rattle.std.specs.Prelude.{ℕ, ◌+◌, Bool, false, ◌&&◌, ◌∷◌, [], List, Option, None, Some, filter, if◌then◌else◌, length, map, max, nat_eq, nat_lt, slice_get}
use Rattle.std.specs.Option.{option_eq, option_map, option_map_or}
use Rattle.value_sources.specs.declared.names.DisambiguatedNameForm.{DisambiguatedNameForm}
use Rattle.mentions_names.specs.Forms.{greatest_form}
use Rattle.mentions_names.specs.Looks.{needed, same_look}
use Rattle.mentions_names.specs.declared.look.Look.{Look}
use Rattle.mentions_names.specs.declared.reach.Reach.{Reach}

abbrev pub greatest : List ℕ → ℕ
greatest [] = 0
greatest (n ∷ ns) = max n (greatest ns)

-- the first place at which two lists differ, or one of them ends; none where they are equal
abbrev pub first_difference : List Look → List Look → Option ℕ
first_difference [] [] = None
first_difference [] (s ∷ ss) = Some 0
first_difference (r ∷ rs) [] = Some 0
first_difference (r ∷ rs) (s ∷ ss) =
    if same_look r s then option_map (λ i. i + 1) (first_difference rs ss) else Some 0

-- both are in one ambiguous group
abbrev pub in_one_group : Option ℕ → Option ℕ → Bool
in_one_group (Some g) (Some h) = nat_eq g h
in_one_group _ _ = false

-- both go on at i
abbrev pub both_go_on : ℕ → Reach → Reach → Bool
both_go_on i a b = nat_lt i (length a.looks) && nat_lt i (length b.looks)

-- how many names a needs to show against b: up to the first at which they differ; where one of
-- them ends there, those before it, since the other goes on with more names or `et al.`
abbrev pub names_against : Reach → Reach → ℕ
names_against a b =
    option_map_or (λ i. if both_go_on i a b then i + 1 else i) (first_difference a.looks b.looks) 0

-- the form that one name needs beside another
abbrev pub form_beside : Option Look → Option Look → DisambiguatedNameForm
form_beside (Some r) (Some s) = needed r (r ∷ s ∷ [])
form_beside _ _ = DisambiguatedNameForm.Short

-- the form that name i of a needs against b: where given names are added cite by cite, at the
-- first name at which they differ
abbrev pub form_against : ℕ → Reach → Reach → DisambiguatedNameForm
form_against i a b = if a.by_cite && option_eq nat_eq (first_difference a.looks b.looks) (Some i)
    then form_beside (slice_get a.looks i) (slice_get b.looks i) else DisambiguatedNameForm.Short

module _ (reaches : List Reach) (a : Reach) where
  -- those of the mentions that are in its group
  abbrev pub group_of : List Reach
  group_of = filter (λ b. in_one_group a.group b.group) reaches

  -- how many names it needs to show
  abbrev pub names_needed : ℕ
  names_needed = greatest (map (names_against a) group_of)

  -- the form that its name i needs
  abbrev pub form_needed : ℕ → DisambiguatedNameForm
  form_needed i = greatest_form (map (form_against i a) group_of)
