-- For the code: the first cites of the distinct entries of a group.
use Rattle.std.specs.Prelude.{Bool, List, map}
use Rattle.driver_passes.specs.Renders.{Place}
use Rattle.rounds_ambiguity.specs.Members.{Member}
use Rattle.rounds_ambiguity.specs.declared.first_cites.FirstCite.{FirstCite}

-- an entry, and the place of a cite of it
abbrev pub first_cite_of : {E P : Type 0} → Member E P → E × Place
first_cite_of m = (m.item.entry, m.place)

abbrev pub firsts_view : {T : Type 0} → List (FirstCite T) → List (T × Place)
firsts_view = map (λ f. (f.entry.now, f.place))

-- two of them are of one entry
abbrev pub same_entry : {E : Type 0} → (E → E → Bool) → E × Place → E × Place → Bool
same_entry eq a b = eq a.0 b.0
