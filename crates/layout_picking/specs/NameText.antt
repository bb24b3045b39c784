-- How one name is written (CSL 1.0.2, name).
use Rattle.std.specs.Prelude.{ℕ, List, [], ◌∷◌, ◌++◌, Option, Some, None, unwrap_or, encode_utf8, codes}
use Rattle.std.specs.List.{flat_map}
use Rattle.std.specs.Str.{chars, trim_end}
use Rattle.value_sources.specs.declared.entry.Person.{Person}
use Rattle.value_sources.specs.declared.names.DisambiguatedNameForm.{DisambiguatedNameForm}
use Rattle.value_sources.specs.Initials.{initials}
use Rattle.layout_picking.specs.Pieces.{LeafValue}
use Rattle.layout_picking.specs.Variables.{text_leaves}

-- a given name, a space and the family name; where nothing is given the family name alone
abbrev pub whole_name : List ℕ → List ℕ → List ℕ
whole_name [] family = family
whole_name (b ∷ bs) family = (b ∷ bs) ++ codes " " ++ family

-- each initial followed by this text, and no white space at the end
abbrev pub ended_initials : List ℕ → Option (List ℕ) → List ℕ
ended_initials end None = []
ended_initials end (Some given) =
    trim_end (flat_map (λ c. encode_utf8 c ++ end) (initials (chars given)))

-- a name in a form, where `end` follows each initial; none where the name only counts
abbrev pub name_text : List ℕ → DisambiguatedNameForm → Person → Option (List ℕ)
name_text end DisambiguatedNameForm.Count p = None
name_text end DisambiguatedNameForm.Short p = Some p.name
name_text end DisambiguatedNameForm.LongInitialized p =
    Some (whole_name (ended_initials end p.given_name) p.name)
name_text end DisambiguatedNameForm.LongFull p =
    Some (whole_name (unwrap_or p.given_name []) p.name)

-- a blank name gives nothing
abbrev pub name_leaf : List ℕ → DisambiguatedNameForm → Person → Option LeafValue
name_leaf end form p = text_leaves (name_text end form p)
