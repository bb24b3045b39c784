-- The parts of an object's text.
use Rattle.std.specs.Prelude.{ℕ, List, [], ◌++◌, codes, Option, None, Some, option_map}
use Rattle.json.specs.Print.{quoted}
use Rattle.serde_json.specs.Data.{Data, string}
use Rattle.serde_json.specs.Written.{compact_text}
use Rattle.value_sources.specs.declared.formatting.FontStyle.{FontStyle}
use Rattle.value_sources.specs.declared.formatting.FontWeight.{FontWeight}
use Rattle.value_sources.specs.declared.formatting.Formatting.{Formatting}
use Rattle.write_json.specs.TreeData.{style_name, weight_name, variant_name, decoration_name, vertical_name}

-- a member
abbrev pub member_text : List ℕ → Data → List ℕ
member_text key d = quoted key ++ (codes ":" ++ compact_text d)

-- a member that may be absent, after another
abbrev pub later_member : List ℕ → Option Data → List ℕ
later_member key None = []
later_member key (Some d) = codes "," ++ member_text key d

-- the two members that each formatting has
unfoldable pub font_text : FontStyle → FontWeight → List ℕ
font_text slant weight = member_text (codes "font_style") (string (style_name slant))
    ++ (codes "," ++ member_text (codes "font_weight") (string (weight_name weight)))

-- a member that is named, if it isn't the usual one, after another
abbrev pub later_name : List ℕ → Option (List ℕ) → List ℕ
later_name key name = later_member key (option_map string name)

-- the members of a formatting
unfoldable pub formatting_text : Formatting → List ℕ
formatting_text f = font_text f.font_style f.font_weight
    ++ (later_name (codes "font_variant") (variant_name f.font_variant)
    ++ (later_name (codes "text_decoration") (decoration_name f.text_decoration)
    ++ later_name (codes "vertical_align") (vertical_name f.vertical_align)))
