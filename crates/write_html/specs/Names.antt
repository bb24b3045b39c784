-- The names of the elements of tags.
use Rattle.std.specs.Prelude.{ℕ, List, codes, map, reverse}
use Rattle.write_html.specs.declared.tag.Format.{Format}
use Rattle.write_html.specs.declared.tag.Format.TheVariants as formats
use Rattle.write_html.specs.declared.tag.Tag.{Tag}
use Rattle.write_html.specs.declared.tag.Tag.TheVariants as tags

abbrev pub format_name : Format → List ℕ
format_name formats.Italic = codes "i"
format_name formats.Bold = codes "b"
format_name formats.Superscript = codes "sup"
format_name formats.Subscript = codes "sub"
format_name _ = codes "span"

abbrev pub link_name : List ℕ
link_name = codes "a"

abbrev pub block_name : List ℕ
block_name = codes "div"

abbrev pub tag_name : Tag → List ℕ
tag_name (tags.Format format) = format_name format
tag_name tags.Link = link_name
tag_name tags.Block = block_name

-- the elements of these tags, the innermost first
abbrev pub names : List Tag → List (List ℕ)
names ts = reverse (map tag_name ts)
