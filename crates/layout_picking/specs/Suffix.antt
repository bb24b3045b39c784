-- The year suffix of a cite.
use Rattle.std.specs.Prelude.{ℕ, Bool, not, ◌||◌, Option, None}
use Rattle.std.specs.Bool.{if◌then◌else◌}
use Rattle.layout_picking.specs.declared.notes.Notes.{Notes}
use Rattle.layout_picking.specs.Env.{ReadProperties, suffix_of}

-- the suffix that the first date or label adds, in a style without a year-suffix text
abbrev pub implicit_suffix : Bool → ReadProperties → Notes → Option ℕ
implicit_suffix explicit cite n = if explicit || not n.first_date then None else suffix_of cite
