-- For the code: macros that are known to give nothing.
use Rattle.std.specs.Prelude.{◌≡◌, ℕ, [], Option, Some, is_some}
use Rattle.std.specs.BTreeMap.{get_by}
use Rattle.std.specs.Cmp.Lexicographic.{slice_cmp}
use Rattle.std.specs.Ordering.{nat_cmp, ordering_then}
use Rattle.value_sources.specs.declared.names.NameDisambiguationProperties.{NameDisambiguationProperties}
use Rattle.value_styles.specs.Element.{Name}
use Rattle.layout_picking.specs.declared.notes.Called.{Called}
use Rattle.layout_picking.specs.declared.notes.Notes.{Notes}
use Rattle.layout_picking.specs.declared.held.Opened.{Opened}
use Rattle.layout_picking.specs.declared.quiet.Seen.{Seen}
use Rattle.layout_picking.specs.declared.quiet.QuietMacros.{QuietMacros}
use Rattle.layout_picking.specs.Pieces.{NodeValue}
use Rattle.layout_picking.specs.Picked.{Picked, Held, added, in_macro}
use Rattle.layout_picking.specs.Nodes.{inside, remembered}
use Rattle.layout_picking.specs.Pick.{Call}

-- what is noted, but for the forms of names
abbrev pub seen : Notes → Seen
seen n = record {
  first_date = n.first_date;
  suppressed = n.suppressed;
  checked_disambiguate = n.checked_disambiguate;
  has_first_name = is_some n.first_name;
  usage = n.usage;
}

-- forms of names that were noted are noted still
abbrev pub Keeps : Notes → Notes → Type 0
Keeps n m = (p : NameDisambiguationProperties) → n.first_name ≡ Some p → m.first_name ≡ Some p

-- a call gives nothing and notes nothing, and counts so
abbrev pub GivesNothing : (NodeValue → Notes → Picked) → Called → Notes → Type 0
GivesNothing call c n = (node : NodeValue)
    → call node n ≡ record { parts = []; called = c; noted = n }

-- what the call of a macro at a depth counts as, where it is known
abbrev pub told : QuietMacros → Name → ℕ → Option Called
told q name depth =
    get_by (λ k. ordering_then (slice_cmp nat_cmp name k.0.now) (nat_cmp depth k.1)) q.macros

-- where no more is noted than was, each that is known gives nothing
abbrev pub IsQuiet : (ℕ → Call) → QuietMacros → Notes → Type 0
IsQuiet call q now =
    (n : Notes) × (q.at ≡ seen n) × Keeps n now
    × ((name : Name) (depth : ℕ) (c : Called) → told q name depth ≡ Some c
    → GivesNothing (call depth name) c n)

-- an open macro: what is held is what its children give, behind what was held where it was called
pub record IsOpened (call : ℕ
    → Call) (name : Name) (depth : ℕ) (before : Seen) (o : Opened) (h : Held) : Type 0 where
  pub node : NodeValue
  pub outside : Held
  -- what the children give
  pub inner : Notes → Picked
  pub means : (node : NodeValue) (n : Notes) → call depth name node n ≡ in_macro node (inner n)
  pub opened : o ≡ remembered outside
  pub noted : before ≡ seen outside.noted
  pub keeps : Keeps outside.noted (inner outside.noted).noted
  pub holds : h ≡ added (inner outside.noted) (inside node outside)
