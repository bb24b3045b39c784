-- What a part of a layout gives.
use Rattle.std.specs.Prelude.{List, [], ◌∷◌, ◌++◌, Bool, true, false}
use Rattle.layout_picking.specs.declared.notes.Called.{Called}
use Rattle.layout_picking.specs.declared.notes.Notes.{Notes}
use Rattle.layout_picking.specs.Notes.{called_by_both}
use Rattle.layout_picking.specs.Pieces.{NodeValue, Part, Token, tokens, node_of}

pub record Picked : Type 0 where
  pub parts : List Part
  -- whether it calls variables, and whether one of them has content
  pub called : Called
  -- what is noted behind it
  pub noted : Notes

-- no part, and no call
abbrev pub nothing : Notes → Picked
nothing n = record { parts = []; called = Called.None; noted = n }

-- no part of a variable that is called
abbrev pub without_content : Notes → Picked
without_content n = record { parts = []; called = Called.Empty; noted = n }

-- one behind the other
abbrev pub followed : Picked → Picked → Picked
followed a b = record {
  parts = a.parts ++ b.parts;
  called = called_by_both a.called b.called;
  noted = b.noted;
}

-- whether there are parts
abbrev pub gives : List Part → Bool
gives [] = false
gives (p ∷ ps) = true

-- a variable has content where it gives a part
abbrev pub called_with : Bool → Called
called_with true = Called.Filled
called_with false = Called.Empty

-- a group gives nothing where it calls variables and none has content
abbrev pub group_parts : Called → NodeValue → List Part → List Part
group_parts Called.Empty node ps = []
group_parts Called.None node ps = node_of node ps
group_parts Called.Filled node ps = node_of node ps

-- a group that gives a part counts as a variable with content; else what stands in it counts
abbrev pub group_called : List Part → Called → Called
group_called [] c = c
group_called (p ∷ ps) c = Called.Filled

abbrev pub picked_group : NodeValue → Picked → Picked
picked_group node inner =
    let ps = group_parts inner.called node inner.parts in
    record { parts = ps; called = group_called ps inner.called; noted = inner.noted }

-- a macro is a node of what stands in it, and calls what is called there
abbrev pub in_macro : NodeValue → Picked → Picked
in_macro node inner =
    record { parts = node_of node inner.parts; called = inner.called; noted = inner.noted }

-- what a picking holds at some place: what is picked so far, what was called, what is noted
pub record Held : Type 0 where
  pub tokens : List Token
  pub called : Called
  pub noted : Notes

-- with what a further part gives
abbrev pub added : Picked → Held → Held
added picked held = record {
  tokens = held.tokens ++ tokens picked.parts;
  called = called_by_both held.called picked.called;
  noted = picked.noted;
}
