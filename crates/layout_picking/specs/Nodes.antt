-- For the code: what a picking holds where a node is opened, and where it is closed again.
use Rattle.std.specs.Prelude.{◌+◌, [], ◌∷◌, ◌++◌, take, length, nat_le, Bool, true, false, ◌||◌}
use Rattle.std.specs.Bool.{if◌then◌else◌}
use Rattle.layout_picking.specs.declared.notes.Called.{Called}
use Rattle.layout_picking.specs.declared.held.Opened.{Opened}
use Rattle.layout_picking.specs.Notes.{called_by_both}
use Rattle.layout_picking.specs.Pieces.{NodeValue, opening, closing}
use Rattle.layout_picking.specs.Picked.{Held}

-- inside a node that was just opened nothing is called yet
abbrev pub inside : NodeValue → Held → Held
inside node h = record {
  tokens = h.tokens ++ opening node ∷ [];
  called = Called.None;
  noted = h.noted;
}

-- what is remembered of the place before the node
abbrev pub remembered : Held → Opened
remembered h = record { before = length h.tokens; inside = length h.tokens + 1; called = h.called }

-- nothing stands in the node
abbrev pub is_empty_node : Opened → Held → Bool
is_empty_node o h = nat_le (length h.tokens) o.inside

-- the node is taken out again; what was called and noted in it stays
abbrev pub cut_back : Opened → Held → Held
cut_back o h = record {
  tokens = take o.before h.tokens;
  called = called_by_both o.called h.called;
  noted = h.noted;
}

abbrev pub closed_as : Called → Opened → Held → Held
closed_as called o h = record {
  tokens = h.tokens ++ closing ∷ [];
  called = called_by_both o.called called;
  noted = h.noted;
}

abbrev pub is_without_content : Called → Bool
is_without_content Called.Empty = true
is_without_content _ = false

abbrev pub macro_closed : Opened → Held → Held
macro_closed o h = if is_empty_node o h then cut_back o h else closed_as h.called o h

abbrev pub group_closed : Opened → Held → Held
group_closed o h =
    if is_without_content h.called || is_empty_node o h then cut_back o h
    else closed_as Called.Filled o h
