-- Writing piece by piece: what is open, and what each token makes of it.
use Rattle.std.specs.Prelude.{ℕ, ◌-◌, Bool, true, false, if◌then◌else◌, List, [], ◌∷◌, ◌++◌, length, take, slice_get, Option, None, Some}
use Rattle.std.specs.Option.{option_and_then}
use Rattle.driver_lookup.specs.Lookup.{Lookup}
use Rattle.layout_picking.specs.Pieces.{NodeValue, LeafValue, Token, opening, leaf_token, closing}
use Rattle.layout_context.specs.WritingState.{State}
use Rattle.csl_writing.specs.PartsWritten.{leaf_written, node_begun, node_ended, delimiter_pushed}

-- a node that is open, and how many formats there were before it
pub record OpenValue : Type 0 where
  pub node : NodeValue
  pub formats : ℕ

-- the nodes that are open, the innermost last; whether a part stands before in the innermost; and
-- what is written
pub record Run : Type 0 where
  pub nodes : List OpenValue
  pub after_part : Bool
  pub written : State

abbrev pub innermost : List OpenValue → Option OpenValue
innermost nodes = slice_get nodes (length nodes - 1)

abbrev pub delimiter_of : List OpenValue → Option (List ℕ)
delimiter_of nodes = option_and_then (λ (o : OpenValue). o.node.delimiter) (innermost nodes)

-- the delimiter of the innermost node, where a part stands before
unfoldable pub separated : Lookup → Run → State
separated k r = if r.after_part then delimiter_pushed k (delimiter_of r.nodes) r.written
    else r.written

unfoldable pub after_leaf : Lookup → LeafValue → Run → Run
after_leaf k leaf r = record {
  nodes = r.nodes;
  after_part = true;
  written = leaf_written k leaf (separated k r);
}

unfoldable pub after_opening : Lookup → NodeValue → Run → Run
after_opening k node r =
    let a = separated k r in
    record {
      nodes = r.nodes ++ (record { node = node; formats = length a.formats }) ∷ [];
      after_part = false;
      written = node_begun k node a;
    }

unfoldable pub closed_run : Lookup → Option OpenValue → Run → Run
closed_run k None r = record r { after_part = true }
closed_run k (Some o) r = record {
  nodes = take (length r.nodes - 1) r.nodes;
  after_part = true;
  written = node_ended k o.node o.formats r.written;
}

unfoldable pub after_token : Lookup → Token → Run → Run
after_token k (leaf_token leaf) r = after_leaf k leaf r
after_token k (opening node) r = after_opening k node r
after_token k closing r = closed_run k (innermost r.nodes) r

abbrev pub after_tokens : Lookup → List Token → Run → Run
after_tokens k [] r = r
after_tokens k (t ∷ ts) r = after_tokens k ts (after_token k t r)
