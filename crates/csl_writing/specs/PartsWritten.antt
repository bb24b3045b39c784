-- What writing makes of the parts that a layout picks.
use Rattle.std.specs.Prelude.{ℕ, if◌then◌else◌, List, length, Option, None, Some}
use Rattle.std.specs.Fmt.{decimal}
use Rattle.driver_lookup.specs.Lookup.{Lookup}
use Rattle.driver_lookup.specs.SuffixLetters.{suffix_letters}
use Rattle.layout_context.specs.Steps.{term_text}
use Rattle.layout_picking.specs.Pieces.{LeafValue, text_leaf, number_leaf, suffix_leaf, chunked_leaf, link_leaf, mark_leaf, NodeValue, Part, leaf_part, node_part, Parts, no_parts, part, parts_of}
use Rattle.layout_context.specs.WritingState.{State, prefixed, opened, closed_elem, stripping, not_stripping}
use Rattle.layout_context.specs.Wording.{pushed, chunks_pushed, joined_values, linked, marked, quotes_opened, quotes_closed, pulling_if_asked, suffixed}

unfoldable pub leaf_written : Lookup → LeafValue → State → State
leaf_written k (text_leaf s) a = pushed k s a
leaf_written k (number_leaf n) a = pushed k (decimal n) a
leaf_written k (suffix_leaf n) a = pushed k (suffix_letters n) a
leaf_written k (chunked_leaf t) a = chunks_pushed k t.0 a
leaf_written k (link_leaf t) a = linked t.0 (joined_values t.0) a
leaf_written k (mark_leaf cite) a = marked cite a

-- before the parts of a node: its prefix, a frame in its formatting, the opening quote, and periods
-- are left out
unfoldable pub node_begun : Lookup → NodeValue → State → State
node_begun k node a =
    let b = opened node.look.formatting (prefixed node.look.affixes.prefix a) in
    stripping node.strip_periods (if node.quotes then quotes_opened k b else b)

-- behind its parts, where there were so many formats before the node: no period is left out any
-- more, the closing quote, the frame is closed, and the suffix
unfoldable pub node_ended : Lookup → NodeValue → ℕ → State → State
node_ended k node formats a =
    let b = if node.strip_periods then not_stripping a else a in
    let c = if node.quotes then pulling_if_asked k (quotes_closed k b) else b in
    suffixed k node.look.affixes.suffix formats (length (term_text node.look.affixes.prefix))
    (closed_elem formats node.look.display node.meta c)

-- a delimiter, if there is one
unfoldable pub delimiter_pushed : Lookup → Option (List ℕ) → State → State
delimiter_pushed k None a = a
delimiter_pushed k (Some s) a = pushed k s a

abbrev mutual
  pub part_written : Lookup → Part → State → State
  part_written k (leaf_part leaf) a = leaf_written k leaf a
  part_written k (node_part node ps) a =
      node_ended k node (length a.formats)
      (joined_written k node.delimiter ps (node_begun k node a))

  -- parts with a delimiter between them
  pub joined_written : Lookup → Option (List ℕ) → Parts → State → State
  joined_written k d no_parts a = a
  joined_written k d (part p ps) a = rest_written k d ps (part_written k p a)

  -- parts with a delimiter before each
  pub rest_written : Lookup → Option (List ℕ) → Parts → State → State
  rest_written k d no_parts a = a
  rest_written k d (part p ps) a = rest_written k d ps (part_written k p (delimiter_pushed k d a))

-- the parts of a layout, one behind the other
unfoldable pub parts_written : Lookup → List Part → State → State
parts_written k ps a = joined_written k None (parts_of ps) a
