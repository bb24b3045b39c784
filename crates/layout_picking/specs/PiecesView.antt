-- The plain data that pieces stand for.
use Rattle.std.specs.Prelude.{List, map, false, option_map}
use Rattle.std.specs.Option.{option_map_or}
use Rattle.value_styles.specs.Element.{Look}
use Rattle.value_styles.specs.ElementView.{affixes_view, look}
use Rattle.value_styles.specs.PlainLook.{no_affix}
use Rattle.driver_lookup.specs.Years.{year_text}
use Rattle.layout_picking.specs.declared.pieces.Leaf.{Leaf}
use Rattle.layout_picking.specs.declared.pieces.Leaf.TheVariants as leaves
use Rattle.layout_picking.specs.declared.pieces.Node.{Node}
use Rattle.layout_picking.specs.declared.pieces.Piece.{Piece}
use Rattle.layout_picking.specs.declared.pieces.Piece.TheVariants as pieces
use Rattle.layout_picking.specs.declared.pieces.Shape.{Shape}
use Rattle.layout_picking.specs.Pieces.{LeafValue, text_leaf, number_leaf, suffix_leaf, chunked_leaf, link_leaf, mark_leaf, NodeValue, Token, opening, leaf_token, closing}

abbrev pub leaf_view : Leaf → LeafValue
leaf_view (leaves.Text t) = text_leaf t.now
leaf_view (leaves.Owned t) = text_leaf t
leaf_view (leaves.Number n) = number_leaf n
leaf_view (leaves.Suffix n) = suffix_leaf n
leaf_view (leaves.Year year era) = text_leaf (year_text year false era.now era.now)
leaf_view (leaves.Chunked t) = chunked_leaf t.now
leaf_view (leaves.Link t) = link_leaf t.now
leaf_view (leaves.Mark i) = mark_leaf i

abbrev pub node_view : Node → NodeValue
node_view node = record {
  look = record {
    affixes = option_map_or (λ a. affixes_view a.now) node.affixes no_affix;
    formatting = node.formatting;
    display = node.display;
  };
  quotes = node.quotes;
  strip_periods = node.strip_periods;
  delimiter = option_map (λ d. d.now) node.delimiter;
  meta = node.meta;
}

abbrev pub token_of : Piece → Token
token_of (pieces.Open node) = opening (node_view node)
token_of (pieces.Leaf leaf) = leaf_token (leaf_view leaf)
token_of pieces.Close = closing

abbrev pub tokens_of : List Piece → List Token
tokens_of = map token_of

abbrev pub shape_look : Shape → Look
shape_look s = look s.affixes.now s.formatting s.display
