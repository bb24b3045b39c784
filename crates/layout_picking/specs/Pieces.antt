-- What a layout picks: leaves, and nodes with parts inside. A part is written as an opening, what
-- stands inside, and a closing.
use Rattle.std.specs.Prelude.{ℕ, List, [], ◌∷◌, ◌++◌, Bool, Option, Some, None}
use Rattle.value_sources.specs.declared.entry.ChunkedString.{ChunkedString}
use Rattle.value_trees.specs.declared.elem.ElemMeta.{ElemMeta}
use Rattle.value_styles.specs.Element.{Look}

pub data LeafValue : Type 0 where
  text_leaf : List ℕ → LeafValue
  -- a number in decimal digits
  number_leaf : ℕ → LeafValue
  -- the letters of a year suffix
  suffix_leaf : ℕ → LeafValue
  chunked_leaf : ChunkedString → LeafValue
  -- a link of a text to itself
  link_leaf : ChunkedString → LeafValue
  -- the mark of a locator of the caller's own, by the place of the cite
  mark_leaf : ℕ → LeafValue

pub record NodeValue : Type 0 where
  pub look : Look
  pub quotes : Bool
  pub strip_periods : Bool
  -- stands between two parts of the node
  pub delimiter : Option (List ℕ)
  pub meta : Option ElemMeta

mutual
  pub data Part : Type 0 where
    leaf_part : LeafValue → Part
    node_part : NodeValue → Parts → Part

  pub data Parts : Type 0 where
    no_parts : Parts
    part : Part → Parts → Parts

abbrev pub parts_of : List Part → Parts
parts_of [] = no_parts
parts_of (p ∷ ps) = part p (parts_of ps)

-- a part in the order in which it is written
pub data Token : Type 0 where
  opening : NodeValue → Token
  leaf_token : LeafValue → Token
  closing : Token

abbrev mutual
  pub part_tokens : Part → List Token
  part_tokens (leaf_part leaf) = leaf_token leaf ∷ []
  part_tokens (node_part node ps) = opening node ∷ (parts_tokens ps ++ closing ∷ [])

  pub parts_tokens : Parts → List Token
  parts_tokens no_parts = []
  parts_tokens (part p ps) = part_tokens p ++ parts_tokens ps

abbrev pub tokens : List Part → List Token
tokens ps = parts_tokens (parts_of ps)

-- a node, where it has parts
abbrev pub node_of : NodeValue → List Part → List Part
node_of node [] = []
node_of node (p ∷ ps) = node_part node (parts_of (p ∷ ps)) ∷ []

-- a leaf and a suffix behind it, where they are there
abbrev pub leaves_of : Option LeafValue → Option ℕ → List Part
leaves_of None None = []
leaves_of None (Some n) = leaf_part (suffix_leaf n) ∷ []
leaves_of (Some leaf) None = leaf_part leaf ∷ []
leaves_of (Some leaf) (Some n) = leaf_part leaf ∷ leaf_part (suffix_leaf n) ∷ []

-- the node of an element
abbrev pub plain_node : Look → Bool → Bool → Option ElemMeta → NodeValue
plain_node look quotes strip m =
    record { look = look; quotes = quotes; strip_periods = strip; delimiter = None; meta = m }
