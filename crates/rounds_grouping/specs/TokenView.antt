-- For the code: what its tokens are seen as.
use Rattle.std.specs.Prelude.{List, map, option_map}
use Rattle.std.specs.Coded.{Coded}
use Rattle.value_trees.specs.contracts.elem.Elem as names
use Rattle.value_trees.specs.declared.elem.Elem.{Elem}
use Rattle.rounds_grouping.specs.Tokens.{TokenValue, text, markup, link, transparent, begin, end}
use Rattle.rounds_grouping.specs.declared.tokens.Token.{Token}
use Rattle.rounds_grouping.specs.declared.tokens.Token.TheVariants as token

abbrev pub token_view : Token → TokenValue
token_view (token.Text f) = text f.now
token_view (token.Markup s) = markup s.now
token_view (token.Link f s) = link f.now s.now
token_view (token.Transparent i f) = transparent i f
token_view (token.Open d m) = begin d (option_map (λ n. n.now) m)
token_view token.Close = end

abbrev pub tokens_view : List Token → List TokenValue
tokens_view = map token_view

-- the code of an element
abbrev pub elem_code : Coded Elem
elem_code = (names.the_row).coded
