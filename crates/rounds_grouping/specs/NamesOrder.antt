-- For the code: the order of names elements, which is that of their tokens.
use Rattle.std.specs.Prelude.{option_map}
use Rattle.std.specs.Borrow.{Bor}
use Rattle.std.specs.Cmp.Lexicographic.{slice_cmp}
use Rattle.std.specs.declared.cmp.Ordering.{Ordering}
use Rattle.value_trees.specs.declared.elem.Elem.{Elem}
use Rattle.rounds_grouping.specs.Tokens.{TokenValue, text, markup, link, transparent, begin, end, elem_tokens}
use Rattle.rounds_grouping.specs.contracts.tokens.TokenOrd.TheImpl as token_ord
use Rattle.rounds_grouping.specs.declared.tokens.Token.{Token}
use Rattle.rounds_grouping.specs.declared.tokens.Token.TheVariants as token

-- a reference to a value: the order doesn't tell where the value lies
abbrev pub lent : {A : Type 0} → A → Bor A
lent x = record { ref_ptr = (0, 0); now = x }

-- a token that is seen as this
abbrev pub token_of : TokenValue → Token
token_of (text f) = token.Text (lent f)
token_of (markup s) = token.Markup (lent s)
token_of (link f s) = token.Link (lent f) (lent s)
token_of (transparent i f) = token.Transparent i f
token_of (begin d m) = token.Open d (option_map lent m)
token_of end = token.Close

abbrev pub value_cmp : TokenValue → TokenValue → Ordering
value_cmp a b = (token_ord.ghosts).cmp (token_of a) (token_of b)

abbrev pub names_cmp : Elem → Elem → Ordering
names_cmp a b = slice_cmp value_cmp (elem_tokens a) (elem_tokens b)
