-- The pieces of a block, and what stands before them.
use Rattle.std.proofs.Common.{◌≡◌, ℕ, suc, List, [], ◌∷◌, ◌++◌, map, length, take, append_assoc, ◌||◌, Bool, true, false, Option, Some, None, sym, ap, ◌∙◌, refl}
use Rattle.std.proofs.lemmas.List.{append-nil, take_at}
use Rattle.layout_picking.specs.Pieces.{Part, tokens, Token}
use Rattle.layout_picking.specs.NameRules.{Rules}
use Rattle.layout_picking.specs.Names.{Terms, joined_parts, last_words, et_al_parts, joined_names}
use Rattle.layout_picking.specs.BlockRun.{before_parts, preceded}
use Rattle.layout_picking.specs.Picked.{gives}
use Rattle.layout_picking.proofs.Tokens.{tokens-append}

pub length-mapped : {X Y : Type 0} (f : X → Y) (xs : List X) → length (map f xs) ≡ length xs
length-mapped f [] = refl
length-mapped f (x ∷ xs) = ap (λ n. suc n) (length-mapped f xs)

preceded_tokens : (before : Option (List ℕ)) (ps : List Part) → gives ps ≡ true → tokens (preceded before ps) ≡ tokens (before_parts before) ++ tokens ps
preceded_tokens before [] some = cc
preceded_tokens None (p ∷ ps) some = refl
preceded_tokens (Some words) (p ∷ ps) some = refl

-- a block gives something where some names are cut or some are written
module _ {X : Type 0} (f : X → Part) (terms : Terms) (r : Rules) where
  pub block_gives : (cut : Bool) (xs : List X) → gives (joined_names terms r cut (map f xs)) ≡ (cut || gives (map f xs))
  block_gives true [] = refl
  block_gives false [] = refl
  block_gives true (x ∷ xs) = refl
  block_gives false (x ∷ xs) = refl

-- a block that gives something, of whose names some may be cut
module _ {X : Type 0} (f : X → Part) (terms : Terms) (r : Rules) (cut : Bool) (before : Option (List ℕ)) (old first between after : List Token) where
  pub block_written : (xs : List X) → gives (joined_names terms r cut (map f xs)) ≡ true
      → first ≡ old ++ tokens (before_parts before)
      → between ≡ first ++ tokens (joined_parts r.name_delimiter (last_words terms r cut (length xs)) (map f xs))
      → after ≡ between ++ tokens (et_al_parts terms cut)
      → after ≡ old ++ tokens (preceded before (joined_names terms r cut (map f xs)))
  block_written xs some a b d =
      let joined = λ (n : ℕ). joined_parts r.name_delimiter (last_words terms r cut n) (map f xs) in
      let end = et_al_parts terms cut in
      let names = tokens (joined (length xs)) in
      d
      ∙ ap (λ ts. ts ++ tokens end) (b ∙ ap (λ ts. ts ++ names) a)
      ∙ append_assoc (old ++ tokens (before_parts before)) names (tokens end)
      ∙ append_assoc old (tokens (before_parts before)) (names ++ tokens end)
      ∙ ap (λ ts. old ++ (tokens (before_parts before) ++ ts)) (sym (tokens-append (joined (length xs)) end))
      ∙ ap (λ n. old ++ (tokens (before_parts before) ++ tokens (joined n ++ end))) (sym (length-mapped f xs))
      ∙ ap (λ ts. old ++ ts) (sym (preceded_tokens before (joined_names terms r cut (map f xs)) some))

-- a block that gives nothing is taken back
no_parts_before : (before : Option (List ℕ)) (ps : List Part) → gives ps ≡ false → tokens (preceded before ps) ≡ []
no_parts_before before [] none = refl
no_parts_before before (p ∷ ps) none = cc

pub block_unwritten : (before : Option (List ℕ)) (ps : List Part) (start : ℕ) (old first : List Token) (names : List Token) (now after : List Token)
    → gives ps ≡ false → length old ≡ start → first ≡ old ++ tokens (before_parts before) → now ≡ first ++ names → after ≡ take start now
    → after ≡ old ++ tokens (preceded before ps)
block_unwritten before ps start old first names now after none s a b e =
    e
    ∙ ap (take start) (b ∙ ap (λ ts. ts ++ names) a ∙ append_assoc old (tokens (before_parts before)) names)
    ∙ take_at old (tokens (before_parts before) ++ names) start s
    ∙ sym (append-nil old)
    ∙ ap (λ ts. old ++ ts) (sym (no_parts_before before ps none))
