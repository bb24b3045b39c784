-- Writing piece by piece is writing of parts.
use Rattle.std.proofs.Common.{◌≡◌, ◌-◌, Bool, true, false, List, [], ◌∷◌, ◌++◌, length, take, Some, refl, sym, ap, ◌∙◌, append_assoc, append-nil, arith}
use Rattle.std.specs.Option.{option_and_then}
use Rattle.std.specs.List.{slice_get}
use Rattle.std.proofs.lemmas.List.{length-append}
use Rattle.std.proofs.Math.Seq.{take-append_seam}
use Rattle.driver_lookup.specs.Lookup.{Lookup}
use Rattle.layout_picking.specs.Pieces.{Part, leaf_part, node_part, Parts, no_parts, part, parts_of, Token, closing, part_tokens, parts_tokens, tokens}
use Rattle.layout_context.specs.WritingState.{State}
use Rattle.csl_writing.specs.PartsWritten.{node_begun, node_ended, delimiter_pushed, part_written, joined_written, rest_written, parts_written}
use Rattle.csl_writing.specs.PieceRun.{OpenValue, Run, innermost, delimiter_of, separated, after_leaf, after_opening, closed_run, after_token, after_tokens}

abbrev pub run : List OpenValue → Bool → State → Run
run nodes f a = record { nodes = nodes; after_part = f; written = a }

-- the innermost of the nodes with one more
pub last_get : {X : Type 0} (xs : List X) (x : X) → slice_get (xs ++ x ∷ []) (length xs) ≡ Some x
last_get [] x = refl
last_get (y ∷ ys) x = last_get ys x

innermost_more : (nodes : List OpenValue) (o : OpenValue) → innermost (nodes ++ o ∷ []) ≡ Some o
innermost_more nodes o = ap (slice_get (nodes ++ o ∷ [])) (omega (arith, length-append nodes (o ∷ []))) ∙ last_get nodes o

without_innermost : (nodes : List OpenValue) (o : OpenValue) → take (length (nodes ++ o ∷ []) - 1) (nodes ++ o ∷ []) ≡ nodes
without_innermost nodes o = ap (λ n. take n (nodes ++ o ∷ [])) (omega (arith, length-append nodes (o ∷ []))) ∙ take-append_seam nodes (o ∷ [])

abbrev has_parts : Parts → Bool
has_parts no_parts = false
has_parts (part p ps) = true

-- one more token
pub after_tokens_more : (k : Lookup) (ts : List Token) (t : Token) (r : Run) → after_tokens k (ts ++ t ∷ []) r ≡ after_token k t (after_tokens k ts r)
after_tokens_more k [] t r = refl
after_tokens_more k (u ∷ ts) t r = after_tokens_more k ts t (after_token k u r)

-- the closing of the innermost node
pub close_step : (k : Lookup) (o : OpenValue) (nodes ns : List OpenValue) (f : Bool) (a : State) → ns ≡ nodes ++ o ∷ [] → closed_run k (innermost ns) (run ns f a) ≡ run nodes true (node_ended k o.node o.formats a)
unfolding closed_run
close_step k o nodes ns f a e =
    let top : innermost ns ≡ Some o = ap innermost e ∙ innermost_more nodes o in
    let rest : take (length ns - 1) ns ≡ nodes = ap (λ xs. take (length xs - 1) xs) e ∙ without_innermost nodes o in
    ap (λ x. closed_run k x (run ns f a)) top ∙ ap (λ xs. run xs true (node_ended k o.node o.formats a)) rest

mutual
  unfolding after_token after_leaf after_opening separated

  part_run : (k : Lookup) (p : Part) (ts : List Token) (nodes : List OpenValue) (f : Bool) (a : State) → after_tokens k (part_tokens p ++ ts) (run nodes f a) ≡ after_tokens k ts (run nodes true (part_written k p (separated k (run nodes f a))))
  part_run k (leaf_part leaf) ts nodes f a = refl
  part_run k (node_part node ps) ts nodes f a =
      let b = separated k (run nodes f a) in
      let o : OpenValue = record { node = node; formats = length b.formats } in
      let ns = nodes ++ o ∷ [] in
      let inside : State = joined_written k node.delimiter ps (node_begun k node b) in
      ap (λ us. after_tokens k us (run ns false (node_begun k node b))) (append_assoc (parts_tokens ps) (closing ∷ []) ts)
      ∙ joined_run k ps (closing ∷ ts) ns (node_begun k node b)
      ∙ ap (λ d. after_tokens k (closing ∷ ts) (run ns (has_parts ps) (joined_written k d ps (node_begun k node b)))) (ap (option_and_then (λ (x : OpenValue). x.node.delimiter)) (innermost_more nodes o))
      ∙ ap (after_tokens k ts) (close_step k o nodes ns (has_parts ps) inside refl)

  joined_run : (k : Lookup) (ps : Parts) (ts : List Token) (nodes : List OpenValue) (a : State) → after_tokens k (parts_tokens ps ++ ts) (run nodes false a) ≡ after_tokens k ts (run nodes (has_parts ps) (joined_written k (delimiter_of nodes) ps a))
  joined_run k no_parts ts nodes a = refl
  joined_run k (part p ps) ts nodes a =
      ap (λ us. after_tokens k us (run nodes false a)) (append_assoc (part_tokens p) (parts_tokens ps) ts)
      ∙ part_run k p (parts_tokens ps ++ ts) nodes false a
      ∙ rest_run k ps ts nodes (part_written k p a)

  rest_run : (k : Lookup) (ps : Parts) (ts : List Token) (nodes : List OpenValue) (a : State) → after_tokens k (parts_tokens ps ++ ts) (run nodes true a) ≡ after_tokens k ts (run nodes true (rest_written k (delimiter_of nodes) ps a))
  rest_run k no_parts ts nodes a = refl
  rest_run k (part p ps) ts nodes a =
      ap (λ us. after_tokens k us (run nodes true a)) (append_assoc (part_tokens p) (parts_tokens ps) ts)
      ∙ part_run k p (parts_tokens ps ++ ts) nodes true a
      ∙ rest_run k ps ts nodes (part_written k p (delimiter_pushed k (delimiter_of nodes) a))

-- the tokens of parts write the parts
pub parts_run : (k : Lookup) (ps : List Part) (a : State) → (after_tokens k (tokens ps) (run [] false a)).written ≡ parts_written k ps a
unfolding parts_written
parts_run k ps a =
    ap (λ us. (after_tokens k us (run [] false a)).written) (sym (append-nil (tokens ps)))
    ∙ ap (λ (r : Run). r.written) (joined_run k (parts_of ps) [] [] a)
