-- A list cut into pieces, and changes of the list that are changes of pieces.
use Rattle.std.proofs.Common.{◌≡◌, ℕ, zero, suc, ◌+◌, ◌-◌, ◌<◌, List, [], ◌∷◌, ◌++◌, length, take, drop, Some, slice_set, refl, sym, ap, ◌∙◌, arith}
use Rattle.std.specs.List.{slice_get, sum}
use Rattle.std.proofs.lemmas.List.Sums.{sum_by-append}
use Rattle.std.proofs.lemmas.List.{drop-drop, drop-take, take-append-drop, take_all, drop_all, length-append, length-drop}
use Rattle.std.proofs.lemmas.Option.{slice_get-get_or}
use Rattle.std.proofs.Math.Seq.{get_or-append_seam, set-append_seam, take-append_seam}
use Rattle.layout_context.specs.Cuts.{cut}

pub sum_first : (n : ℕ) (ns : List ℕ) → sum (n ∷ ns) ≡ n + sum ns
sum_first n ns = omega (arith, sum_by-append (λ x. x) (n ∷ []) ns)

pub sum_one_more : (ns : List ℕ) (m : ℕ) → sum (ns ++ m ∷ []) ≡ sum ns + m
sum_one_more ns m = omega (arith, sum_by-append (λ x. x) ns (m ∷ []))

module _ {X : Type 0} where
  -- the pieces before the last one
  abbrev pub pieces : List ℕ → List X → List (List X)
  pieces [] xs = []
  pieces (n ∷ ns) xs = take n xs ∷ pieces ns (drop n xs)

  pub take_less : (n m : ℕ) (xs : List X) → take n (take (n + m) xs) ≡ take n xs
  take_less zero m xs = refl
  take_less (suc n) m [] = let e : suc n + m ≡ suc (n + m) = omega arith in rw e refl
  take_less (suc n) m (x ∷ xs) = let e : suc n + m ≡ suc (n + m) = omega arith in rw e (ap (λ ys. x ∷ ys) (take_less n m xs))

  dropped_first : (n : ℕ) (ns : List ℕ) (xs : List X) → drop (sum ns) (drop n xs) ≡ drop (sum (n ∷ ns)) xs
  dropped_first n ns xs = drop-drop (sum ns) n xs ∙ ap (λ k. drop k xs) (sym (sum_first n ns))

  -- they lie in the beginning
  pub pieces_same : (ns : List ℕ) (xs ys : List X) → take (sum ns) xs ≡ take (sum ns) ys → pieces ns xs ≡ pieces ns ys
  pieces_same [] xs ys h = refl
  pieces_same (n ∷ ns) xs ys h =
      let h : take (n + sum ns) xs ≡ take (n + sum ns) ys = ap (λ k. take k xs) (sym (sum_first n ns)) ∙ h ∙ ap (λ k. take k ys) (sum_first n ns) in
      let first : take n xs ≡ take n ys = sym (take_less n (sum ns) xs) ∙ ap (take n) h ∙ take_less n (sum ns) ys in
      let rest : take (sum ns) (drop n xs) ≡ take (sum ns) (drop n ys) = sym (drop-take n (sum ns) xs) ∙ ap (drop n) h ∙ drop-take n (sum ns) ys in
      ap (λ zs. zs ∷ pieces ns (drop n xs)) first ∙ ap (λ zs. take n ys ∷ zs) (pieces_same ns (drop n xs) (drop n ys) rest)

  pub cut_pieces : (ns : List ℕ) (xs : List X) → cut ns xs ≡ pieces ns xs ++ drop (sum ns) xs ∷ []
  cut_pieces [] xs = refl
  cut_pieces (n ∷ ns) xs = ap (λ zs. take n xs ∷ zs) (cut_pieces ns (drop n xs) ∙ ap (λ zs. pieces ns (drop n xs) ++ zs ∷ []) (dropped_first n ns xs))

  pub length-cut : (ns : List ℕ) (xs : List X) → length (cut ns xs) ≡ length ns + 1
  length-cut [] xs = refl
  length-cut (n ∷ ns) xs = omega (arith, length-cut ns (drop n xs))

  pub pieces_one_more : (ns : List ℕ) (m : ℕ) (xs : List X) → pieces (ns ++ m ∷ []) xs ≡ pieces ns xs ++ take m (drop (sum ns) xs) ∷ []
  pieces_one_more [] m xs = refl
  pieces_one_more (n ∷ ns) m xs = ap (λ zs. take n xs ∷ zs) (pieces_one_more ns m (drop n xs) ∙ ap (λ zs. pieces ns (drop n xs) ++ take m zs ∷ []) (dropped_first n ns xs))

  pub same_height : (ns : List ℕ) (xs ys : List X) → length (cut ns xs) ≡ length (cut ns ys)
  same_height ns xs ys = length-cut ns xs ∙ sym (length-cut ns ys)

  -- a number that takes all that is left adds an empty piece
  pub cut_at_end : (ns : List ℕ) (m : ℕ) (xs : List X) → sum ns + m ≡ length xs → cut (ns ++ m ∷ []) xs ≡ cut ns xs ++ [] ∷ []
  cut_at_end ns m xs h =
      let all : take m (drop (sum ns) xs) ≡ drop (sum ns) xs = take_all m (drop (sum ns) xs) (omega (arith, length-drop (sum ns) xs, h)) in
      let none : drop (sum (ns ++ m ∷ [])) xs ≡ [] = drop_all (sum (ns ++ m ∷ [])) xs (omega (arith, sum_one_more ns m, h)) in
      cut_pieces (ns ++ m ∷ []) xs
      ∙ ap (λ p. p ++ drop (sum (ns ++ m ∷ [])) xs ∷ []) (pieces_one_more ns m xs)
      ∙ ap (λ z. (pieces ns xs ++ take m (drop (sum ns) xs) ∷ []) ++ z ∷ []) none
      ∙ ap (λ z. (pieces ns xs ++ z ∷ []) ++ [] ∷ []) all
      ∙ ap (λ p. p ++ [] ∷ []) (sym (cut_pieces ns xs))

  -- without the last number the two last pieces are one
  pub cut_joined : (ns : List ℕ) (m : ℕ) (xs : List X) → cut ns xs ≡ pieces ns xs ++ (take m (drop (sum ns) xs) ++ drop (sum ns + m) xs) ∷ []
  cut_joined ns m xs =
      cut_pieces ns xs
      ∙ ap (λ z. pieces ns xs ++ z ∷ []) (sym (take-append-drop m (drop (sum ns) xs)) ∙ ap (λ z. take m (drop (sum ns) xs) ++ z) (drop-drop m (sum ns) xs))

  pub cut_two : (ns : List ℕ) (m : ℕ) (xs : List X) → cut (ns ++ m ∷ []) xs ≡ (pieces ns xs ++ take m (drop (sum ns) xs) ∷ []) ++ drop (sum ns + m) xs ∷ []
  cut_two ns m xs =
      cut_pieces (ns ++ m ∷ []) xs
      ∙ ap (λ p. p ++ drop (sum (ns ++ m ∷ [])) xs ∷ []) (pieces_one_more ns m xs)
      ∙ ap (λ k. (pieces ns xs ++ take m (drop (sum ns) xs) ∷ []) ++ drop k xs ∷ []) (sum_one_more ns m)

  -- and what lies behind them may go
  pub cut_below : (ns : List ℕ) (m : ℕ) (xs : List X) → cut ns (take (sum ns + m) xs) ≡ pieces ns xs ++ take m (drop (sum ns) xs) ∷ []
  cut_below ns m xs =
      cut_pieces ns (take (sum ns + m) xs)
      ∙ ap (λ p. p ++ drop (sum ns) (take (sum ns + m) xs) ∷ []) (pieces_same ns (take (sum ns + m) xs) xs (take_less (sum ns) m xs))
      ∙ ap (λ z. pieces ns xs ++ z ∷ []) (drop-take (sum ns) m xs)

  -- the last of some lists
  last_place : (P : List (List X)) (t : List X) → length (P ++ t ∷ []) - 1 ≡ length P
  last_place P t = omega (arith, length-append P (t ∷ []))

  pub last_of : (P : List (List X)) (t : List X) → slice_get (P ++ t ∷ []) (length (P ++ t ∷ []) - 1) ≡ Some t
  last_of P t =
      ap (slice_get (P ++ t ∷ [])) (last_place P t)
      ∙ slice_get-get_or (P ++ t ∷ []) (length P) t (omega (arith, length-append P (t ∷ [])))
      ∙ ap (λ z. Some z) (get_or-append_seam P t [] t)

  pub last_set : (P : List (List X)) (t u : List X) → slice_set (P ++ t ∷ []) (length (P ++ t ∷ []) - 1) u ≡ P ++ u ∷ []
  last_set P t u = ap (λ i. slice_set (P ++ t ∷ []) i u) (last_place P t) ∙ set-append_seam P t [] u

  pub before_last : (P : List (List X)) (t : List X) → take (length (P ++ t ∷ []) - 1) (P ++ t ∷ []) ≡ P
  before_last P t = ap (λ i. take i (P ++ t ∷ [])) (last_place P t) ∙ take-append_seam P (t ∷ [])

  -- a change of what lies behind the last piece's beginning
  pub cut_changed : (ns : List ℕ) (xs ys t : List X) → take (sum ns) ys ≡ take (sum ns) xs → drop (sum ns) ys ≡ t → cut ns ys ≡ pieces ns xs ++ t ∷ []
  cut_changed ns xs ys t s d =
      cut_pieces ns ys
      ∙ ap (λ p. p ++ drop (sum ns) ys ∷ []) (pieces_same ns ys xs s)
      ∙ ap (λ z. pieces ns xs ++ z ∷ []) d

-- f changes the last item alone
pub record ChangesEnd {X : Type 0} (f : List X → List X) : Type 0 where
  pub none : f [] ≡ []
  pub one : (x : X) → length (f (x ∷ [])) ≡ 1
  pub more : (x y : X) (ys : List X) → f (x ∷ y ∷ ys) ≡ x ∷ f (y ∷ ys)

module _ {X : Type 0} (f : List X → List X) (k : ChangesEnd f) where
  pub end-length : (xs : List X) → length (f xs) ≡ length xs
  end-length [] = ap length k.none
  end-length (x ∷ []) = k.one x
  end-length (x ∷ y ∷ ys) = omega (arith, ap length (k.more x y ys), end-length (y ∷ ys))

  pub end-take : (n : ℕ) (xs : List X) → n < length xs → take n (f xs) ≡ take n xs
  end-take zero xs h = refl
  end-take (suc n) [] h = absurd (omega (arith, h))
  end-take (suc n) (x ∷ []) h = absurd (omega (arith, h))
  end-take (suc n) (x ∷ y ∷ ys) h = ap (take (suc n)) (k.more x y ys) ∙ ap (λ zs. x ∷ zs) (end-take n (y ∷ ys) (omega (arith, h)))

  pub end-drop : (n : ℕ) (xs : List X) → n < length xs → drop n (f xs) ≡ f (drop n xs)
  end-drop zero xs h = refl
  end-drop (suc n) [] h = absurd (omega (arith, h))
  end-drop (suc n) (x ∷ []) h = absurd (omega (arith, h))
  end-drop (suc n) (x ∷ y ∷ ys) h = ap (drop (suc n)) (k.more x y ys) ∙ end-drop n (y ∷ ys) (omega (arith, h))
