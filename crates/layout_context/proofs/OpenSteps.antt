-- Steps on open frames whose children lie in one list.
use Rattle.std.proofs.Common.{◌≡◌, ℕ, zero, suc, ◌+◌, ◌-◌, ◌<◌, ◌≤◌, Bool, true, false, List, [], ◌∷◌, ◌++◌, length, take, drop, Option, Some, None, slice_set, refl, sym, ap, ◌∙◌, arith, inl, inr, ◌⊎◌}
use Rattle.std.specs.List.{slice_get, sum}
use Rattle.std.specs.Option.{option_map_or, option_and_then, unwrap_or}
use Rattle.std.proofs.lemmas.Bool.{cases_lt, false≢true}
use Rattle.std.specs.Prelude.{is_none, ◌&&◌, Result, Ok, Err, OnOk, IfOk}
use Rattle.std.proofs.lemmas.List.{take_all, drop_all, take_at, drop_at, length-take-le, length-drop, take-append-le, drop-append-le}
use Rattle.value_trees.specs.Child.{Child, text, elem, markup, link, transparent, kids_of}
use Rattle.value_trees.specs.Tree.{last_text, child_last_text}
use Rattle.value_trees.specs.LastText.{put_last_text}
use Rattle.value_trees.specs.LastTextStep.{last_child, put_last}
use Rattle.value_trees.specs.Simplify.{join_last}
use Rattle.value_lists.specs.Stack.{topmost}
use Rattle.value_sources.specs.declared.formatting.Formatted.{Formatted}
use Rattle.value_sources.specs.declared.formatting.Formatting.{Formatting}
use Rattle.value_sources.specs.declared.formatting.Display.{Display}
use Rattle.value_trees.specs.declared.elem.ElemMeta.{ElemMeta}
use Rattle.value_trees.proofs.Nested.{one_before}
use Rattle.layout_context.specs.Cuts.{cut}
use Rattle.layout_context.specs.OpenFrames.{Frames, on_last_text, end_sole_text, is_filled, filled, on_filled, top, on_top, below, closed, committed, on_last_child, takes, extended}
use Rattle.layout_context.proofs.CutSteps.{pieces, cut_pieces, cut_two, cut_joined, cut_below, cut_changed, last_of, last_set, before_last, ChangesEnd, end-length, end-take, end-drop}

-- ---- frames of which the top one is known
top_of : (P : Frames) (t : List Child) → top (P ++ t ∷ []) ≡ Some t
top_of P t = last_of P t

on_top_of : (f : List Child → List Child) (P : Frames) (t : List Child) → on_top f (P ++ t ∷ []) ≡ P ++ f t ∷ []
on_top_of f P t =
    let F = P ++ t ∷ [] in
    ap (λ o. option_map_or (λ frame. slice_set F (length F - 1) (f frame)) o F) (top_of P t) ∙ last_set P t (f t)

committed_of : (d : Option Display) (m : Option ElemMeta) (P : Frames) (u t : List Child) → committed d m ((P ++ u ∷ []) ++ t ∷ []) ≡ P ++ (u ++ closed d m t) ∷ []
committed_of d m P u t =
    let F = (P ++ u ∷ []) ++ t ∷ [] in
    ap (λ o. option_map_or (λ frame. on_top (λ cs. cs ++ closed d m frame) (below F)) o F) (top_of (P ++ u ∷ []) t)
    ∙ ap (on_top (λ cs. cs ++ closed d m t)) (before_last (P ++ u ∷ []) t)
    ∙ on_top_of (λ cs. cs ++ closed d m t) P u

-- ---- frames that are cut from one list
pub top_cut : (ns : List ℕ) (xs : List Child) → top (cut ns xs) ≡ Some (drop (sum ns) xs)
top_cut ns xs = ap top (cut_pieces ns xs) ∙ top_of (pieces ns xs) (drop (sum ns) xs)

pub top_is : (ns : List ℕ) (xs cs : List Child) (F : Frames) → cut ns xs ≡ F → Some cs ≡ top F → cs ≡ drop (sum ns) xs
top_is ns xs cs F p h = ap (λ o. unwrap_or o []) (h ∙ ap top (sym p) ∙ top_cut ns xs)

pub on_top_cut : (f : List Child → List Child) (ns : List ℕ) (xs ys : List Child) → take (sum ns) ys ≡ take (sum ns) xs → drop (sum ns) ys ≡ f (drop (sum ns) xs) → cut ns ys ≡ on_top f (cut ns xs)
on_top_cut f ns xs ys s d =
    cut_changed ns xs ys (f (drop (sum ns) xs)) s d
    ∙ sym (ap (on_top f) (cut_pieces ns xs) ∙ on_top_of f (pieces ns xs) (drop (sum ns) xs))

-- the last number goes
pub joined_cut : (ns : List ℕ) (m : ℕ) (xs : List Child) → cut ns xs ≡ committed None None (cut (ns ++ m ∷ []) xs)
joined_cut ns m xs =
    cut_joined ns m xs
    ∙ sym (ap (committed None None) (cut_two ns m xs) ∙ committed_of None None (pieces ns xs) (take m (drop (sum ns) xs)) (drop (sum ns + m) xs))

-- and what lies behind it
pub below_cut : (ns : List ℕ) (m : ℕ) (xs : List Child) → cut ns (take (sum ns + m) xs) ≡ below (cut (ns ++ m ∷ []) xs)
below_cut ns m xs =
    cut_below ns m xs
    ∙ sym (ap below (cut_two ns m xs) ∙ before_last (pieces ns xs ++ take m (drop (sum ns) xs) ∷ []) (drop (sum ns + m) xs))

-- a child at the end
pub pushed_cut : (ns : List ℕ) (xs : List Child) (c : Child) → sum ns ≤ length xs → cut ns (xs ++ c ∷ []) ≡ on_top (λ cs. cs ++ c ∷ []) (cut ns xs)
pushed_cut ns xs c h = on_top_cut (λ cs. cs ++ c ∷ []) ns xs (xs ++ c ∷ []) (take-append-le (sum ns) xs (c ∷ []) h) (drop-append-le (sum ns) xs (c ∷ []) h)

-- ---- where memory is not refused
pub done_along : {R E : Type 0} (r : Result R E) (h : List Child → Frames) (xs ys : List Child) (F : Frames) → h ys ≡ F → OnOk r (xs ≡ ys) → OnOk r (h xs ≡ F)
done_along (Err e) h xs ys F p d = tt
done_along (Ok x) h xs ys F p d = ap h d ∙ p

pub moved_along : {E : Type 0} (r : Result Bool E) (a b : Bool) → a ≡ b → IfOk r (λ m. m ≡ a) → IfOk r (λ m. m ≡ b)
moved_along (Err e) a b p d = tt
moved_along (Ok x) a b p d = d ∙ p

pub on_last_child-end : (f : Child → Child) → ChangesEnd (on_last_child f)
on_last_child-end f = record {
  none = refl;
  one = λ x. refl;
  more = λ x y ys. one_before x (y ∷ ys) (λ d. put_last (y ∷ ys) (f d)) (last_child (y ∷ ys));
}

text_before : (c : Child) (cs : List Child) (g : Formatted → List Child) (o : Option Formatted) → option_map_or (λ d. c ∷ g d) o (c ∷ cs) ≡ c ∷ option_map_or g o cs
text_before c cs g None = refl
text_before c cs g (Some d) = refl

text_alone : (x : Child) (f : Formatted → Formatted) (o : Option Formatted) → length (option_map_or (λ t. put_last_text (x ∷ []) (f t)) o (x ∷ [])) ≡ 1
text_alone x f None = refl
text_alone x f (Some t) = refl

pub on_last_text-end : (f : List ℕ → List ℕ) → ChangesEnd (on_last_text f)
on_last_text-end f = record {
  none = refl;
  one = λ x. text_alone x (λ t. record t { text = f t.text }) (child_last_text x);
  more = λ x y ys. text_before x (y ∷ ys) (λ t. put_last_text (y ∷ ys) (record t { text = f t.text })) (last_text (y ∷ ys));
}

pub length-put_last_text : (cs : List Child) (w : Formatted) → length (put_last_text cs w) ≡ length cs
length-put_last_text [] w = refl
length-put_last_text (c ∷ []) w = refl
length-put_last_text (c ∷ d ∷ cs) w = omega (arith, length-put_last_text (d ∷ cs) w)

-- g sees the last child alone
pub record SeesEnd {Y : Type 0} (g : List Child → Option Y) : Type 0 where
  pub none : g [] ≡ None
  pub more : (x y : Child) (ys : List Child) → g (x ∷ y ∷ ys) ≡ g (y ∷ ys)

pub last_child-seen : SeesEnd last_child
last_child-seen = record { none = refl; more = λ x y ys. refl }

pub last_text-seen : SeesEnd last_text
last_text-seen = record { none = refl; more = λ x y ys. refl }

pub end_sole_text-seen : SeesEnd end_sole_text
end_sole_text-seen = record { none = refl; more = λ x y ys. refl }

module _ {Y : Type 0} (g : List Child → Option Y) (k : SeesEnd g) where
  pub seen_behind : (n : ℕ) (xs : List Child) → n < length xs → g (drop n xs) ≡ g xs
  seen_behind zero xs h = refl
  seen_behind (suc n) [] h = absurd (omega (arith, h))
  seen_behind (suc n) (x ∷ []) h = absurd (omega (arith, h))
  seen_behind (suc n) (x ∷ y ∷ ys) h = seen_behind n (y ∷ ys) (omega (arith, h)) ∙ sym (k.more x y ys)

-- ---- the topmost frame that has children
pub no_child_filled : (ns : List ℕ) → topmost is_filled (cut ns []) ≡ None
no_child_filled [] = refl
no_child_filled (zero ∷ ns) = rw (no_child_filled ns) refl
no_child_filled (suc n ∷ ns) = rw (no_child_filled ns) refl

filled_here : (F : List Child) (Fs : Frames) → 0 < length F → topmost is_filled Fs ≡ None → topmost is_filled (F ∷ Fs) ≡ Some 0
filled_here [] Fs h e = absurd (omega (arith, h))
filled_here (x ∷ F) Fs h e = rw e refl

some_filled : (ns : List ℕ) (xs : List Child) → 0 < length xs → (i : ℕ) × (topmost is_filled (cut ns xs) ≡ Some i)
some_filled [] [] h = absurd (omega (arith, h))
some_filled [] (x ∷ xs) h = (0, refl)
some_filled (n ∷ ns) xs h =
    elim (cases_lt n (length xs)) [
      | inl l ↦ (let t = some_filled ns (drop n xs) (omega (arith, length-drop n xs)) in (suc t.0, rw t.1 refl))
      | inr l ↦ (0, rw (take_all n xs l, drop_all n xs l) (filled_here xs (cut ns []) h (no_child_filled ns)))
    ]

frame_before : (F : List Child) (Fs : Frames) (g : List Child → Frames) (o : Option (List Child)) → option_map_or (λ d. F ∷ g d) o (F ∷ Fs) ≡ F ∷ option_map_or g o Fs
frame_before F Fs g None = refl
frame_before F Fs g (Some d) = refl

module _ (f : List Child → List Child) (k : ChangesEnd f) where
  above_filled : (F : List Child) (Fs : Frames) (i : ℕ) → topmost is_filled Fs ≡ Some i → on_filled f (F ∷ Fs) ≡ F ∷ on_filled f Fs
  above_filled F Fs i e = rw e (frame_before F Fs (λ frame. slice_set Fs i (f frame)) (slice_get Fs i))

  none_above : (F : List Child) (Fs : Frames) → topmost is_filled Fs ≡ None → on_filled f (F ∷ Fs) ≡ f F ∷ Fs
  none_above [] Fs e = rw e (ap (λ F. F ∷ Fs) (sym k.none))
  none_above (x ∷ F) Fs e = rw e refl

  -- a change at the end of the list is one of the topmost frame that has children
  pub filled_cut : (ns : List ℕ) (xs : List Child) → cut ns (f xs) ≡ on_filled f (cut ns xs)
  filled_cut [] xs = sym (none_above xs [] refl)
  filled_cut (n ∷ ns) xs =
      elim (cases_lt n (length xs)) [
        | inl l ↦ (
            let t = some_filled ns (drop n xs) (omega (arith, length-drop n xs)) in
            ap (λ z. z ∷ cut ns (drop n (f xs))) (end-take f k n xs l)
            ∙ ap (λ z. take n xs ∷ cut ns z) (end-drop f k n xs l)
            ∙ ap (λ z. take n xs ∷ z) (filled_cut ns (drop n xs))
            ∙ sym (above_filled (take n xs) (cut ns (drop n xs)) t.0 t.1))
        | inr l ↦ (
            let less : length (f xs) ≤ n = omega (arith, end-length f k xs, l) in
            ap (λ z. z ∷ cut ns (drop n (f xs))) (take_all n (f xs) less)
            ∙ ap (λ z. f xs ∷ cut ns z) (drop_all n (f xs) less)
            ∙ sym (
            ap (λ z. on_filled f (z ∷ cut ns (drop n xs))) (take_all n xs l)
            ∙ ap (λ z. on_filled f (xs ∷ cut ns z)) (drop_all n xs l)
            ∙ none_above xs (cut ns []) (no_child_filled ns)))
      ]

  -- and one of the top frame, where that has children
  pub end_cut : (ns : List ℕ) (xs : List Child) → sum ns < length xs → cut ns (f xs) ≡ on_top f (cut ns xs)
  end_cut ns xs h = on_top_cut f ns xs (f xs) (end-take f k (sum ns) xs h) (end-drop f k (sum ns) xs h)

  pub no_end_cut : (ns : List ℕ) (xs : List Child) → length xs ≤ sum ns → cut ns xs ≡ on_top f (cut ns xs)
  no_end_cut ns xs h =
      let gone : drop (sum ns) xs ≡ [] = drop_all (sum ns) xs h in
      on_top_cut f ns xs xs refl (gone ∙ sym k.none ∙ ap f (sym gone))

module _ {Y : Type 0} (g : List Child → Option Y) (k : SeesEnd g) where
  seen_alone : (F : List Child) (Fs : Frames) → topmost is_filled Fs ≡ None → option_and_then g (filled (F ∷ Fs)) ≡ g F
  seen_alone [] Fs e = rw e (sym k.none)
  seen_alone (x ∷ F) Fs e = rw e refl

  seen_above : (F : List Child) (Fs : Frames) (i : ℕ) → topmost is_filled Fs ≡ Some i → filled (F ∷ Fs) ≡ filled Fs
  seen_above F Fs i e = rw e refl

  -- what is seen at the end of the list is seen in the topmost frame that has children
  pub seen_filled : (ns : List ℕ) (xs : List Child) → option_and_then g (filled (cut ns xs)) ≡ g xs
  seen_filled [] xs = seen_alone xs [] refl
  seen_filled (n ∷ ns) xs =
      elim (cases_lt n (length xs)) [
        | inl l ↦ (
            let t = some_filled ns (drop n xs) (omega (arith, length-drop n xs)) in
            ap (option_and_then g) (seen_above (take n xs) (cut ns (drop n xs)) t.0 t.1)
            ∙ seen_filled ns (drop n xs)
            ∙ seen_behind g k n xs l)
        | inr l ↦ (
            ap (λ z. option_and_then g (filled (z ∷ cut ns (drop n xs)))) (take_all n xs l)
            ∙ ap (λ z. option_and_then g (filled (xs ∷ cut ns z))) (drop_all n xs l)
            ∙ seen_alone xs (cut ns []) (no_child_filled ns))
      ]

  -- or in the top frame
  pub seen_top : (ns : List ℕ) (xs : List Child) → sum ns < length xs → option_and_then g (top (cut ns xs)) ≡ g xs
  seen_top ns xs h = ap (option_and_then g) (top_cut ns xs) ∙ seen_behind g k (sum ns) xs h

  pub none_seen_top : (ns : List ℕ) (xs : List Child) → length xs ≤ sum ns → option_and_then g (top (cut ns xs)) ≡ None
  none_seen_top ns xs h = ap (option_and_then g) (top_cut ns xs ∙ ap (λ z. Some z) (drop_all (sum ns) xs h)) ∙ k.none

-- ---- a text that is joined to the one before it
abbrev pub ends_in : Formatting → List Child → Bool
ends_in f cs = option_map_or (takes f) (last_child cs) false

joined_alone : (c : Child) (g : Formatted) → takes g.formatting c ≡ true → extended g.text c ∷ [] ≡ join_last (c ∷ []) (text g)
joined_alone (text t) g h = rw h refl
joined_alone (elem ks d m) g h = cc
joined_alone (markup s) g h = cc
joined_alone (link t s) g h = cc
joined_alone (transparent i t) g h = cc

apart_alone : (c : Child) (g : Formatted) → takes g.formatting c ≡ false → c ∷ text g ∷ [] ≡ join_last (c ∷ []) (text g)
apart_alone (text t) g h = rw h refl
apart_alone (elem ks d m) g h = refl
apart_alone (markup s) g h = refl
apart_alone (link t s) g h = refl
apart_alone (transparent i t) g h = refl

joined_at_end : (cs : List Child) (g : Formatted) → ends_in g.formatting cs ≡ true → on_last_child (extended g.text) cs ≡ join_last cs (text g)
joined_at_end [] g h = cc
joined_at_end (c ∷ []) g h = joined_alone c g h
joined_at_end (c ∷ d ∷ ds) g h = one_before c (d ∷ ds) (λ e. put_last (d ∷ ds) (extended g.text e)) (last_child (d ∷ ds)) ∙ ap (λ z. c ∷ z) (joined_at_end (d ∷ ds) g h)

apart_at_end : (cs : List Child) (g : Formatted) → ends_in g.formatting cs ≡ false → cs ++ text g ∷ [] ≡ join_last cs (text g)
apart_at_end [] g h = refl
apart_at_end (c ∷ []) g h = apart_alone c g h
apart_at_end (c ∷ d ∷ ds) g h = ap (λ z. c ∷ z) (apart_at_end (d ∷ ds) g h)

none_ends_in : (f : Formatting) (n : ℕ) (xs : List Child) → length xs ≤ n → ends_in f (drop n xs) ≡ true → ⊥
none_ends_in f n xs l h = let e : false ≡ true = ap (ends_in f) (sym (drop_all n xs l)) ∙ h in false≢true e

pub joined_text_cut : (ns : List ℕ) (xs : List Child) (g : Formatted) → ends_in g.formatting (drop (sum ns) xs) ≡ true → cut ns (on_last_child (extended g.text) xs) ≡ on_top (λ cs. join_last cs (text g)) (cut ns xs)
joined_text_cut ns xs g h =
    let f = on_last_child (extended g.text) in
    let k = on_last_child-end (extended g.text) in
    elim (cases_lt (sum ns) (length xs)) [
      | inl l ↦ on_top_cut (λ cs. join_last cs (text g)) ns xs (f xs) (end-take f k (sum ns) xs l) (end-drop f k (sum ns) xs l ∙ joined_at_end (drop (sum ns) xs) g h)
      | inr l ↦ absurd (none_ends_in g.formatting (sum ns) xs l h)
    ]

pub apart_text_cut : (ns : List ℕ) (xs : List Child) (g : Formatted) → sum ns ≤ length xs → ends_in g.formatting (drop (sum ns) xs) ≡ false → cut ns (xs ++ text g ∷ []) ≡ on_top (λ cs. join_last cs (text g)) (cut ns xs)
apart_text_cut ns xs g l h =
    on_top_cut (λ cs. join_last cs (text g)) ns xs (xs ++ text g ∷ []) (take-append-le (sum ns) xs (text g ∷ []) l)
    (drop-append-le (sum ns) xs (text g ∷ []) l ∙ apart_at_end (drop (sum ns) xs) g h)

-- ---- a closed frame
-- the children of the top frame become one child
pub wrapped_cut : (f : List Child → Child) (ns : List ℕ) (xs : List Child) → sum ns ≤ length xs → cut ns (take (sum ns) xs ++ f (drop (sum ns) xs) ∷ []) ≡ on_top (λ cs. f cs ∷ []) (cut ns xs)
wrapped_cut f ns xs l =
    let kept : length (take (sum ns) xs) ≡ sum ns = length-take-le (sum ns) xs l in
    let e = f (drop (sum ns) xs) ∷ [] in
    on_top_cut (λ cs. f cs ∷ []) ns xs (take (sum ns) xs ++ e) (take_at (take (sum ns) xs) e (sum ns) kept) (drop_at (take (sum ns) xs) e (sum ns) kept)

ends : (F : Frames) → (F ≡ []) ⊎ ((P : Frames) × (t : List Child) × (F ≡ P ++ t ∷ []))
ends [] = inl refl
ends (x ∷ F) = elim (ends F) [ inl e ↦ inr ([], x, ap (λ z. x ∷ z) e) | inr h ↦ inr (x ∷ h.0, h.1, ap (λ z. x ∷ z) h.2) ]

committed_top : (d : Option Display) (m : Option ElemMeta) (P : Frames) (t : List Child) → committed d m (P ++ t ∷ []) ≡ on_top (λ cs. cs ++ closed d m t) P
committed_top d m P t =
    let F = P ++ t ∷ [] in
    ap (λ o. option_map_or (λ frame. on_top (λ cs. cs ++ closed d m frame) (below F)) o F) (top_of P t)
    ∙ ap (on_top (λ cs. cs ++ closed d m t)) (before_last P t)

-- closing a frame is closing it as its children, once they are what it gives
committed_in_two : (d : Option Display) (m : Option ElemMeta) (f : List Child → List Child) (F : Frames) → ((t : List Child) → f t ≡ closed d m t) → committed None None (on_top f F) ≡ committed d m F
committed_in_two d m f F h =
    elim (ends F) [
      | inl e ↦ rw e refl
      | inr p ↦ (
          ap (λ G. committed None None (on_top f G)) p.2
          ∙ ap (committed None None) (on_top_of f p.0 p.1)
          ∙ committed_top None None p.0 (f p.1)
          ∙ ap (λ z. on_top (λ cs. cs ++ z) p.0) (h p.1)
          ∙ sym (ap (committed d m) p.2 ∙ committed_top d m p.0 p.1))
    ]

pub closed_in_two : (d : Option Display) (m : Option ElemMeta) (F : Frames) → is_none d && is_none m ≡ false → committed None None (on_top (λ cs. elem (kids_of cs) d m ∷ []) F) ≡ committed d m F
closed_in_two None None F h = cc
closed_in_two None (Some m) F h = committed_in_two None (Some m) (λ cs. elem (kids_of cs) None (Some m) ∷ []) F (λ t. refl)
closed_in_two (Some d) m F h = committed_in_two (Some d) m (λ cs. elem (kids_of cs) (Some d) m ∷ []) F (λ t. refl)

pub closed_as_children : (d : Option Display) (m : Option ElemMeta) (F : Frames) → is_none d && is_none m ≡ true → committed None None F ≡ committed d m F
closed_as_children None None F h = refl
closed_as_children None (Some m) F h = cc
closed_as_children (Some d) m F h = cc
