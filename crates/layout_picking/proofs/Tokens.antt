-- Nodes that are opened and closed, over plain data.
use Rattle.std.proofs.Common.{◌≡◌, ◌+◌, ◌<◌, ◌≤◌, List, [], ◌∷◌, ◌++◌, length, take, nat_le, Bool, true, false, cond, refl, sym, ap, ◌∙◌, append_assoc, length-append, arith}
use Rattle.std.proofs.lemmas.List.{append-nil}
use Rattle.std.proofs.Math.Seq.{take-append_seam}
use Rattle.std.proofs.lemmas.Bool.Decides.{nat_tests}
use Rattle.layout_picking.specs.declared.notes.Called.{Called}
use Rattle.layout_picking.specs.declared.notes.Notes.{Notes}
use Rattle.layout_picking.specs.declared.held.Opened.{Opened}
use Rattle.layout_picking.specs.Notes.{called_by_both}
use Rattle.layout_picking.specs.Pieces.{NodeValue, Part, leaf_part, node_part, Token, opening, closing, part_tokens, tokens, node_of}
use Rattle.layout_picking.specs.Picked.{Picked, Held, nothing, followed, added, picked_group, in_macro}
use Rattle.layout_picking.specs.Nodes.{inside, remembered, cut_back, closed_as, macro_closed, group_closed}

pub tokens-append : (xs ys : List Part) → tokens (xs ++ ys) ≡ tokens xs ++ tokens ys
tokens-append [] ys = refl
tokens-append (x ∷ xs) ys = ap (λ ts. part_tokens x ++ ts) (tokens-append xs ys) ∙ sym (append_assoc (part_tokens x) (tokens xs) (tokens ys))

pub joined-none : (c : Called) → called_by_both c Called.None ≡ c
joined-none Called.None = refl
joined-none Called.Empty = refl
joined-none Called.Filled = refl

pub joined-joined : (a b c : Called) → called_by_both (called_by_both a b) c ≡ called_by_both a (called_by_both b c)
joined-joined Called.Filled b c = refl
joined-joined Called.None b c = refl
joined-joined Called.Empty Called.None c = refl
joined-joined Called.Empty Called.Empty Called.None = refl
joined-joined Called.Empty Called.Empty Called.Empty = refl
joined-joined Called.Empty Called.Empty Called.Filled = refl
joined-joined Called.Empty Called.Filled c = refl

-- nothing more
pub added-nothing : (s : Held) → added (nothing s.noted) s ≡ s
added-nothing s = λ i. record { tokens = append-nil s.tokens i; called = joined-none s.called i; noted = s.noted }

-- two parts, one behind the other
pub added-followed : (a b : Picked) (s : Held) → added b (added a s) ≡ added (followed a b) s
added-followed a b s = λ i. record {
  tokens = (append_assoc s.tokens (tokens a.parts) (tokens b.parts) ∙ ap (λ ts. s.tokens ++ ts) (sym (tokens-append a.parts b.parts))) i;
  called = joined-joined s.called a.called b.called i;
  noted = b.noted;
}

has_token : (p : Part) → 0 < length (part_tokens p)
has_token (leaf_part l) = omega arith
has_token (node_part node ps) = omega arith

has_tokens : (p : Part) (ps : List Part) → 0 < length (tokens (p ∷ ps))
has_tokens p ps = omega (arith, has_token p, length-append (part_tokens p) (tokens ps))

-- the pieces in a node, cut back to before it
cut : (ts : List Token) (node : NodeValue) (xs : List Token) → take (length ts) ((ts ++ opening node ∷ []) ++ xs) ≡ ts
cut ts node xs = ap (take (length ts)) (append_assoc ts (opening node ∷ []) xs) ∙ take-append_seam ts (opening node ∷ xs)

-- a node that is closed
close : (ts : List Token) (node : NodeValue) (p : Part) (ps : List Part)
    → ((ts ++ opening node ∷ []) ++ tokens (p ∷ ps)) ++ closing ∷ [] ≡ ts ++ tokens (node_of node (p ∷ ps))
close ts node p ps =
    let xs = tokens (p ∷ ps) in
    ap (λ ys. ys ++ closing ∷ []) (append_assoc ts (opening node ∷ []) xs)
    ∙ append_assoc ts (opening node ∷ xs) (closing ∷ [])
    ∙ ap (λ ys. ts ++ ys) (sym (append-nil (opening node ∷ (xs ++ closing ∷ []))))

is_empty : (ts : List Token) (node : NodeValue) → nat_le (length ((ts ++ opening node ∷ []) ++ [])) (length ts + 1) ≡ true
is_empty ts node =
    let short : length ((ts ++ opening node ∷ []) ++ []) ≤ length ts + 1 = omega (arith, length-append (ts ++ opening node ∷ []) [], length-append ts (opening node ∷ [])) in
    grind (arith, nat_tests)

pub is_filled : (ts : List Token) (node : NodeValue) (p : Part) (ps : List Part) → nat_le (length ((ts ++ opening node ∷ []) ++ tokens (p ∷ ps))) (length ts + 1) ≡ false
is_filled ts node p ps =
    let long : length ts + 1 < length ((ts ++ opening node ∷ []) ++ tokens (p ∷ ps)) = omega (arith, length-append (ts ++ opening node ∷ []) (tokens (p ∷ ps)), length-append ts (opening node ∷ []), has_tokens p ps) in
    grind (arith, nat_tests)

-- nothing in a node
emptied : (node : NodeValue) (c : Called) (n : Notes) (s : Held) → cut_back (remembered s) (added (record { parts = []; called = c; noted = n }) (inside node s)) ≡ added (record { parts = []; called = c; noted = n }) s
emptied node c n s = λ i. record { tokens = (cut s.tokens node [] ∙ sym (append-nil s.tokens)) i; called = called_by_both s.called c; noted = n }

-- the parts of a node, of which some are there
filled : (node : NodeValue) (p : Part) (ps : List Part) (c d : Called) (n : Notes) (s : Held)
    → closed_as c (remembered s) (added (record { parts = p ∷ ps; called = d; noted = n }) (inside node s))
    ≡ added (record { parts = node_of node (p ∷ ps); called = c; noted = n }) s
filled node p ps c d n s = λ i. record { tokens = close s.tokens node p ps i; called = called_by_both s.called c; noted = n }

pub macro-closed : (node : NodeValue) (inner : Picked) (s : Held) → macro_closed (remembered s) (added inner (inside node s)) ≡ added (in_macro node inner) s
macro-closed node inner s =
    let c = inner.called in
    let n = inner.noted in
    let by : (ps : List Part) → macro_closed (remembered s) (added (record { parts = ps; called = c; noted = n }) (inside node s)) ≡ added (in_macro node (record { parts = ps; called = c; noted = n })) s = λ ps.
    elim ps as (λ ps. macro_closed (remembered s) (added (record { parts = ps; called = c; noted = n }) (inside node s)) ≡ added (in_macro node (record { parts = ps; called = c; noted = n })) s) [
      | [] ↦ let h = added (record { parts = []; called = c; noted = n }) (inside node s) in
          ap (λ b. cond b (cut_back (remembered s) h) (closed_as h.called (remembered s) h)) (is_empty s.tokens node) ∙ emptied node c n s
      | p ∷ qs ↦ let h = added (record { parts = p ∷ qs; called = c; noted = n }) (inside node s) in
          ap (λ b. cond b (cut_back (remembered s) h) (closed_as h.called (remembered s) h)) (is_filled s.tokens node p qs) ∙ filled node p qs c c n s
    ] in
    by inner.parts

pub group-closed : (node : NodeValue) (inner : Picked) (s : Held) → group_closed (remembered s) (added inner (inside node s)) ≡ added (picked_group node inner) s
group-closed node inner s =
    by inner.called inner.parts where
      n : Notes
      n = inner.noted

      all : Called → List Part → Picked
      all c ps = record { parts = ps; called = c; noted = n }

      chosen : Called → List Part → Bool → Held
      chosen c ps b =
          let h = added (all c ps) (inside node s) in
          cond b (cut_back (remembered s) h) (closed_as Called.Filled (remembered s) h)

      by : (c : Called) (ps : List Part) → group_closed (remembered s) (added (all c ps) (inside node s)) ≡ added (picked_group node (all c ps)) s
      by Called.Empty ps = λ i. record { tokens = (cut s.tokens node (tokens ps) ∙ sym (append-nil s.tokens)) i; called = called_by_both s.called Called.Empty; noted = n }
      by Called.None [] = ap (chosen Called.None []) (is_empty s.tokens node) ∙ emptied node Called.None n s
      by Called.Filled [] = ap (chosen Called.Filled []) (is_empty s.tokens node) ∙ emptied node Called.Filled n s
      by Called.None (p ∷ ps) = ap (chosen Called.None (p ∷ ps)) (is_filled s.tokens node p ps) ∙ filled node p ps Called.Filled Called.None n s
      by Called.Filled (p ∷ ps) = ap (chosen Called.Filled (p ∷ ps)) (is_filled s.tokens node p ps) ∙ filled node p ps Called.Filled Called.Filled n s

-- a node, and what is picked inside it, where `picks` says what that is
pub group_step : (picks : Notes → Picked) (node seen : NodeValue) (s now then after : Held) (o : Opened)
    → seen ≡ node → now ≡ inside seen s → o ≡ remembered s → then ≡ added (picks now.noted) now → after ≡ group_closed o then
    → after ≡ added (picked_group node (picks s.noted)) s
group_step picks node seen s now then after o v a b c d =
    let at : now ≡ inside node s = a ∙ ap (λ n. inside n s) v in
    d ∙ (λ i. group_closed (b i) (c i)) ∙ ap (λ h. group_closed (remembered s) (added (picks h.noted) h)) at ∙ group-closed node (picks s.noted) s

pub macro_step : (picks : Notes → Picked) (node seen : NodeValue) (s now then after : Held) (o : Opened)
    → seen ≡ node → now ≡ inside seen s → o ≡ remembered s → then ≡ added (picks now.noted) now → after ≡ macro_closed o then
    → after ≡ added (in_macro node (picks s.noted)) s
macro_step picks node seen s now then after o v a b c d =
    let at : now ≡ inside node s = a ∙ ap (λ n. inside n s) v in
    d ∙ (λ i. macro_closed (b i) (c i)) ∙ ap (λ h. macro_closed (remembered s) (added (picks h.noted) h)) at ∙ macro-closed node (picks s.noted) s
