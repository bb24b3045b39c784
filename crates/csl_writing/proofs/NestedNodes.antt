-- Open nodes, each in two frames.
use Rattle.std.proofs.Common.{◌≡◌, ℕ, zero, suc, ◌+◌, ◌⊎◌, inl, inr, Bool, true, List, [], ◌∷◌, ◌++◌, length, Some, refl, sym, ap, ◌∙◌, arith}
use Rattle.std.specs.Prelude.{Result, Ok, Err, OnOk}
use Rattle.std.specs.declared.alloc.AllocError.{AllocError}
use Rattle.std.specs.List.{slice_get}
use Rattle.std.proofs.lemmas.List.{map-append, length-append}
use Rattle.std.proofs.lemmas.Option.{slice_get_within}
use Rattle.csl_writing.specs.declared.open_node.OpenNode.{OpenNode}
use Rattle.layout_context.specs.declared.writing.WritingContext.{WritingContext}
use Rattle.driver_lookup.specs.Lookup.{Lookup}
use Rattle.layout_picking.specs.PiecesView.{node_view}
use Rattle.layout_context.specs.WritingState.{state}
use Rattle.csl_writing.specs.PartsWritten.{node_ended}
use Rattle.csl_writing.specs.PieceRun.{innermost, closed_run}
use Rattle.csl_writing.specs.OpenNodes.{open_view, open_views, IsNested, run_of}
use Rattle.csl_writing.proofs.PieceSteps.{close_step, last_get}

get_left : {X : Type 0} (xs : List X) (i : ℕ) (ys : List X) (x : X) → slice_get xs i ≡ Some x → slice_get (xs ++ ys) i ≡ Some x
get_left [] i ys x s = cc
get_left (y ∷ xs) zero ys x s = s
get_left (y ∷ xs) (suc i) ys x s = get_left xs i ys x s

get_cases : {X : Type 0} (xs : List X) (b : X) (i : ℕ) (x : X) → slice_get (xs ++ b ∷ []) i ≡ Some x → (slice_get xs i ≡ Some x) ⊎ ((i ≡ length xs) × (b ≡ x))
get_cases [] b zero x s = inr (refl, cc)
get_cases [] b (suc i) x s = cc
get_cases (y ∷ xs) b zero x s = inl s
get_cases (y ∷ xs) b (suc i) x s = elim (get_cases xs b i x s) [ inl p ↦ inl p | inr q ↦ inr (ap suc q.0, q.1) ]

-- one more open node
pub opened_nested : (old new : List OpenNode) (b : OpenNode) (h above : ℕ) → new ≡ old ++ b ∷ [] → IsNested old h → b.prefix.0.frames ≡ h → above ≡ h + 2 → IsNested new above
opened_nested old new b h above e nested at two = λ i o s.
    let len : length new ≡ length old + 1 = ap length e ∙ length-append old (b ∷ []) in
    elim (get_cases old b i o (ap (λ xs. slice_get xs i) (sym e) ∙ s)) [
      | inl p ↦ omega (arith, nested i o p, slice_get_within old i o p)
      | inr q ↦ omega (arith, q.0, ap (λ (x : OpenNode). x.prefix.0.frames) q.1)
    ]

-- one less
pub closed_nested : (r : Result (Unit {0}) AllocError) (old new : List OpenNode) (b : OpenNode) (h below : ℕ) → old ≡ new ++ b ∷ [] → IsNested old h → OnOk r (below ≡ b.prefix.0.frames) → OnOk r (IsNested new below)
closed_nested (Err x) old new b h below e nested at = tt
closed_nested (Ok u) old new b h below e nested at = λ i o s.
    let len : length old ≡ length new + 1 = ap length e ∙ length-append new (b ∷ []) in
    let last = nested (length new) b (ap (λ xs. slice_get xs (length new)) e ∙ last_get new b) in
    let here = nested i o (ap (λ xs. slice_get xs i) e ∙ get_left new i (b ∷ []) o s) in
    omega (arith, last, here, slice_get_within new i o s)

pub closed_done : (r : Result (Unit {0}) AllocError) (k : Lookup) (old new : List OpenNode) (b : OpenNode) (f : Bool) (w v : WritingContext) → old ≡ new ++ b ∷ [] → OnOk r (state v ≡ node_ended k (node_view b.node) b.elem.formats (state w)) → OnOk r (run_of new true v ≡ closed_run k (innermost (open_views old)) (run_of old f w))
closed_done (Err x) k old new b f w v e h = tt
closed_done (Ok u) k old new b f w v e h =
    ap (λ a. record (run_of new true v) { written = a }) h
    ∙ sym (close_step k (open_view b) (open_views new) (open_views old) f (state w) (ap open_views e ∙ map-append open_view new (b ∷ [])))
