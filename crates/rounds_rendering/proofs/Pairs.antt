-- A list and its view.
use Rattle.std.proofs.Common.{◌≡◌, ℕ, ◌<◌, ◌≤◌, List, length, map, get_or, ap, subst, sym, ◌∙◌}
use Rattle.std.proofs.Math.ListN.{get_or-map, length-map}

module _ {X V : Type 0} (view : X → V) {xs ys : List X} (k : ℕ) (same : xs ≡ ys) where
  pub within_view : k < length xs → k < length (map view ys)
  within_view within = subst (λ n. k < n) (ap length same ∙ sym (length-map ys view)) within

  pub past_view : length xs ≤ k → length (map view ys) ≤ k
  past_view past = subst (λ n. n ≤ k) (ap length same ∙ sym (length-map ys view)) past

  -- what stands at a place stands there in the view
  pub at_view : (x : X) → x ≡ get_or xs k x → view x ≡ get_or (map view ys) k (view x)
  at_view x here = ap view here ∙ ap (λ (l : List X). view (get_or l k x)) same ∙ sym (get_or-map view ys k x)
