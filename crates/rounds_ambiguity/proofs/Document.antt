-- The cites of a document, request by request.
use Rattle.std.proofs.Common.{◌≡◌, ℕ, ◌+◌, ◌<◌, ◌≤◌, List, [], ◌∷◌, ◌++◌, length, map, take, get_or, ap, sym, subst, ◌∙◌, append-nil, append_assoc}
use Rattle.std.specs.List.{enumerate_from, flat_map}
use Rattle.std.proofs.lemmas.Grind.{flat_map-append}
use Rattle.std.proofs.lemmas.List.{map-append, take-map}
use Rattle.driver_passes.specs.Renders.{CiteRender}
use Rattle.driver_passes.specs.RendersView.{item_view, items_view, render_view, renders_view}
use Rattle.driver_passes.specs.declared.renders.SpeculativeCiteRender.{SpeculativeCiteRender}
use Rattle.driver_passes.specs.declared.renders.SpeculativeItemRender.{SpeculativeItemRender}
use Rattle.rounds_ambiguity.specs.Ambiguity.{without_suffix}
use Rattle.rounds_ambiguity.specs.ClassesSoFar.{AreClassesOf}
use Rattle.rounds_ambiguity.specs.Members.{Member, document, request_cites}
use Rattle.rounds_ambiguity.specs.declared.classes.Classes.{Classes}
use Rattle.rounds_ambiguity.proofs.Enumerated.{enumerated-all, enumerated-more}

module _ {T P : Type 0} where
  -- the k-th cite of the r-th request
  abbrev pub cite_of : ℕ → SpeculativeCiteRender T P → ℕ → SpeculativeItemRender T P → Member T P
  cite_of r render k i = record { place = (r, k); item = item_view i; style = (render_view render).request.style }

  -- one more cite of a request
  cites-more : (r : ℕ) (render : SpeculativeCiteRender T P) (k : ℕ) (i : SpeculativeItemRender T P) → k < length render.items.items → i ≡ get_or render.items.items k i
      → take (k + 1) (request_cites r (render_view render)) ≡ take k (request_cites r (render_view render)) ++ cite_of r render k i ∷ []
  cites-more r render k i within here =
      let f : ℕ × _ → Member T P = λ p. record { place = (r, p.0); item = p.1; style = (render_view render).request.style } in
      let numbered = enumerate_from 0 (items_view render.items.items) in
      take-map f (k + 1) numbered ∙ ap (map f) (enumerated-more item_view render.items.items k i within here)
      ∙ map-append f (take k numbered) ((k, item_view i) ∷ []) ∙ ap (λ ms. ms ++ cite_of r render k i ∷ []) (sym (take-map f k numbered))

  pub cite-added : (r : ℕ) (render : SpeculativeCiteRender T P) (k : ℕ) (i : SpeculativeItemRender T P) (items : List (SpeculativeItemRender T P)) (c : Classes) (cites : List (Member T P))
      → items ≡ render.items.items → k < length items → i ≡ get_or items k i
      → AreClassesOf (without_suffix ((cites ++ take k (request_cites r (render_view render))) ++ cite_of r render k i ∷ [])) c
      → AreClassesOf (without_suffix (cites ++ take (k + 1) (request_cites r (render_view render)))) c
  cite-added r render k i items c cites same within here h =
      let inside : k < length render.items.items = subst (λ xs. k < length xs) same within in
      let there : i ≡ get_or render.items.items k i = here ∙ ap (λ xs. get_or xs k i) same in
      subst (λ ms. AreClassesOf (without_suffix ms) c)
      (append_assoc cites (take k (request_cites r (render_view render))) (cite_of r render k i ∷ []) ∙ ap (λ ms. cites ++ ms) (sym (cites-more r render k i inside there))) h

  pub cites-added : (r : ℕ) (render : SpeculativeCiteRender T P) (k : ℕ) (items : List (SpeculativeItemRender T P)) (c : Classes) (cites : List (Member T P))
      → items ≡ render.items.items → length items ≤ k → AreClassesOf (without_suffix (cites ++ take k (request_cites r (render_view render)))) c
      → AreClassesOf (without_suffix (cites ++ request_cites r (render_view render))) c
  cites-added r render k items c cites same all h =
      let f : ℕ × _ → Member T P = λ p. record { place = (r, p.0); item = p.1; style = (render_view render).request.style } in
      let past : length render.items.items ≤ k = subst (λ xs. length xs ≤ k) same all in
      subst (λ ms. AreClassesOf (without_suffix (cites ++ ms)) c)
      (take-map f k (enumerate_from 0 (items_view render.items.items)) ∙ ap (map f) (enumerated-all item_view render.items.items k past)) h

  pub no-cite-added : (c : Classes) (cites : List (Member T P)) → AreClassesOf (without_suffix cites) c → AreClassesOf (without_suffix (cites ++ [])) c
  no-cite-added c cites h = subst (λ ms. AreClassesOf (without_suffix ms) c) (sym (append-nil cites)) h

  abbrev pub cites_upto : List (SpeculativeCiteRender T P) → ℕ → List (Member T P)
  cites_upto cites k = flat_map (λ p. request_cites p.0 p.1) (take k (enumerate_from 0 (renders_view cites)))

  -- one more request
  pub request-added : (cites : List (SpeculativeCiteRender T P)) (k : ℕ) (render : SpeculativeCiteRender T P) (c : Classes) → k < length cites → render ≡ get_or cites k render
      → AreClassesOf (without_suffix (cites_upto cites k ++ request_cites k (render_view render))) c → AreClassesOf (without_suffix (cites_upto cites (k + 1))) c
  request-added cites k render c within here h =
      let g : ℕ × CiteRender T P → List (Member T P) = λ p. request_cites p.0 p.1 in
      subst (λ ms. AreClassesOf (without_suffix ms) c)
      (sym (ap (flat_map g) (enumerated-more render_view cites k render within here)
      ∙ flat_map-append g (take k (enumerate_from 0 (renders_view cites))) ((k, render_view render) ∷ [])
      ∙ ap (λ ms. cites_upto cites k ++ ms) (append-nil (request_cites k (render_view render))))) h

  pub all-added : (cites : List (SpeculativeCiteRender T P)) (k : ℕ) → length cites ≤ k → cites_upto cites k ≡ document (renders_view cites)
  all-added cites k all = ap (flat_map (λ p. request_cites p.0 p.1)) (enumerated-all render_view cites k all)
