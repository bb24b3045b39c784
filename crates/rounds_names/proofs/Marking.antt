-- Members and marks, one after another.
use Rattle.std.proofs.Common.{◌≡◌, ℕ, zero, suc, ◌+◌, ◌<◌, ◌≤◌, Bool, true, false, ◌||◌, IfOk, IsSome, List, [], ◌∷◌, ◌++◌, Option, None, Some, Result, ap, arith, filter, get_or, length, map, option_map, refl, subst, sym, take, true≢false, ◌∙◌}
use Rattle.std.specs.List.{filter_map, list_any, zip, slice_get, range_with_len}
use Rattle.std.specs.Option.{option_and_then}
use Rattle.std.specs.Prelude.{◌==◌}
use Rattle.std.proofs.lemmas.Bool.{eqb-false, eqb-true}
use Rattle.std.proofs.lemmas.List.{append-nil, take_all, take_more}
use Rattle.std.proofs.lemmas.List.Elements.{filter_map-append}
use Rattle.std.proofs.lemmas.Option.{slice_get-get_or, slice_get-map}
use Rattle.std.proofs.lemmas.Result.{IfOk-weaker}
use Rattle.std.proofs.lemmas.Slice.Zip.{get_or-zip, length-zip}
use Rattle.driver_lookup.specs.declared.state.DisambiguateState.{DisambiguateState}
use Rattle.driver_passes.specs.Renders.{CiteRender, ItemRender, Place}
use Rattle.driver_passes.specs.RendersView.{item_view, items_view, render_view, renders_view}
use Rattle.driver_passes.specs.Request.{Request}
use Rattle.driver_passes.specs.RequestView.{request_view}
use Rattle.driver_passes.specs.declared.renders.SpeculativeCiteRender.{SpeculativeCiteRender}
use Rattle.driver_passes.specs.declared.renders.SpeculativeItemRender.{SpeculativeItemRender}
use Rattle.driver_passes.specs.Places.{IsPlace, cite_at}
use Rattle.rounds_names.specs.NamedCites.{first_adds_names, greatest_step, named_cite, named_cite_at, named_cites}
use Rattle.rounds_names.specs.NameMarks.{mark, marks_after, name_marks}
use Rattle.rounds_names.specs.Steps.{is_own_step, step, steps}
use Rattle.rounds_names.specs.declared.named_cite.NamedCite.{NamedCite}

-- within a list no default is read
pub same-default : {X : Type 0} (xs : List X) (k : ℕ) (d e : X) → k < length xs → get_or xs k d ≡ get_or xs k e
same-default [] k d e h = absurd (omega arith)
same-default (x ∷ xs) zero d e h = refl
same-default (x ∷ xs) (suc k) d e h = same-default xs k d e (omega arith)

module _ {X Y : Type 0} (h : X → Option Y) where
  -- one more that gives something
  pub filter_map-more : (xs : List X) (k : ℕ) (x : X) (y : Y) {found more : List Y} → k < length xs → x ≡ get_or xs k x → h x ≡ Some y
      → found ≡ filter_map h (take k xs) → more ≡ found ++ y ∷ [] → more ≡ filter_map h (take (k + 1) xs)
  filter_map-more xs k x y within here gives f m =
      let one : filter_map h (x ∷ []) ≡ y ∷ [] = rw gives in
      m ∙ ap (λ l. l ++ y ∷ []) f ∙ ap (λ l. filter_map h (take k xs) ++ l) (sym one) ∙ sym (filter_map-append h (take k xs) (x ∷ []))
      ∙ ap (filter_map h) (ap (λ z. take k xs ++ z ∷ []) here ∙ sym (take_more xs k x within))

  -- one more that gives nothing
  pub filter_map-same : (xs : List X) (k : ℕ) (x : X) {found : List Y} → k < length xs → x ≡ get_or xs k x → h x ≡ None
      → found ≡ filter_map h (take k xs) → found ≡ filter_map h (take (k + 1) xs)
  filter_map-same xs k x within here gives f =
      let one : filter_map h (x ∷ []) ≡ [] = rw gives in
      f ∙ sym (append-nil (filter_map h (take k xs))) ∙ ap (λ l. filter_map h (take k xs) ++ l) (sym one) ∙ sym (filter_map-append h (take k xs) (x ∷ []))
      ∙ ap (filter_map h) (ap (λ z. take k xs ++ z ∷ []) here ∙ sym (take_more xs k x within))

-- a pair at the place of both
pub zip-at : {X S : Type 0} (xs : List X) (ys : List S) (k : ℕ) (x : X) (s : S) → k < length xs → length ys ≡ length xs → x ≡ get_or xs k x → s ≡ get_or ys k s
    → (x, s) ≡ get_or (zip xs ys) k (x, s)
zip-at xs ys k x s h l e f = (λ i. (e i, f i)) ∙ sym (get_or-zip xs ys k (x, s) h (omega (arith, l)))

pub zip-long : {X S : Type 0} (xs : List X) (ys : List S) (k : ℕ) → k < length xs → length ys ≡ length xs → k < length (zip xs ys)
zip-long xs ys k h l = subst (λ n. k < n) (sym (length-zip xs ys)) (omega (arith, l))

pub zip-past : {X S : Type 0} (xs : List X) (ys : List S) (k : ℕ) → length xs ≤ k → length ys ≡ length xs → take k (zip xs ys) ≡ zip xs ys
zip-past xs ys k h l = take_all k (zip xs ys) (subst (λ n. n ≤ k) (sym (length-zip xs ys)) (omega (arith, l)))

zip-map : {X S Y : Type 0} (h : X → S → Option Y) (f : X → S) (xs : List X) → filter_map (λ (p : X × S). h p.0 p.1) (zip xs (map f xs)) ≡ filter_map (λ x. h x (f x)) xs
zip-map h f [] = refl
zip-map h f (x ∷ xs) = let r = zip-map h f xs in rw r

no-marks : (group : List NamedCite) (steps : List ℕ) (step_of : NamedCite → Option ℕ) → steps ≡ [] → [] ≡ marks_after group steps step_of
no-marks group steps step_of e = rw e

marks-of : (group : List NamedCite) (steps : List ℕ) (own : List (Option ℕ)) (step_of : NamedCite → Option ℕ) → own ≡ map step_of group → (steps ≡ [] → ⊥)
    → filter_map (λ p. mark group steps p.0 p.1) (zip group own) ≡ marks_after group steps step_of
marks-of group [] own step_of o e = absurd (e refl)
marks-of group (i ∷ is) own step_of o e =
    ap (λ l. filter_map (λ p. mark group (i ∷ is) p.0 p.1) (zip group l)) o ∙ zip-map (mark group (i ∷ is)) step_of group

-- where an item was found through a list that is only seen
module _ {X Y Z : Type 0} (v : X → Y) where
  inside-then : (xs : List X) (i : ℕ) (f : Y → Option Z) → IsSome (option_and_then f (slice_get (map v xs) i)) → i < length xs
  inside-then [] i f h = absurd (true≢false (sym h))
  inside-then (x ∷ xs) zero f h = omega arith
  inside-then (x ∷ xs) (suc i) f h = let r = inside-then xs i f h in omega arith

  inside-map : (xs : List X) (i : ℕ) (f : Y → Z) → IsSome (option_map f (slice_get (map v xs) i)) → i < length xs
  inside-map [] i f h = absurd (true≢false (sym h))
  inside-map (x ∷ xs) zero f h = omega arith
  inside-map (x ∷ xs) (suc i) f h = let r = inside-map xs i f h in omega arith

seen-at : {X Y : Type 0} (v : X → Y) (xs : List X) (i : ℕ) (x : X) → i < length xs → x ≡ get_or xs i x → slice_get (map v xs) i ≡ Some (v x)
seen-at v xs i x h e = slice_get-map v xs i ∙ ap (option_map v) (slice_get-get_or xs i x h) ∙ ap (λ y. Some (v y)) (sym e)

module _ {T P : Type 0} (cites : List (SpeculativeCiteRender T P)) (place : Place) (cite : SpeculativeCiteRender T P) (item : SpeculativeItemRender T P) where
  -- the member at a place, from the cite and the item there
  pub named_cite-found : (m : NamedCite) → IsPlace (renders_view cites) place → cite ≡ get_or cites place.0 cite
      → item ≡ get_or cite.items.items place.1 item → m ≡ named_cite place (request_view cite.request.now) (item_view item)
      → named_cite_at (renders_view cites) place ≡ Some m
  named_cite-found m some c i e =
      let request = request_view cite.request.now in
      let within : place.0 < length cites = inside-then render_view cites place.0 _ some in
      let here : slice_get (renders_view cites) place.0 ≡ Some (render_view cite) = seen-at render_view cites place.0 cite within c in
      let there : cite_at (renders_view cites) place ≡ option_map (λ (it : ItemRender T P). (request, it)) (slice_get (items_view cite.items.items) place.1) =
      ap (option_and_then (λ (r : CiteRender T P). option_map (λ (it : ItemRender T P). (r.request, it)) (slice_get r.items place.1))) here in
      let among : place.1 < length cite.items.items = inside-map item_view cite.items.items place.1 (λ (it : ItemRender T P). (request, it)) (subst IsSome there some) in
      ap (option_map (λ (x : Request T P × ItemRender T P). named_cite place x.0 x.1))
      (there ∙ ap (option_map (λ (it : ItemRender T P). (request, it))) (seen-at item_view cite.items.items place.1 item among i))
      ∙ ap Some (sym e)

filter-same : {X : Type 0} (p q : X → Bool) (xs : List X) → ((x : X) → p x ≡ q x) → filter p xs ≡ filter q xs
filter-same p q [] h = refl
filter-same p q (x ∷ xs) h = let e = h x in let r = filter-same p q xs h in rw (e, r)

list_any-map : {X Y : Type 0} (p : Y → Bool) (f : X → Y) (xs : List X) → list_any p (map f xs) ≡ list_any (λ x. p (f x)) xs
list_any-map p f [] = refl
list_any-map p f (x ∷ xs) = ap (λ b. p (f x) || b) (list_any-map p f xs)

-- the marks of members, from the steps that the code has found
module _ (group : List NamedCite) (greatest : ℕ) (own : List (Option ℕ)) (taken : List ℕ) where
  steps-are : own ≡ map (step group greatest) group → taken ≡ filter (λ i. list_any (is_own_step i) own) (range_with_len 1 greatest) → taken ≡ steps group greatest
  unfolding steps
  steps-are o t =
      t ∙ ap (λ l. filter (λ i. list_any (is_own_step i) l) (range_with_len 1 greatest)) o
      ∙ filter-same _ (λ i. list_any (λ x. is_own_step i (step group greatest x)) group) (range_with_len 1 greatest) (λ i. list_any-map (is_own_step i) (step group greatest) group)

  module _ (o : own ≡ map (step group greatest) group) (t : taken ≡ filter (λ i. list_any (is_own_step i) own) (range_with_len 1 greatest)) where
    -- without steps there are no marks
    pub marks-none : taken ≡ [] → [] ≡ marks_after group (steps group greatest) (step group greatest)
    marks-none e = no-marks group taken (step group greatest) e ∙ ap (λ l. marks_after group l (step group greatest)) (steps-are o t)

    -- with some there are those of the members, each by its own step
    pub marks-some : (taken ≡ [] → ⊥) → filter_map (λ p. mark group taken p.0 p.1) (zip group own) ≡ marks_after group (steps group greatest) (step group greatest)
    marks-some e = marks-of group taken own (step group greatest) o e ∙ ap (λ l. marks_after group l (step group greatest)) (steps-are o t)

-- what a call answers, in other words
pub in_other_words : {V E Y : Type 0} (r : Result V E) (items : V → Y) (a b : Y) → a ≡ b → IfOk r (λ v. items v ≡ a) → IfOk r (λ v. items v ≡ b)
in_other_words r items a b e h = IfOk-weaker r (λ v. items v ≡ a) (λ v. items v ≡ b) (λ v i. i ∙ e) h

-- the marks of a group, from its members
pub marks-are : {E P : Type 0} (cites : List (CiteRender E P)) (places : List Place) (group : List NamedCite) (greatest : ℕ) → group ≡ named_cites cites places
    → greatest ≡ greatest_step (first_adds_names cites) group
    → marks_after group (steps group greatest) (step group greatest) ≡ name_marks cites places
unfolding name_marks
marks-are cites places group greatest g m =
    let all : List NamedCite → ℕ → List (Place × DisambiguateState) = λ l n. marks_after l (steps l n) (step l n) in
    let most = greatest_step (first_adds_names cites) in
    ap (all group) m ∙ ap (λ l. all l (most l)) g

-- an empty list, by its length
pub is-empty : {X : Type 0} (xs : List X) (n : ℕ) → length xs ≡ n → (n == 0) ≡ true → xs ≡ []
is-empty [] n l e = refl
is-empty (x ∷ xs) n l e = absurd (omega (arith, l, eqb-true n 0 e))

pub is-not-empty : {X : Type 0} (xs : List X) (n : ℕ) → length xs ≡ n → (n == 0) ≡ false → xs ≡ [] → ⊥
is-not-empty xs n l e h = eqb-false n 0 e (sym l ∙ ap length h)
