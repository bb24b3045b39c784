-- What walks over requests have made so far, one more.
use Rattle.std.proofs.Common.{◌≡◌, ℕ, ◌+◌, ◌<◌, ◌≤◌, Bool, List, [], ◌∷◌, ◌++◌, length, map, min, take, get_or, ap, sym, subst, ◌∙◌, arith}
use Rattle.std.specs.Prelude.{IfOk, Result, zip}
use Rattle.std.specs.List.{enumerate_from}
use Rattle.std.specs.Option.{option_and_then}
use Rattle.std.proofs.lemmas.List.{length-map, map-append, take_all, take_more}
use Rattle.std.proofs.lemmas.List.FromFn.{length-enumerate_from}
use Rattle.std.proofs.lemmas.Simd.{map-map}
use Rattle.std.proofs.lemmas.Slice.Zip.{get_or-zip, length-zip}
use Rattle.mentions_notes.specs.Repeats.{before_at, positions, positions_behind, repeatable}
use Rattle.mentions_notes.specs.Requests.{Request as Repeating}
use Rattle.mentions_notes.specs.declared.repeats.Position.{Position}
use Rattle.list_lemmas.proofs.Stepping.{here-view, next, within-view}
use Rattle.mentions_arranging.specs.Arranged.{arranged_request}
use Rattle.mentions_arranging.specs.Order.{final_request}
use Rattle.mentions_arranging.specs.Repeating.{final_positions, handed_request, repeating_request}
use Rattle.mentions_arranging.specs.Requests.{Request, request_view, requests_view}
use Rattle.mentions_arranging.specs.declared.arranged.ArrangedCite.{ArrangedCite}
use Rattle.mentions_arranging.specs.declared.request.CiteRequest.{CiteRequest}
use Rattle.mentions_arranging.specs.declared.request.FinalCite.{FinalCite}
use Rattle.mentions_arranging.specs.declared.request.RequestedCite.{RequestedCite}

-- what a call gave that is returned as it is
pub same-items : {X V E : Type 0} (r : Result V E) (items : V → List X) (xs ys : List X) → xs ≡ ys → IfOk r (λ v. items v ≡ xs) → IfOk r (λ v. items v ≡ ys)
same-items r items xs ys is = subst (λ l. IfOk r (λ v. items v ≡ l)) is

pub in-both : {A B C : Type 0} (f : A → B → C) {a x : A} {b y : B} → a ≡ x → b ≡ y → f a b ≡ f x y
in-both f p q = λ i. f (p i) (q i)

-- requests in their final order, and as mentions_notes takes them
module _ {L : Type 0} where
  abbrev pub seen_handed : CiteRequest (RequestedCite L) → Repeating L
  seen_handed r = handed_request (request_view r)

  abbrev pub seen_final : CiteRequest (RequestedCite L) → Request (FinalCite L)
  seen_final r = final_request (request_view r)

  abbrev pub seen_repeating : CiteRequest (FinalCite L) → Repeating L
  seen_repeating r = repeating_request (request_view r)

  -- a request with its positions, as it is arranged
  abbrev pub arranged_pair : List ℕ → Request (FinalCite L) × List Position → List ArrangedCite
  arranged_pair numbers p = arranged_request numbers p.0 p.1

-- what is made of each member, seen as such
module _ {X Y Z : Type 0} (view : Z → Y) (f : X → Y) (xs : List X) (k : ℕ) where
  pub mapped-next : (x : X) → k < length xs → x ≡ get_or xs k x → (found all : List Z) (z : Z) → map view found ≡ map f (take k xs) → view z ≡ f x → all ≡ found ++ z ∷ [] → map view all ≡ map f (take (k + 1) xs)
  mapped-next x within here found all z so_far is pushed =
      ap (map view) pushed ∙ map-append view found (z ∷ []) ∙ (λ i. so_far i ++ is i ∷ []) ∙ sym (ap (map f) (next xs k x within here) ∙ map-append f (take k xs) (x ∷ []))

  pub all-mapped : {W : Type 0} (seen : X → W) (make : W → Y) → ((x : X) → f x ≡ make (seen x)) → length xs ≤ k → (found : List Z) → map view found ≡ map f (take k xs) → map view found ≡ map make (map seen xs)
  all-mapped seen make agree past found so_far =
      so_far ∙ ap (map f) (take_all k xs past) ∙ same xs ∙ sym (map-map make seen xs)
    where
      same : (ys : List X) → map f ys ≡ map (λ x. make (seen x)) ys
      same [] = λ i. []
      same (y ∷ ys) = λ i. agree y i ∷ same ys i

-- pairs of members of two lists
module _ {A B : Type 0} (xs : List A) (ys : List B) (k : ℕ) (x : A) (y : B) (first : k < length xs) (second : k < length ys) where
  pub zip-next : x ≡ get_or xs k x → y ≡ get_or ys k y → take (k + 1) (zip xs ys) ≡ take k (zip xs ys) ++ (x, y) ∷ []
  zip-next here there =
      let both : k < length (zip xs ys) = omega (arith, length-zip xs ys) in
      take_more (zip xs ys) k (x, y) both ∙ ap (λ p. take k (zip xs ys) ++ p ∷ []) (get_or-zip xs ys k (x, y) first second ∙ (λ i. (sym here i, sym there i)))

-- what is made of each pair, of members seen as others
module _ {X P A B Y : Type 0} (f : X → A) (g : P → B) (make : A × B → Y) (xs : List X) (ps : List P) (k : ℕ) where
  module _ (x : X) (p : P) (first : k < length xs) (second : k < length ps) (here : x ≡ get_or xs k x) (there : p ≡ get_or ps k p) where
    pub pairs-next : (found all : List Y) (y : Y) → found ≡ map make (take k (zip (map f xs) (map g ps))) → y ≡ make (f x, g p) → all ≡ found ++ y ∷ [] → all ≡ map make (take (k + 1) (zip (map f xs) (map g ps)))
    pairs-next found all y so_far is pushed =
        pushed ∙ (λ i. so_far i ++ is i ∷ [])
        ∙ sym (ap (map make) (zip-next (map f xs) (map g ps) k (f x) (g p) (within-view f xs k first) (within-view g ps k second) (here-view f xs k x here) (here-view g ps k p there))
        ∙ map-append make (take k (zip (map f xs) (map g ps))) ((f x, g p) ∷ []))

    pub seen-pairs-next : {Z : Type 0} (view : Z → Y) (found all : List Z) (z : Z) → map view found ≡ map make (take k (zip (map f xs) (map g ps))) → view z ≡ make (f x, g p) → all ≡ found ++ z ∷ []
        → map view all ≡ map make (take (k + 1) (zip (map f xs) (map g ps)))
    seen-pairs-next view found all z so_far is pushed = pairs-next (map view found) (map view all) (view z) so_far is (ap (map view) pushed ∙ map-append view found (z ∷ []))

  pub all-pairs : min (length xs) (length ps) ≤ k → (found : List Y) → found ≡ map make (take k (zip (map f xs) (map g ps))) → (seen : List B) → map g ps ≡ seen → found ≡ map make (zip (map f xs) seen)
  all-pairs past found so_far seen is =
      let all : length (zip (map f xs) (map g ps)) ≤ k = omega (arith, past, length-zip (map f xs) (map g ps), length-map xs f, length-map ps g) in
      so_far ∙ ap (map make) (take_all k (zip (map f xs) (map g ps)) all ∙ ap (zip (map f xs)) is)

-- each request has positions
length-positions : {L : Type 0} (eq : L → L → Bool) (requests : List (Repeating L)) → length (positions eq requests) ≡ length requests
length-positions eq requests =
    length-map (enumerate_from 0 requests) (λ p. positions_behind eq (option_and_then (repeatable requests p.1.note) (before_at requests p.0)) p.1.cites) ∙ length-enumerate_from 0 requests

module _ {L P : Type 0} (eq : L → L → Bool) (requests : List (CiteRequest (FinalCite L))) (items : P → List Position) (found : List P) where
  pub all-have-positions : map items found ≡ final_positions eq (requests_view requests) → length found ≡ length requests
  all-have-positions is =
      sym (length-map found items) ∙ ap length is ∙ length-positions eq (map repeating_request (requests_view requests)) ∙ length-map (requests_view requests) repeating_request
      ∙ length-map requests request_view
