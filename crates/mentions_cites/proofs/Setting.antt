-- Cites as they are arranged, one more.
use Rattle.std.proofs.Common.{◌≡◌, ℕ, ◌+◌, ◌<◌, ◌≤◌, min, List, length, map, take, get_or, ap, sym, subst, ◌∙◌, arith}
use Rattle.std.specs.Prelude.{slice_index_or}
use Rattle.std.specs.List.{zip}
use Rattle.std.proofs.Math.ListN.{get_or-map, length-map, set}
use Rattle.std.proofs.lemmas.List.{get_or_default}
use Rattle.std.proofs.lemmas.Slice.Zip.{length-zip}
use Rattle.value_styles.specs.Style.{CitationValue}
use Rattle.mentions_arranging.specs.Requests.{request_view, requests_view}
use Rattle.mentions_arranging.specs.declared.arranged.ArrangedCite.{ArrangedCite}
use Rattle.mentions_arranging.specs.declared.request.CiteRequest.{CiteRequest}
use Rattle.mentions_arranging.specs.declared.request.FinalCite.{FinalCite}
use Rattle.driver_passes.specs.Renders.{CiteRender, ItemRender}
use Rattle.mentions_tables.specs.Steps.{all_changed}
use Rattle.mentions_tables.proofs.Changing.{changed-none, zip-at}
use Rattle.mentions_cites.specs.Arranging.{arranged_by, arranged_cite, arranged_request}
use Rattle.mentions_cites.proofs.Beside.{beside-all, beside-next}

-- of the cites of a request
module _ {L E P X : Type 0} (view : X → ItemRender E P) (numbers : List ℕ) (citation : CitationValue) (cites : List (FinalCite L)) (arranged : List ArrangedCite) (old now : List X) (k : ℕ)
    (so_far : map view now ≡ all_changed (arranged_by numbers citation) (take k (zip cites arranged)) (map view old)) where
  pub cite-next : (cite : FinalCite L) (a d : ArrangedCite) (e x : X) (number : ℕ) → k < length cites → k < length arranged → k < length old → cite ≡ get_or cites k cite → a ≡ get_or arranged k d
      → number ≡ slice_index_or numbers cite.cite.entry 0 → view x ≡ arranged_cite citation number a (view (get_or now k e))
      → map view (set now k x) ≡ all_changed (arranged_by numbers citation) (take (k + 1) (zip cites arranged)) (map view old)
  cite-next cite a d e x number v w u here beside numbered is =
      let both : k < length (zip cites arranged) = omega (arith, length-zip cites arranged) in
      beside-next view (arranged_by numbers citation) (zip cites arranged) old now k so_far (cite, a) e x both u
      (zip-at k cites arranged cite a v w here (beside ∙ get_or_default arranged k d a w))
      (is ∙ (λ i. arranged_cite citation (numbered i) a (view (get_or now k e))))

  pub cites-all : min (min (length old) (length cites)) (length arranged) ≤ k → map view now ≡ all_changed (arranged_by numbers citation) (zip cites arranged) (map view old)
  cites-all past =
      let both = length-zip cites arranged in
      let all : min (length (zip cites arranged)) (length old) ≤ k = omega (arith, both) in
      beside-all view (arranged_by numbers citation) (zip cites arranged) old now k so_far all

-- of all requests
module _ {L E P V X : Type 0} (list : V → List ArrangedCite) (view : X → CiteRender E P) (numbers : List ℕ) (requests : List (CiteRequest (FinalCite L))) (arranged : List V) where
  pub requests-none : (old : List X) → map view old ≡ all_changed (arranged_request numbers) (take 0 (zip (requests_view requests) (map list arranged))) (map view old)
  requests-none old = changed-none (arranged_request numbers) (zip (requests_view requests) (map list arranged)) (map view old)

  module _ (old now : List X) (r : ℕ) (so_far : map view now ≡ all_changed (arranged_request numbers) (take r (zip (requests_view requests) (map list arranged))) (map view old)) where
    pub request-next : (request : CiteRequest (FinalCite L)) (a : V) (e x : X) (given : List ArrangedCite) → r < length requests → r < length arranged → r < length old → request ≡ get_or requests r request
        → a ≡ get_or arranged r a → given ≡ list a → view x ≡ arranged_request numbers (request_view request, given) (view (get_or now r e))
        → map view (set now r x) ≡ all_changed (arranged_request numbers) (take (r + 1) (zip (requests_view requests) (map list arranged))) (map view old)
    request-next request a e x given v w u here beside is made =
        let rs = requests_view requests in
        let xs = map list arranged in
        let first : r < length rs = subst (λ n. r < n) (sym (length-map requests request_view)) v in
        let second : r < length xs = subst (λ n. r < n) (sym (length-map arranged list)) w in
        let both : r < length (zip rs xs) = omega (arith, length-zip rs xs) in
        beside-next view (arranged_request numbers) (zip rs xs) old now r so_far (request_view request, list a) e x both u
        (zip-at r rs xs (request_view request) (list a) first second (ap request_view here ∙ sym (get_or-map request_view requests r request)) (ap list beside ∙ sym (get_or-map list arranged r a)))
        (made ∙ (λ i. arranged_request numbers (request_view request, is i) (view (get_or now r e))))

    pub requests-all : min (min (length old) (length requests)) (length arranged) ≤ r → map view now ≡ all_changed (arranged_request numbers) (zip (requests_view requests) (map list arranged)) (map view old)
    requests-all past =
        let rs = requests_view requests in
        let xs = map list arranged in
        let both = length-zip rs xs in
        let first : length rs ≡ length requests = length-map requests request_view in
        let second : length xs ≡ length arranged = length-map arranged list in
        let all : min (length (zip rs xs)) (length old) ≤ r = omega (arith, both, first, second) in
        beside-all view (arranged_request numbers) (zip rs xs) old now r so_far all
