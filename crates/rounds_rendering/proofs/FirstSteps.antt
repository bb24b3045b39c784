-- The properties by which cites are rendered first, beside the requests.
use Rattle.std.proofs.Common.{◌≡◌, ℕ, ◌<◌, List, length, map, get_or, Vec, Global, ap, sym, ◌∙◌, arith}
use Rattle.std.proofs.Math.ListN.{get_or-map, length-map}
use Rattle.std.proofs.lemmas.List.{get_or_default}
use Rattle.driver_passes.specs.Request.{Request}
use Rattle.driver_passes.specs.declared.first.FirstProperties.{FirstProperties}
use Rattle.rounds_runs.specs.FirstRenders.{HasShapeOf}

-- the properties of a request's cites
abbrev pub row_of : Vec FirstProperties Global → List FirstProperties
row_of v = v.items

-- where the properties have the requests' shape, there is a list for each request
pub lists-length : {E P : Type 0} (requests : List (Request E P)) (firsts : List (List FirstProperties)) → HasShapeOf requests firsts → length firsts ≡ length requests
lists-length requests firsts shape =
    sym (length-map firsts length) ∙ ap length shape ∙ length-map requests (λ r. length r.cites)

pub request-within : {E P X : Type 0} (view : X → Request E P) (xs : List X) (rows : List (Vec FirstProperties Global)) (k : ℕ) → HasShapeOf (map view xs) (map row_of rows) → k < length rows → k < length xs
request-within view xs rows k shape within =
    let long : length (map row_of rows) ≡ length (map view xs) = lists-length (map view xs) (map row_of rows) shape in
    let kept : length (map row_of rows) ≡ length rows = length-map rows row_of in
    let requests : length (map view xs) ≡ length xs = length-map xs view in
    omega (arith, within, long, kept, requests)

-- each is as long as the request's cites
pub list-length : {E P : Type 0} (requests : List (Request E P)) (k : ℕ) (request : Request E P) → k < length requests → request ≡ get_or requests k request
    → (firsts : List (List FirstProperties)) (row : List FirstProperties) → HasShapeOf requests firsts → row ≡ get_or firsts k row → length row ≡ length request.cites
list-length {E} {P} requests k request within here firsts row shape at =
    let size : Request E P → ℕ = λ r. length r.cites in
    let inside : k < length (map size requests) = simp length-map within in
    ap length at ∙ sym (get_or-map length firsts k row) ∙ ap (λ (l : List ℕ). get_or l k (length row)) shape
    ∙ get_or_default (map size requests) k (length row) (size request) inside ∙ get_or-map size requests k request ∙ ap size (sym here)
