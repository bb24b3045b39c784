-- How many renderings an answer takes at most.
use Rattle.std.proofs.Common.{◌≡◌, ℕ, zero, suc, ◌+◌, ◌*◌, ◌<◌, ◌≤◌, ◌⊎◌, inl, inr, Bool, true, false, cond, List, [], ◌∷◌, length, map, min, refl, sym, subst, arith, add-mul, mul-suc, suc-mul}
use Rattle.std.specs.Prelude.{filter, is_some}
use Rattle.std.proofs.Math.ListN.{length-map}
use Rattle.std.proofs.lemmas.List.{length-append}
use Rattle.std.proofs.lemmas.List.Sums.{sum_by-cons}
use Rattle.driver_passes.specs.Request.{Request, cited, cites_of}
use Rattle.rounds_runs.specs.Rerenders.{marked_among, rerenders}
use Rattle.rounds_runs.specs.Rounds.{StateTable}

filtered : {X : Type 0} (p : X → Bool) (xs : List X) → length (filter p xs) ≤ length xs
filtered p [] = omega arith
filtered p (x ∷ xs) = by (p x) (filtered p xs)
  where
    by : (b : Bool) → length (filter p xs) ≤ length xs → length (cond b (x ∷ filter p xs) (filter p xs)) ≤ suc (length xs)
    by true h = omega (arith, h)
    by false h = omega (arith, h)

-- in each round at most all cites
pub rerendered : {E : Type 0} (entries : List E) (tables : List (StateTable E)) → rerenders entries tables ≤ length tables * length entries
rerendered entries [] = omega arith
rerendered entries (t ∷ ts) =
    let own = filtered (λ e. is_some (t e)) entries in
    let more = rerendered entries ts in
    let all = sum_by-cons (marked_among entries) t ts in
    let times : suc (length ts) * length entries ≡ length ts * length entries + length entries = suc-mul (length ts) (length entries) in
    omega (arith, own, more, all, times)

-- there are as many entries cited as cites
pub as-many-cited : {E P : Type 0} (requests : List (Request E P)) → length (cited requests) ≡ length (cites_of requests)
as-many-cited [] = refl
as-many-cited (r ∷ rs) =
    let own = length-map r.cites (λ c. c.entry) in
    let more = as-many-cited rs in
    let left = length-append (map (λ c. c.entry) r.cites) (cited rs) in
    let right = length-append r.cites (cites_of rs) in
    omega (arith, own, more, left, right)

-- by counts that stand still
pub bounded : (cites again listed marked most : ℕ) → again ≤ marked * cites → min (2 * cites + again + listed) most ≤ (2 + min marked most) * cites + listed
bounded cites again listed marked most h = elim (marked-or marked most) [
  | inl low ↦ few low
  | inr high ↦ let e : min marked most ≡ most = omega (arith, high) in subst (λ m. min (2 * cites + again + listed) most ≤ (2 + m) * cites + listed) (sym e) (many cites h)
]
  where
    marked-or : (m n : ℕ) → (m ≤ n) ⊎ (n < m)
    marked-or m n = grind arith

    few : marked ≤ most → min (2 * cites + again + listed) most ≤ (2 + min marked most) * cites + listed
    few low =
        let e : marked ≡ min marked most = omega (arith, low) in
        let all : (2 + marked) * cites ≡ 2 * cites + marked * cites = add-mul 2 marked cites in
        subst (λ m. min (2 * cites + again + listed) most ≤ (2 + m) * cites + listed) e (omega (arith, h, all))

    many : (cites : ℕ) → again ≤ marked * cites → min (2 * cites + again + listed) most ≤ (2 + most) * cites + listed
    many zero h = omega (arith, h)
    many (suc c) h = let e : (2 + most) * suc c ≡ (2 + most) * c + (2 + most) = mul-suc (2 + most) c in omega (arith, e)
