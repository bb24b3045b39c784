-- A set of references, seen as the list of the entries.
use Rattle.std.proofs.Common.{◌≡◌, ℕ, ◌+◌, ◌≤◌, length, Bool, true, false, cond, not, nat_lt, ◌||◌, List, [], ◌∷◌, ◌++◌, map, Some, None, refl, ap, ◌∙◌, arith}
use Rattle.std.specs.List.{list_any, position, position_or_len}
use Rattle.std.proofs.Math.ListN.{length-map}
use Rattle.std.proofs.lemmas.Bool.Decides.{nat_tests}
use Rattle.std.proofs.lemmas.List.{map-append}
use Rattle.std.proofs.lemmas.List.Sums.{prefix_len-le-length}
use Rattle.driver_entries.specs.Entries.{is_in, place, with_new}

module _ {X E : Type 0} (now : X → E) (eq : E → E → Bool) where
  pub is_in-view : (e : E) (ks : List X) → is_in eq e (map now ks) ≡ list_any (λ k. eq e (now k)) ks
  is_in-view e [] = refl
  is_in-view e (k ∷ ks) = ap (λ b. eq e (now k) || b) (is_in-view e ks)

  -- what is inserted, as the entries show it
  pub insert-view : (x : X) (ks new : List X) → new ≡ cond (list_any (λ k. eq (now x) (now k)) ks) ks (ks ++ x ∷ []) → map now new ≡ with_new eq (map now ks) (now x)
  insert-view x ks new e = rw (e, is_in-view (now x) ks) (by (list_any (λ k. eq (now x) (now k)) ks))
    where
      by : (b : Bool) → map now (cond b ks (ks ++ x ∷ [])) ≡ cond b (map now ks) (map now ks ++ now x ∷ [])
      by true = refl
      by false = map-append now ks (x ∷ [])

  pub place-view : (e : E) (ks : List X) → position_or_len (λ k. eq e (now k)) ks ≡ place eq e (map now ks)
  place-view e [] = refl
  place-view e (k ∷ ks) = ap (λ n. cond (not (eq e (now k))) (1 + n) 0) (place-view e ks)

  found-at : (b : Bool) (i n : ℕ) → Some i ≡ cond b (Some n) None → i ≡ n
  found-at true i n h = cc
  found-at false i n h = cc

  pub missing-at : (b : Bool) (n len : ℕ) → nat_lt n len ≡ b → n ≤ len → None ≡ cond b (Some n) None → len ≡ n
  missing-at true n len t most h = cc
  missing-at false n len t most h = grind (arith, nat_tests)

  -- the index that is found is the place
  pub place-found : (e : E) (ks : List X) (i : ℕ) → Some i ≡ position (λ k. eq e (now k)) ks → i ≡ place eq e (map now ks)
  place-found e ks i h = found-at (nat_lt (position_or_len (λ k. eq e (now k)) ks) (length ks)) i _ h ∙ place-view e ks

  -- and where none is found the place is the length
  pub place-missing : (e : E) (ks : List X) (len : ℕ) → len ≡ length ks → None ≡ position (λ k. eq e (now k)) ks → len ≡ place eq e (map now ks)
  place-missing e ks len l h =
      let n = position_or_len (λ k. eq e (now k)) ks in
      l ∙ missing-at (nat_lt n (length ks)) n (length ks) refl (prefix_len-le-length (λ k. not (eq e (now k))) ks) h ∙ place-view e ks

  -- where it is found, as the entries show it
  pub position-view : (e : E) (ks : List X) → position (λ k. eq e (now k)) ks ≡ position (eq e) (map now ks)
  position-view e ks = rw (place-view e ks, ← length-map ks now) refl
