-- The final order, block after block.
use Rattle.std.proofs.Common.{◌≡◌, ℕ, suc, ◌+◌, Bool, true, false, ◌||◌, Some, None, List, [], ◌∷◌, ◌++◌, map, slice_get, refl, ap, sym, ◌∙◌, append_assoc, arith}
use Rattle.std.specs.Prelude.{Option}
use Rattle.std.specs.List.{enumerate_from, flat_map}
use Rattle.std.specs.Option.{option_eq}
use Rattle.std.proofs.lemmas.List.{map-append}
use Rattle.std.proofs.lemmas.List.Elements.{filter_agree}
use Rattle.value_trees.specs.SameElem.{same_elem}
use Rattle.value_trees.specs.Tree.{find_elem, has_names}
use Rattle.value_trees.specs.declared.elem.Elem.{Elem}
use Rattle.driver_entries.specs.Entries.{is_in}
use Rattle.driver_entries.proofs.Distinct.{is_in-distinct}
use Rattle.driver_passes.specs.Renders.{ItemRender}
use Rattle.rounds_grouping.specs.BlockKeys.{BlockKey, named, alone, key_of, same_key}
use Rattle.rounds_grouping.specs.Blocks.{block, block_index, block_keys, final_order, grouped_cites, in_block, with_block}
use Rattle.rounds_grouping.proofs.KeyLaws.{equal, key_laws}
use Rattle.rounds_grouping.specs.Laws.{IsInFinalOrder, StandsTogether, bare, places_with}
use Rattle.rounds_grouping.proofs.Classes.{no-members}
use Rattle.rounds_grouping.proofs.Whole.{Every, every-filter, every-flat}

-- where a key stands among keys
split : (key : BlockKey) (keys : List BlockKey) → is_in same_key key keys ≡ true → (pre : List BlockKey) × (suf : List BlockKey) × (keys ≡ pre ++ key ∷ suf)
split key [] h = cc
split key (k ∷ keys) h = by (same_key key k) refl h (split key keys)
  where
    by : (b : Bool) → same_key key k ≡ b → (b || is_in same_key key keys) ≡ true
        → (is_in same_key key keys ≡ true → (pre : List BlockKey) × (suf : List BlockKey) × (keys ≡ pre ++ key ∷ suf))
        → (pre : List BlockKey) × (suf : List BlockKey) × (k ∷ keys ≡ pre ++ key ∷ suf)
    by true e h more = ([], keys, ap (λ x. x ∷ keys) (sym (equal key k e)))
    by false e h more = let r = more h in (k ∷ r.0, r.1, ap (λ xs. k ∷ xs) r.2)

flat-append : {X Y : Type 0} (f : X → List Y) (xs ys : List X) → flat_map f (xs ++ ys) ≡ flat_map f xs ++ flat_map f ys
flat-append f [] ys = refl
flat-append f (x ∷ xs) ys = ap (λ zs. f x ++ zs) (flat-append f xs ys) ∙ sym (append_assoc (f x) (flat_map f xs) (flat_map f ys))

same-tests : {E P : Type 0} (names : Elem) (p : ℕ × ItemRender E P) → same_key (named names) (key_of p.0 p.1) ≡ option_eq same_elem (Some names) (find_elem has_names p.1.rendered)
same-tests names p = by (find_elem has_names p.1.rendered)
  where
    by : (o : Option Elem) → same_key (named names) (elim o [ None ↦ alone p.0 | Some found ↦ named found ]) ≡ option_eq same_elem (Some names) o
    by None = refl
    by (Some found) = refl

module _ {E P : Type 0} (cites : List (ItemRender E P)) where
  keys : List BlockKey
  keys = map (λ p. key_of p.0 p.1) (enumerate_from 0 cites)

  places : (names : Elem) → map (λ p. p.0) (block cites (named names)) ≡ places_with cites names
  places names = ap (map (λ p. p.0)) (filter_agree _ _ (same-tests names) (enumerate_from 0 cites))

  pub together : (names : Elem) → StandsTogether (final_order cites) (places_with cites names)
  together names = by (is_in same_key (named names) (block_keys cites)) refl
    where
      by : (b : Bool) → is_in same_key (named names) (block_keys cites) ≡ b → StandsTogether (final_order cites) (places_with cites names)
      by true e =
          let s = split (named names) (block_keys cites) e in
          let before = map (λ p. p.0) (flat_map (block cites) s.0) in
          let after = map (λ p. p.0) (flat_map (block cites) s.1) in (
            before,
            after,
            ap (λ ks. map (λ p. p.0) (flat_map (block cites) ks)) s.2
                ∙ ap (map (λ p. p.0)) (flat-append (block cites) s.0 (named names ∷ s.1))
                ∙ map-append (λ p. p.0) (flat_map (block cites) s.0) (block cites (named names) ++ flat_map (block cites) s.1)
                ∙ ap (λ xs. before ++ xs) (map-append (λ p. p.0) (block cites (named names)) (flat_map (block cites) s.1) ∙ ap (λ xs. xs ++ after) (places names)),
          )
      by false e =
          let none : places_with cites names ≡ [] =
          sym (places names)
          ∙ no-members same_key key_laws (λ p. key_of p.0 p.1) (λ p. p.0) (named names) (enumerate_from 0 cites)
          (sym (is_in-distinct same_key key_laws (named names) (map (λ p. key_of p.0 p.1) (enumerate_from 0 cites))) ∙ e) in
          ([], final_order cites, ap (λ xs. xs ++ final_order cites) (sym none))

  bare-rest : (delimiter : Option (List ℕ)) (group : Option ℕ) (ws : List (ℕ × ItemRender E P))
      → map (λ c. Some (bare c)) (map (with_block delimiter group) (map (λ w. w.1) ws)) ≡ map (λ w. Some (bare w.1)) ws
  bare-rest delimiter group [] = refl
  bare-rest delimiter group (w ∷ ws) = ap (λ xs. Some (bare w.1) ∷ xs) (bare-rest delimiter group ws)

  bare-block : (delimiter : Option (List ℕ)) (group : Option ℕ) (ws : List (ℕ × ItemRender E P))
      → map (λ c. Some (bare c)) (in_block delimiter group (map (λ w. w.1) ws)) ≡ map (λ w. Some (bare w.1)) ws
  bare-block delimiter group [] = refl
  bare-block delimiter group (w ∷ ws) = ap (λ xs. Some (bare w.1) ∷ xs) (bare-rest delimiter group ws)

  bare-blocks : (delimiter : Option (List ℕ)) (ks : List BlockKey)
      → map (λ c. Some (bare c)) (flat_map (λ key. in_block delimiter (block_index cites key) (map (λ p. p.1) (block cites key))) ks) ≡ map (λ w. Some (bare w.1)) (flat_map (block cites) ks)
  bare-blocks delimiter [] = refl
  bare-blocks delimiter (key ∷ ks) =
      map-append (λ c. Some (bare c)) (in_block delimiter (block_index cites key) (map (λ p. p.1) (block cites key)))
      (flat_map (λ k. in_block delimiter (block_index cites k) (map (λ p. p.1) (block cites k))) ks)
      ∙ (λ i. bare-block delimiter (block_index cites key) (block cites key) i ++ bare-blocks delimiter ks i)
      ∙ sym (map-append (λ w. Some (bare w.1)) (block cites key) (flat_map (block cites) ks))

  abbrev Stands : ℕ × ItemRender E P → Type 0
  Stands w = Some (bare w.1) ≡ slice_get (map bare cites) w.0

  stand-from : (b : ℕ) (xs : List (ItemRender E P)) → ((k : ℕ) → slice_get (map bare cites) (b + k) ≡ slice_get (map bare xs) k) → Every Stands (enumerate_from b xs)
  stand-from b [] h = tt
  stand-from b (x ∷ xs) h = (
    (let e : b + 0 ≡ b = omega arith in sym (h 0) ∙ ap (slice_get (map bare cites)) e),
    stand-from (b + 1) xs (λ k. let e : b + 1 + k ≡ b + suc k = omega arith in ap (slice_get (map bare cites)) e ∙ h (suc k)),
  )

  each-same : (ws : List (ℕ × ItemRender E P)) → Every Stands ws → map (λ w. Some (bare w.1)) ws ≡ map (λ k. slice_get (map bare cites) k) (map (λ w. w.0) ws)
  each-same [] h = refl
  each-same (w ∷ ws) h = λ i. h.0 i ∷ each-same ws h.1 i

  pub ordered : (delimiter : Option (List ℕ)) → IsInFinalOrder cites (grouped_cites delimiter cites)
  ordered delimiter =
      bare-blocks delimiter (block_keys cites)
      ∙ each-same (flat_map (block cites) (block_keys cites))
      (every-flat Stands (block cites) (λ key. every-filter Stands (λ p. same_key key (key_of p.0 p.1)) (enumerate_from 0 cites)
      (stand-from 0 cites (λ k. let e : 0 + k ≡ k = omega arith in ap (slice_get (map bare cites)) e))) (block_keys cites))
