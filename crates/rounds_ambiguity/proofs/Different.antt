-- Whether cites cite different entries.
use Rattle.std.proofs.Common.{◌≡◌, Bool, true, false, not, ◌||◌, Some, List, [], ◌∷◌, refl, ap, sym, ◌∙◌, arith}
use Rattle.std.specs.Prelude.{option_map, slice_get}
use Rattle.std.specs.List.{list_any}
use Rattle.std.specs.Cmp.{IsEquivalence}
use Rattle.std.proofs.lemmas.Bool.{or_parts, not-false}
use Rattle.driver_passes.specs.Renders.{CiteRender, ItemRender, Place}
use Rattle.rounds_ambiguity.specs.Ambiguity.{cite_different}
use Rattle.rounds_ambiguity.specs.Members.{Member, entry_of, member_at, members}
use Rattle.rounds_ambiguity.proofs.Walks.{IsNext, next}

module _ {E P : Type 0} (eq : E → E → Bool) (laws : IsEquivalence eq) where
  abbrev differs : E → List (Member E P) → Bool
  differs e cites = list_any (λ m. not (eq e (entry_of m))) cites

  -- equal entries differ from the same ones
  differs-equal : (d e : E) (cites : List (Member E P)) → eq d e ≡ true → differs e cites ≡ differs d cites
  differs-equal d e [] h = refl
  differs-equal d e (m ∷ ms) h =
      let same : eq e (entry_of m) ≡ eq d (entry_of m) = sym (laws.congr d e (entry_of m) h) in
      λ i. not (same i) || differs-equal d e ms h i

  none-differs : (d : E) (all cites : List (Member E P)) → differs d all ≡ false → differs d cites ≡ false → list_any (λ m. differs (entry_of m) all) cites ≡ false
  none-differs d all [] none h = refl
  none-differs d all (m ∷ ms) none h =
      let n : (not (eq d (entry_of m)) ≡ false) × (differs d ms ≡ false) = or_parts (not (eq d (entry_of m))) (differs d ms) h in
      ap (λ b. b || list_any (λ x. differs (entry_of x) all) ms) (differs-equal d (entry_of m) all (not-false (eq d (entry_of m)) n.0) ∙ none)
      ∙ none-differs d all ms none n.1

  -- it is enough to look at the first
  from-first : (m : Member E P) (ms : List (Member E P)) → differs (entry_of m) (m ∷ ms) ≡ cite_different eq (m ∷ ms)
  from-first m ms = by (differs (entry_of m) (m ∷ ms)) refl
    where
      by : (b : Bool) → differs (entry_of m) (m ∷ ms) ≡ b → b ≡ (b || list_any (λ x. differs (entry_of x) (m ∷ ms)) ms)
      by true h = refl
      by false h = sym (none-differs (entry_of m) (m ∷ ms) ms h ((or_parts (not (eq (entry_of m) (entry_of m))) (differs (entry_of m) ms) h).1))

  pub different : (cites : List (CiteRender E P)) (ps : List Place) (p : Place) (i : ItemRender E P) (b : Bool) → Some p ≡ slice_get ps 0 → option_map (λ m. m.item) (member_at cites p) ≡ Some i
      → b ≡ differs i.entry (members cites ps) → b ≡ cite_different eq (members cites ps)
  different cites [] p i b first known h = cc
  different cites (q ∷ ps) p i b first known h =
      let same : p ≡ q = cc in
      let n : IsNext cites (q ∷ ps) 0 q (λ m. m.item) i = next cites (λ m. m.item) (q ∷ ps) 0 q i (omega arith) (ap (λ x. option_map (λ m. m.item) (member_at cites x)) (sym same) ∙ known) in
      h ∙ ap (λ e. differs e (members cites (q ∷ ps))) (sym (ap (λ x. x.entry) n.known))
      ∙ ap (differs (entry_of n.cite)) n.split ∙ from-first n.cite _ ∙ ap (cite_different eq) (sym n.split)
