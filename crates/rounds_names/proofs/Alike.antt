-- Members that read alike by one person more.
use Rattle.std.proofs.Common.{◌≡◌, ℕ, zero, suc, ◌+◌, Bool, true, false, ◌&&◌, Option, List, [], ◌∷◌, map, take, refl, arith, add-one, ap, sym, ◌∙◌}
use Rattle.std.specs.Prelude.{option_map, slice_get, ◌==◌}
use Rattle.std.specs.Option.{option_eq}
use Rattle.std.proofs.lemmas.Bool.{eqb-true}
use Rattle.value_sources.specs.EqualEntries.{persons_find}
use Rattle.value_sources.specs.Finds.{lists_find}
use Rattle.value_sources.specs.declared.entry.Person.{Person}
use Rattle.value_styles.specs.declared.style.DisambiguationRule.{DisambiguationRule}
use Rattle.rounds_names.specs.Classes.{kept_at}
use Rattle.rounds_names.specs.Cut.{cut_by_rule, kept}
use Rattle.rounds_names.specs.Persons.{same_person}
use Rattle.rounds_names.specs.Steps.{same_persons}

and-true : (b : Bool) → b ≡ (b && true)
and-true true = refl
and-true false = refl

both : (b x y z : Bool) → x ≡ (y && z) → (b && x) ≡ ((b && y) && z)
both true x y z h = h
both false x y z h = refl

not-first : (i : ℕ) → (suc i == 0) ≡ false
not-first i = by (suc i == 0) refl
  where
    by : (b : Bool) → (suc i == 0) ≡ b → b ≡ false
    by true e = let absent = eqb-true (suc i) 0 e in absurd (omega arith)
    by false e = refl

-- by one element more, both taken through a function
more : (f : Person → Person) (i : ℕ) (ps qs : List Person)
    → same_persons (map f (take (suc i) ps)) (map f (take (suc i) qs))
    ≡ (same_persons (map f (take i ps)) (map f (take i qs)) && option_eq same_person (option_map f (slice_get ps i)) (option_map f (slice_get qs i)))
more f zero [] [] = refl
more f zero [] (q ∷ qs) = refl
more f zero (p ∷ ps) [] = refl
more f zero (p ∷ ps) (q ∷ qs) = sym (and-true (same_person (f p) (f q)))
more f (suc i) [] [] = refl
more f (suc i) [] (q ∷ qs) = refl
more f (suc i) (p ∷ ps) [] = refl
more f (suc i) (p ∷ ps) (q ∷ qs) = both (same_person (f p) (f q)) _ _ _ (more f i ps qs)

alike-next : (rule : Option DisambiguationRule) (i : ℕ) (ps qs : List Person)
    → same_persons (cut_by_rule rule (take (suc i) ps)) (cut_by_rule rule (take (suc i) qs))
    ≡ (same_persons (cut_by_rule rule (take i ps)) (cut_by_rule rule (take i qs)) && option_eq same_person (kept_at rule i ps) (kept_at rule i qs))
alike-next rule zero [] [] = refl
alike-next rule zero [] (q ∷ qs) = refl
alike-next rule zero (p ∷ ps) [] = refl
alike-next rule zero (p ∷ ps) (q ∷ qs) = sym (and-true (same_person (kept rule true p) (kept rule true q)))
alike-next rule (suc i) [] [] = refl
alike-next rule (suc i) [] (q ∷ qs) = refl
alike-next rule (suc i) (p ∷ ps) [] = refl
alike-next rule (suc i) (p ∷ ps) (q ∷ qs) =
    both (same_person (kept rule true p) (kept rule true q)) _ _ _ (more (kept rule false) i ps qs)
    ∙ ap (λ b. same_persons (cut_by_rule rule (take (suc i) (p ∷ ps))) (cut_by_rule rule (take (suc i) (q ∷ qs)))
    && option_eq same_person (option_map (kept rule b) (slice_get ps i)) (option_map (kept rule b) (slice_get qs i))) (sym (not-first i))

pub alike-more : (rule : Option DisambiguationRule) (i : ℕ) (ps qs : List Person)
    → same_persons (cut_by_rule rule (take (i + 1) ps)) (cut_by_rule rule (take (i + 1) qs))
    ≡ (same_persons (cut_by_rule rule (take i ps)) (cut_by_rule rule (take i qs)) && option_eq same_person (kept_at rule i ps) (kept_at rule i qs))
alike-more rule i ps qs = ap (λ n. same_persons (cut_by_rule rule (take n ps)) (cut_by_rule rule (take n qs))) (add-one i) ∙ alike-next rule i ps qs

-- reading alike is being equal, as cut
pub alike-self : (rule : Option DisambiguationRule) (i : ℕ) (ps : List Person) → same_persons (cut_by_rule rule (take i ps)) (cut_by_rule rule (take i ps)) ≡ true
alike-self rule i ps = (lists_find persons_find).self (cut_by_rule rule (take i ps))
