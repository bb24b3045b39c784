-- As many items as are told of, and items changed one by one.
use Rattle.std.proofs.Common.{◌≡◌, ℕ, suc, ◌<◌, ◌≤◌, List, [], ◌∷◌, map, length, get_or, String, string_bytes, Global, refl, ap₂, ◌∙◌, arith}
use Rattle.std.specs.Prelude.{bytes_eq}
use Rattle.std.specs.List.{enumerate_from}
use Rattle.std.proofs.lemmas.List.{length-map}
use Rattle.std.proofs.lemmas.List.FromFn.{length-enumerate_from}
use Rattle.value_trees.specs.Child.{Child}
use Rattle.value_sources.specs.declared.formatting.Formatted.{Formatted}
use Rattle.value_styles.specs.declared.style.SubsequentAuthorSubstituteRule.{SubsequentAuthorSubstituteRule}
use Rattle.mentions_authors.specs.Names.{names_of}
use Rattle.mentions_authors.specs.Repeated.{against, before_at}
use Rattle.mentions_authors.specs.Substitution.{Item, each_substituted, items_view, repeats, same_persons, tree_substituted}
use Rattle.mentions_authors.specs.declared.repeated.Substituted.{Substituted}

pub length-repeats : (rule : SubsequentAuthorSubstituteRule) (items : List Item) → length (repeats rule items) ≡ length items
length-repeats rule items =
    let names = map (λ i. names_of i.0) items in
    length-map (enumerate_from 0 names) (λ p. against bytes_eq same_persons rule (before_at names p.0) p.1)
    ∙ length-enumerate_from 0 names ∙ length-map items (λ i. names_of i.0)

-- items are as many as they are seen as
pub length-view : (xs : List (List Child × String Global)) → length (items_view xs) ≡ length xs
length-view xs = length-map xs (λ p. (p.0, string_bytes p.1))

pub each-changed : (t : Formatted) (told : List Substituted) (xs ys : List (List Child × String Global)) → length xs ≡ length ys → length ys ≤ length told
    → ((k : ℕ) (d : List Child × String Global) → k < length ys → (get_or xs k d).0 ≡ tree_substituted t (get_or told k Substituted.Nothing) (get_or ys k d).0)
    → ((k : ℕ) (d : List Child × String Global) → (get_or xs k d).1 ≡ (get_or ys k d).1)
    → items_view xs ≡ each_substituted t told (items_view ys)
each-changed t [] [] [] e l h g = refl
each-changed t (s ∷ told) [] [] e l h g = refl
each-changed t (s ∷ told) (x ∷ xs) (y ∷ ys) e l h g =
    ap₂ (λ i is. i ∷ is) (λ j. (h 0 x (omega arith) j, string_bytes (g 0 x j)))
    (each-changed t told xs ys (omega (arith, e)) (omega (arith, l)) (λ k d m. h (suc k) d (omega (arith, m))) (λ k d. g (suc k) d))
each-changed t [] (x ∷ xs) (y ∷ ys) e l h g = absurd (omega (arith, l))
each-changed t told [] (y ∷ ys) e l h g = absurd (omega (arith, e))
each-changed t told (x ∷ xs) [] e l h g = absurd (omega (arith, e))
