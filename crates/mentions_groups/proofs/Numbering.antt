-- Suffixes by classes, one more entry.
use Rattle.std.proofs.Common.{◌≡◌, ℕ, ◌+◌, ◌<◌, Bool, true, false, cond, ◌&&◌, ◌||◌, Some, None, Option, List, [], ◌∷◌, ◌++◌, length, map, take, get_or, refl, ap, sym, ◌∙◌, arith}
use Rattle.std.specs.Prelude.{filter, nat_eq}
use Rattle.std.specs.HashMap.{HashMap}
use Rattle.std.specs.List.{enumerate_from, list_any}
use Rattle.std.proofs.lemmas.List.{get_or_default, length-append}
use Rattle.std.proofs.lemmas.List.Elements.{filter-append}
use Rattle.std.proofs.lemmas.List.Folds.{list_any-append}
use mathlib.Core.Bool.{or-false}
use Rattle.mentions_names.specs.Telling.{in_one_group}
use Rattle.mentions_groups.specs.Counts.{count, suffix_by}
use Rattle.mentions_groups.specs.Suffixes.{gets_suffixes, is_in_class, suffix_of}
use Rattle.mentions_groups.specs.declared.counted.EntryClass.{EntryClass}
use Rattle.list_lemmas.proofs.Stepping.{made-next, next}

module _ (entries : List EntryClass) (k : ℕ) (m d : EntryClass) (within : k < length entries) (there : m ≡ get_or entries k d) where
  here : m ≡ get_or entries k m
  here = there ∙ get_or_default entries k d m within

  pub counts-next : {S : Type 0} (old new : HashMap ℕ ℕ S) → ((n : ℕ) → count old n ≡ length (filter (is_in_class (Some n)) (take k entries)))
      → ((n : ℕ) → count new n ≡ cond (in_one_group (Some n) m.class) (count old n + 1) (count old n))
      → (n : ℕ) → count new n ≡ length (filter (is_in_class (Some n)) (take (k + 1) entries))
  counts-next {S = S} old new so_far counted n =
      counted n ∙ by (in_one_group (Some n) m.class)
      ∙ ap length (sym (filter-append (is_in_class (Some n)) (take k entries) (m ∷ [])) ∙ ap (filter (is_in_class (Some n))) (sym (next entries k m within here)))
    where
      by : (b : Bool) → cond b (count old n + 1) (count old n) ≡ length (filter (is_in_class (Some n)) (take k entries) ++ cond b (m ∷ []) [])
      by b = let e = so_far n in let l = length-append (filter (is_in_class (Some n)) (take k entries)) (cond b (m ∷ []) []) in last b e l
        where
          last : (b : Bool) → count old n ≡ length (filter (is_in_class (Some n)) (take k entries))
              → length (filter (is_in_class (Some n)) (take k entries) ++ cond b (m ∷ []) []) ≡ length (filter (is_in_class (Some n)) (take k entries)) + length (cond b (m ∷ []) [])
              → cond b (count old n + 1) (count old n) ≡ length (filter (is_in_class (Some n)) (take k entries) ++ cond b (m ∷ []) [])
          last true e l = omega arith
          last false e l = omega arith

  none-adds : (ms : List EntryClass) → list_any (λ x. x.adds_suffix && is_in_class None x) ms ≡ false
  none-adds [] = refl
  none-adds (x ∷ xs) = by x.adds_suffix (none-adds xs)
    where
      by : (b : Bool) → list_any (λ x. x.adds_suffix && is_in_class None x) xs ≡ false → ((b && false) || list_any (λ x. x.adds_suffix && is_in_class None x) xs) ≡ false
      by true e = e
      by false e = e

  pub suffix-is : {S : Type 0} (adding : List ℕ) (counts : HashMap ℕ ℕ S) → ((n : ℕ) → list_any (nat_eq n) adding ≡ list_any (λ x. x.adds_suffix && is_in_class (Some n) x) entries)
      → ((n : ℕ) → count counts n ≡ length (filter (is_in_class (Some n)) (take k entries))) → suffix_by adding counts m.class ≡ suffix_of entries (k, m)
  suffix-is {S = S} adding counts adds counted = by m.class
    where
      by : (o : Option ℕ) → suffix_by adding counts o ≡ cond (gets_suffixes entries o) (Some (length (filter (is_in_class o) (take k entries)))) None
      by None = sym (ap (λ b. cond b (Some (length (filter (is_in_class None) (take k entries)))) None) (none-adds entries))
      by (Some n) = λ t. cond (adds n t) (Some (counted n t)) None

  pub suffixes-next : (found all : List (Option ℕ)) (s : Option ℕ) → found ≡ map (suffix_of entries) (take k (enumerate_from 0 entries)) → s ≡ suffix_of entries (k, m)
      → all ≡ found ++ s ∷ [] → all ≡ map (suffix_of entries) (take (k + 1) (enumerate_from 0 entries))
  suffixes-next found all s so_far is pushed = pushed ∙ (λ t. so_far t ++ is t ∷ []) ∙ sym (made-next entries k m within here (suffix_of entries))

  -- the classes whose styles add suffixes
  pub adding-next : (old new : List ℕ) → ((n : ℕ) → list_any (nat_eq n) old ≡ list_any (λ x. x.adds_suffix && is_in_class (Some n) x) (take k entries))
      → ((n : ℕ) → list_any (nat_eq n) new ≡ (list_any (nat_eq n) old || (m.adds_suffix && in_one_group (Some n) m.class)))
      → (n : ℕ) → list_any (nat_eq n) new ≡ list_any (λ x. x.adds_suffix && is_in_class (Some n) x) (take (k + 1) entries)
  adding-next old new so_far added n =
      added n ∙ (λ t. so_far n t || sym (or-false (m.adds_suffix && in_one_group (Some n) m.class)) t)
      ∙ sym (list_any-append (λ x. x.adds_suffix && is_in_class (Some n) x) (take k entries) (m ∷ []))
      ∙ ap (list_any (λ x. x.adds_suffix && is_in_class (Some n) x)) (sym (next entries k m within here))
