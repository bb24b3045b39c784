-- Lists of names, and the macros that a list leaves.
use Rattle.std.proofs.Common.{◌≡◌, ℕ, ◌+◌, ◌≤◌, List, [], ◌∷◌, ◌++◌, length, Bool, true, false, ◌||◌, cond, Some, is_some, ◌⊎◌, inl, inr, map, sym, ap, ◌∙◌, refl, arith}
use Rattle.std.specs.Prelude.{bytes_eq}
use Rattle.std.specs.Borrow.{Bor}
use Rattle.std.specs.List.{list_any}
use Rattle.std.specs.Cmp.Lexicographic.{same_text}
use Rattle.std.proofs.lemmas.Cmp.{nat_list_eq_equiv}
use Rattle.std.proofs.lemmas.Bool.{or_left, or_right, or_cases}
use Rattle.value_styles.specs.Element.{Name, Macro}
use Rattle.value_styles.specs.Calls.{Names}
use Rattle.value_styles.specs.Ring.{has_name, body_of}
use Rattle.driver_styles.specs.Gathered.{with_new_name}

pub has_name-left : (a : Name) (xs ys : Names) → has_name a xs ≡ true → has_name a (xs ++ ys) ≡ true
has_name-left a [] ys e = cc
has_name-left a (x ∷ xs) ys e =
    elim (or_cases (bytes_eq x a) _ e) [ inl h ↦ or_left _ _ h | inr h ↦ or_right (bytes_eq x a) _ (has_name-left a xs ys h) ]

pub has_name-right : (a : Name) (xs ys : Names) → has_name a ys ≡ true → has_name a (xs ++ ys) ≡ true
has_name-right a [] ys e = e
has_name-right a (x ∷ xs) ys e = or_right (bytes_eq x a) _ (has_name-right a xs ys e)

pub has_name-either : (a : Name) (xs ys : Names) → has_name a (xs ++ ys) ≡ true → (has_name a xs ≡ true) ⊎ (has_name a ys ≡ true)
has_name-either a [] ys e = inr e
has_name-either a (x ∷ xs) ys e =
    elim (or_cases (bytes_eq x a) _ e) [
      | inl h ↦ inl (or_left _ _ h)
      | inr h ↦ elim (has_name-either a xs ys h) [ inl k ↦ inl (or_right (bytes_eq x a) _ k) | inr k ↦ inr k ]
    ]

pub has_name-one : (a : Name) → has_name a (a ∷ []) ≡ true
has_name-one a = or_left (bytes_eq a a) false (nat_list_eq_equiv.refl a)

pub has_name-same : (a b : Name) → has_name a (b ∷ []) ≡ true → b ≡ a
has_name-same a b e = elim (or_cases (bytes_eq b a) false e) [ inl h ↦ same_text b a (sym h) | inr h ↦ cc ]

abbrev one_unless : Bool → ℕ
one_unless true = 0
one_unless false = 1

-- how many macros are not of these names
abbrev pub left : Names → List Macro → ℕ
left names [] = 0
left names (m ∷ ms) = one_unless (has_name m.name names) + left names ms

-- more names leave fewer macros
pub left-le : (xs ys : Names) (ms : List Macro) → ((b : Name) → has_name b xs ≡ true → has_name b ys ≡ true) → left ys ms ≤ left xs ms
left-le xs ys [] h = omega arith
left-le xs ys (m ∷ ms) h =
    let here : (b c : Bool) → (b ≡ true → c ≡ true) → one_unless c ≤ one_unless b = λ b c.
    elim b as (λ b. (b ≡ true → c ≡ true) → one_unless c ≤ one_unless b) [
      | true ↦ λ k. omega (arith, ap one_unless (k refl))
      | false ↦ λ _. elim c as (λ c. one_unless c ≤ 1) [ true ↦ omega arith | false ↦ omega arith ]
    ] in
    omega (arith, left-le xs ys ms h, here (has_name m.name xs) (has_name m.name ys) (h m.name))

-- and a new one that has a macro leaves less
pub left-lt : (a : Name) (xs ys : Names) (ms : List Macro) → is_some (body_of a ms) ≡ true → has_name a xs ≡ false → ((b : Name) → has_name b xs ≡ true → has_name b ys ≡ true) → has_name a ys ≡ true → left ys ms + 1 ≤ left xs ms
left-lt a xs ys [] e out h in_ys = cc
left-lt a xs ys (m ∷ ms) e out h in_ys =
    let n = m.name in
    let by : (b : Bool) → b ≡ bytes_eq n a → is_some (cond b (Some m.children) (body_of a ms)) ≡ true → left ys (m ∷ ms) + 1 ≤ left xs (m ∷ ms) = λ b.
    elim b as (λ b. b ≡ bytes_eq n a → is_some (cond b (Some m.children) (body_of a ms)) ≡ true → left ys (m ∷ ms) + 1 ≤ left xs (m ∷ ms)) [
      | true ↦ λ q _.
          let same : n ≡ a = same_text n a q in
          let was : has_name n xs ≡ false = ap (λ x. has_name x xs) same ∙ out in
          let is : has_name n ys ≡ true = ap (λ x. has_name x ys) same ∙ in_ys in
          omega (arith, left-le xs ys ms h, ap one_unless was, ap one_unless is)
      | false ↦ λ _ k.
          omega (arith, left-lt a xs ys ms k out h in_ys, left-le xs ys (m ∷ []) h)
    ] in
    by (bytes_eq n a) refl e

pub left-empty : (ms : List Macro) → left [] ms ≡ length ms
left-empty [] = refl
left-empty (m ∷ ms) = omega (arith, left-empty ms)

-- what a set of borrowed names holds
any-named : (x : Bor Name) (keys : List (Bor Name)) → list_any (λ (k : Bor Name). bytes_eq x.now k.now) keys ≡ has_name x.now (map (λ s. s.now) keys)
any-named x [] = refl
any-named x (k ∷ ks) = λ i. nat_list_eq_equiv.symm x.now k.now i || any-named x ks i

map-last : (keys : List (Bor Name)) (x : Bor Name) → map (λ (s : Bor Name). s.now) (keys ++ x ∷ []) ≡ map (λ (s : Bor Name). s.now) keys ++ x.now ∷ []
map-last [] x = refl
map-last (k ∷ ks) x = ap (λ ns. k.now ∷ ns) (map-last ks x)

-- and with one more
pub with_named : (x : Bor Name) (keys : List (Bor Name)) → map (λ (s : Bor Name). s.now) (cond (list_any (λ (k : Bor Name). bytes_eq x.now k.now) keys) keys (keys ++ x ∷ []))
    ≡ with_new_name true (has_name x.now (map (λ s. s.now) keys)) x.now (map (λ s. s.now) keys)
with_named x keys =
    let by : (b : Bool) → map (λ (s : Bor Name). s.now) (cond b keys (keys ++ x ∷ [])) ≡ with_new_name true b x.now (map (λ (s : Bor Name). s.now) keys) = λ b.
    elim b as (λ b. map (λ (s : Bor Name). s.now) (cond b keys (keys ++ x ∷ [])) ≡ with_new_name true b x.now (map (λ (s : Bor Name). s.now) keys)) [
      | true ↦ refl
      | false ↦ map-last keys x
    ] in
    by _ ∙ ap (λ b. with_new_name true b x.now (map (λ (s : Bor Name). s.now) keys)) (any-named x keys)
