-- The places to which a place leads, as they are found.
use Rattle.std.proofs.Common.{◌≡◌, ℕ, zero, suc, ◌+◌, ◌-◌, ◌<◌, ◌≤◌, List, [], ◌∷◌, ◌++◌, length, take, drop, get_or, set, replicate, cond, ◌||◌, eqb, append_assoc, length-append, Bool, true, false, ◌⊎◌, inl, inr, sym, ap, ◌∙◌, refl, subst, arith}
use Rattle.std.proofs.lemmas.Bool.{eqb-true, eq-eqb, ne_eqb, cases_eq, or_left, or_right, or_cases}
use Rattle.std.proofs.lemmas.List.{append-nil, take_all, take_more, take-append-le, get_or_default, get_or-set_same, get_or-set_other, length-set, at_drop_more}
use Rattle.value_styles.specs.Places.{Places, has_place, steps_from, IsPath, IsOnRound, IsWithin, IsClosed, IsMarked, add_new, add_each}

pub has-left : (a : ℕ) (xs ys : Places) → has_place a xs ≡ true → has_place a (xs ++ ys) ≡ true
has-left a [] ys e = cc
has-left a (x ∷ xs) ys e =
    elim (or_cases (eqb x a) _ e) [ inl h ↦ or_left _ _ h | inr h ↦ or_right (eqb x a) _ (has-left a xs ys h) ]

pub has-right : (a : ℕ) (xs ys : Places) → has_place a ys ≡ true → has_place a (xs ++ ys) ≡ true
has-right a [] ys e = e
has-right a (x ∷ xs) ys e = or_right (eqb x a) _ (has-right a xs ys e)

pub has-either : (a : ℕ) (xs ys : Places) → has_place a (xs ++ ys) ≡ true → (has_place a xs ≡ true) ⊎ (has_place a ys ≡ true)
has-either a [] ys e = inr e
has-either a (x ∷ xs) ys e =
    elim (or_cases (eqb x a) _ e) [
      | inl h ↦ inl (or_left _ _ h)
      | inr h ↦ elim (has-either a xs ys h) [ inl k ↦ inl (or_right (eqb x a) _ k) | inr k ↦ inr k ]
    ]

pub has-one : (a : ℕ) → has_place a (a ∷ []) ≡ true
has-one a = or_left (eqb a a) false (eq-eqb a a refl)

pub has-same : (a b : ℕ) → has_place a (b ∷ []) ≡ true → b ≡ a
has-same a b e = elim (or_cases (eqb b a) false e) [ inl h ↦ eqb-true b a h | inr h ↦ cc ]

pub has-at : (x : ℕ) (ns : Places) (i : ℕ) → i < length ns → x ≡ get_or ns i x → has_place x ns ≡ true
has-at x [] i lt e = absurd (omega arith)
has-at x (y ∷ ys) zero lt e = subst (λ z. has_place x (z ∷ ys) ≡ true) e (has-left x (x ∷ []) ys (has-one x))
has-at x (y ∷ ys) (suc i) lt e = has-right x (y ∷ []) ys (has-at x ys i (omega arith) e)

-- the next place of a list that is within bounds
pub place_within : (n : ℕ) (ps : Places) (i : ℕ) → IsWithin n ps → i < length ps → get_or ps i 0 < n
place_within n ps i h lt = h (get_or ps i 0) (has-at (get_or ps i 0) ps i lt (get_or_default ps i 0 (get_or ps i 0) lt))

has-other : (i p : ℕ) (found : Places) → (p ≡ i → ⊥) → has_place i (found ++ p ∷ []) ≡ has_place i found
has-other i p [] apart = ap (λ b. b || false) (ne_eqb p i apart)
has-other i p (x ∷ xs) apart = ap (λ b. eqb x i || b) (has-other i p xs apart)

-- a new place is marked as it is added
pub mark_new : (marks : List Bool) (found : Places) (p : ℕ) → IsMarked marks found → p < length marks → IsMarked (set marks p true) (found ++ p ∷ [])
mark_new marks found p h lt i below =
    elim (cases_eq p i) [
      | inl e ↦ subst (λ j. get_or (set marks p true) j false ≡ has_place j (found ++ p ∷ [])) e (get_or-set_same marks p true false lt ∙ sym (has-right p found (p ∷ []) (has-one p)))
      | inr apart ↦ get_or-set_other marks p i true false (λ e. apart (sym e)) ∙ h i (omega (arith, length-set marks p true)) ∙ sym (has-other i p found apart)
    ]

-- the mark that is read at a place
pub mark_read : (marks : List Bool) (found : Places) (p : ℕ) (b : Bool) → IsMarked marks found → p < length marks → b ≡ get_or marks p b → b ≡ has_place p found
mark_read marks found p b h lt e = e ∙ get_or_default marks p b false lt ∙ h p lt

pub no_mark : (n i : ℕ) → get_or (replicate n false) i false ≡ false
no_mark zero i = refl
no_mark (suc n) zero = refl
no_mark (suc n) (suc i) = no_mark n i

pub add_next : (ps found : Places) (i : ℕ) → i < length ps → add_each (drop i ps) found ≡ add_each (drop (i + 1) ps) (add_new (get_or ps i 0) found)
add_next ps found i lt = at_drop_more (λ ys. add_each ys found) ps i 0 lt

-- what a new place adds, and an old one
pub new_is : (p : ℕ) (found : Places) → has_place p found ≡ false → add_new p found ≡ found ++ p ∷ []
new_is p found e = ap (λ t. cond t found (found ++ p ∷ [])) e

pub old_is : (p : ℕ) (found : Places) → has_place p found ≡ true → add_new p found ≡ found
old_is p found e = ap (λ t. cond t found (found ++ p ∷ [])) e

abbrev one_unless : Bool → ℕ
one_unless true = 0
one_unless false = 1

-- how many places below n are not among these
abbrev pub left : ℕ → Places → ℕ
left zero found = 0
left (suc n) found = one_unless (has_place n found) + left n found

fewer : (b c : Bool) → (b ≡ true → c ≡ true) → one_unless c ≤ one_unless b
fewer true c h = omega (arith, ap one_unless (h refl))
fewer false true h = omega arith
fewer false false h = omega arith

-- more places leave fewer
left-le : (n : ℕ) (xs ys : Places) → ((b : ℕ) → has_place b xs ≡ true → has_place b ys ≡ true) → left n ys ≤ left n xs
left-le zero xs ys h = omega arith
left-le (suc n) xs ys h = omega (arith, left-le n xs ys h, fewer (has_place n xs) (has_place n ys) (h n))

-- and a new one leaves less
left-lt : (n a : ℕ) (xs ys : Places) → a < n → has_place a xs ≡ false → ((b : ℕ) → has_place b xs ≡ true → has_place b ys ≡ true) → has_place a ys ≡ true → left n ys + 1 ≤ left n xs
left-lt zero a xs ys lt out h there = absurd (omega arith)
left-lt (suc n) a xs ys lt out h there =
    elim (cases_eq a n) [
      | inl e ↦
          let was : has_place n xs ≡ false = subst (λ b. has_place b xs ≡ false) e out in
          let is : has_place n ys ≡ true = subst (λ b. has_place b ys ≡ true) e there in
          omega (arith, left-le n xs ys h, ap one_unless was, ap one_unless is)
      | inr apart ↦
          let below : a < n = grind (arith, lt, apart) in
          omega (arith, left-lt n a xs ys below out h there, fewer (has_place n xs) (has_place n ys) (h n))
    ]

-- what more places change
pub record IsAdded (n : ℕ) (bs os ns : Places) : Type 0 where
  pub extra : Places
  pub appends : ns ≡ os ++ extra
  pub covers : (b : ℕ) → has_place b bs ≡ true → has_place b ns ≡ true
  pub only : (b : ℕ) → has_place b extra ≡ true → has_place b bs ≡ true
  pub leaves : left n ns + length ns ≤ left n os + length os

is_added-one : (n b : ℕ) (os : Places) (there : Bool) → there ≡ has_place b os → b < n → IsAdded n (b ∷ []) os (cond there os (os ++ b ∷ []))
is_added-one n b os false t lt = record {
  extra = b ∷ [];
  appends = refl;
  covers = λ c e. has-right c os (b ∷ []) e;
  only = λ c e. e;
  leaves = omega (arith, left-lt n b os (os ++ b ∷ []) lt (sym t) (λ c k. has-left c os (b ∷ []) k) (has-right b os (b ∷ []) (has-one b)), length-append os (b ∷ []));
}
is_added-one n b os true t lt = record {
  extra = [];
  appends = sym (append-nil os);
  covers = λ c e. subst (λ x. has_place x os ≡ true) (has-same c b e) (sym t);
  only = λ c e. cc;
  leaves = omega arith;
}

pub is_added : (n : ℕ) (bs os : Places) → IsWithin n bs → IsAdded n bs os (add_each bs os)
is_added n [] os within = record {
  extra = [];
  appends = sym (append-nil os);
  covers = λ c e. cc;
  only = λ c e. cc;
  leaves = omega arith;
}
is_added n (b ∷ bs) os within =
    let one = is_added-one n b os (has_place b os) refl (within b (has-left b (b ∷ []) bs (has-one b))) in
    let rest = is_added n bs (add_new b os) (λ c h. within c (has-right c (b ∷ []) bs h)) in
    record {
      extra = one.extra ++ rest.extra;
      appends = rest.appends ∙ ap (λ xs. xs ++ rest.extra) one.appends ∙ append_assoc os one.extra rest.extra;
      covers = λ c e. elim (has-either c (b ∷ []) bs e) [
        | inl h ↦ subst (λ xs. has_place c xs ≡ true) (sym rest.appends) (has-left c (add_new b os) rest.extra (one.covers c h))
        | inr h ↦ rest.covers c h
      ];
      only = λ c e. elim (has-either c one.extra rest.extra e) [
        | inl h ↦ has-left c (b ∷ []) bs (one.only c h)
        | inr h ↦ has-right c (b ∷ []) bs (rest.only c h)
      ];
      leaves = omega (arith, one.leaves, rest.leaves);
    }

abbrev Leads : List Places → ℕ → ℕ → Type 0
Leads rows a b = (between : Places) × IsPath rows a between b

path-more : (rows : List Places) (a : ℕ) (between : Places) (b c : ℕ) → IsPath rows a between b → has_place c (steps_from rows b) ≡ true → IsPath rows a (between ++ b ∷ []) c
path-more rows a [] b c w h = (w, h)
path-more rows a (d ∷ between) b c w h = (w.0, path-more rows d between b c w.1 h)

-- each place to which this one leads in a step is there
abbrev Covers : List Places → ℕ → Places → Type 0
Covers rows b ns = (c : ℕ) → has_place c (steps_from rows b) ≡ true → has_place c ns ≡ true

-- the places so far: all are led to, and so is what the first `at` of them lead to
pub record IsReached (rows : List Places) (a : ℕ) (ns : Places) (at : ℕ) : Type 0 where
  pub within : at ≤ length ns
  pub sound : (b : ℕ) → has_place b ns ≡ true → Leads rows a b
  pub first : Covers rows a ns
  pub done : (b : ℕ) → has_place b (take at ns) ≡ true → Covers rows b ns

module _ (rows : List Places) (closed : IsClosed rows) (a : ℕ) where
  pub reached-start : IsReached rows a (add_each (steps_from rows a) []) 0
  reached-start =
      let added = is_added (length rows) (steps_from rows a) [] (closed a) in
      record {
        within = omega arith;
        sound = λ b h. ([], added.only b (subst (λ xs. has_place b xs ≡ true) added.appends h));
        first = λ c e. added.covers c e;
        done = λ b h. cc;
      }

  pub reached-more : (ns : Places) (at next : ℕ) → IsReached rows a ns at → at < length ns → next ≡ get_or ns at next → IsReached rows a (add_each (steps_from rows next) ns) (at + 1)
  reached-more ns at next g lt e =
      let added = is_added (length rows) (steps_from rows next) ns (closed next) in
      let there = has-at next ns at lt e in
      let grows : (c : ℕ) → has_place c ns ≡ true → has_place c (add_each (steps_from rows next) ns) ≡ true =
      λ c h. subst (λ xs. has_place c xs ≡ true) (sym added.appends) (has-left c ns added.extra h) in
      let t : take (at + 1) (add_each (steps_from rows next) ns) ≡ take at ns ++ next ∷ [] =
      ap (take (at + 1)) added.appends ∙ take-append-le (at + 1) ns added.extra (omega arith) ∙ take_more ns at next lt ∙ ap (λ x. take at ns ++ x ∷ []) (sym e) in
      record {
        within = omega (arith, ap length added.appends, length-append ns added.extra);
        sound = λ b h. elim (has-either b ns added.extra (subst (λ xs. has_place b xs ≡ true) added.appends h)) [
          | inl k ↦ g.sound b k
          | inr k ↦ let w = g.sound next there in (w.0 ++ next ∷ [], path-more rows a w.0 next b w.1 (added.only b k))
        ];
        first = λ c k. grows c (g.first c k);
        done = λ b h. elim (has-either b (take at ns) (next ∷ []) (subst (λ xs. has_place b xs ≡ true) t h)) [
          | inl k ↦ λ c m. grows c (g.done b k c m)
          | inr k ↦ λ c m. added.covers c (subst (λ x. has_place c (steps_from rows x) ≡ true) (sym (has-same b next k)) m)
        ];
      }

  path_within : (between : Places) (b c : ℕ) → IsPath rows b between c → c < length rows
  path_within [] b c w = closed b c w
  path_within (d ∷ between) b c w = path_within between d c w.1

  pub next_within : (ns : Places) (at next : ℕ) → IsReached rows a ns at → at < length ns → next ≡ get_or ns at next → next < length rows
  next_within ns at next g lt e = let w = g.sound next (has-at next ns at lt e) in path_within w.0 a next w.1

  pub falls : (ns : Places) (at next : ℕ) → at < length ns → left (length rows) (add_each (steps_from rows next) ns) + (length (add_each (steps_from rows next) ns) - (at + 1)) < left (length rows) ns + (length ns - at)
  falls ns at next lt =
      let added = is_added (length rows) (steps_from rows next) ns (closed next) in
      omega (arith, added.leaves, ap length added.appends, length-append ns added.extra)

reached-all : (rows : List Places) (a : ℕ) (ns : Places) (at : ℕ) → IsReached rows a ns at → length ns ≤ at → (b : ℕ) (between : Places) (c : ℕ) → Covers rows b ns → IsPath rows b between c → has_place c ns ≡ true
reached-all rows a ns at g le b [] c covers w = covers c w
reached-all rows a ns at g le b (d ∷ between) c covers w =
    let there = covers d w.0 in
    let all : take at ns ≡ ns = take_all at ns le in
    reached-all rows a ns at g le d between c (g.done d (subst (λ xs. has_place d xs ≡ true) (sym all) there)) w.1

-- at the end a place is found exactly if steps lead to it
pub on_round : (rows : List Places) (a : ℕ) (ns : Places) (at : ℕ) (b : Bool) → IsReached rows a ns at → length ns ≤ at → b ≡ has_place a ns → (b ≡ true → IsOnRound rows a) × (b ≡ false → IsOnRound rows a → ⊥)
on_round rows a ns at b g le e =
    (λ t. g.sound a (sym e ∙ t), λ f ring. let h : has_place a ns ≡ true = reached-all rows a ns at g le a ring.0 a g.first ring.1 in cc)
