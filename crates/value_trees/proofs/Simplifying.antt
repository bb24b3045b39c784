-- The steps of the calls that simplify.
use Rattle.std.proofs.Common.{◌≡◌, ℕ, suc, ◌<◌, ◌-◌, slice_get, unwrap_or, true, false, List, [], ◌∷◌, ◌++◌, map, length, get_or, take, ◌+◌, subst, refl, sym, ap, ap₂, ◌∙◌, arith}
use Rattle.std.proofs.Common.{OnOk, Result, Option, None, Some, Bor}
use Rattle.std.proofs.lemmas.Option.{none-some}
use Rattle.std.proofs.lemmas.Result.{on_ok_weaker}
use Rattle.std.proofs.lemmas.List.{map-append}
use Rattle.std.proofs.Math.Seq.{take-suc}
use Rattle.value_trees.specs.Child.{Child}
use Rattle.value_trees.specs.ChildView.{child_view}
use Rattle.value_trees.specs.Simplify.{joins, joined, join_last, level_joined, child_simple}
use Rattle.value_trees.proofs.Joining.{join_last-joins, join_last-apart, level_joined-next}
use Rattle.value_trees.specs.declared.elem.ElemChild.{ElemChild}

-- a level whose last child was taken out, joined to the next one, and put back
pub put_joined : (xs : List ElemChild) (d : ElemChild) (e c : Child) (cs : List Child) → map child_view (xs ++ d ∷ []) ≡ cs → joins (child_view d) e ≡ true → c ≡ joined (child_view d) e → map child_view xs ++ c ∷ [] ≡ join_last cs e
put_joined xs d e c cs v p j =
    ap (λ x. map child_view xs ++ x ∷ []) j ∙ sym (join_last-joins (map child_view xs) (child_view d) e p)
    ∙ ap (λ ds. join_last ds e) (sym (map-append child_view xs (d ∷ [])) ∙ v)

-- a level whose last child stays apart from the next one
pub last_apart : (xs : List ElemChild) (d : ElemChild) (e : Child) → slice_get xs (length xs - 1) ≡ Some d → joins (child_view d) e ≡ false → join_last (map child_view xs) e ≡ map child_view xs ++ e ∷ []
last_apart [] d e h p = absurd (none-some d h)
last_apart (x ∷ []) d e h p = join_last-apart [] (child_view x) e (ap (λ y. joins (child_view y) e) (ap (λ o. unwrap_or o x) h) ∙ p)
last_apart (x ∷ y ∷ ys) d e h p =
    let one : suc (length ys) - 1 ≡ length ys = omega arith in
    let two : suc (length ys) ≡ suc (suc (length ys)) - 1 = omega arith in
    ap (λ cs. child_view x ∷ cs) (last_apart (y ∷ ys) d e (ap (slice_get (y ∷ ys)) one ∙ ap (slice_get (x ∷ y ∷ ys)) two ∙ h) p)

-- the last of some items, where there is one
abbrev pub EndsIn : {A : Type 0} → Option (Bor A) → List A → Type 0
EndsIn None xs = xs ≡ []
EndsIn {A} (Some b) xs = (ys : List A) × (xs ≡ ys ++ b.now ∷ [])

-- a level that stays as it is when it is joined, and one more child that stands apart from its last
pub apart_next : (cs : List Child) (d e : Child) → level_joined (cs ++ d ∷ []) ≡ cs ++ d ∷ [] → joins d e ≡ false → level_joined ((cs ++ d ∷ []) ++ e ∷ []) ≡ (cs ++ d ∷ []) ++ e ∷ []
apart_next cs d e h p = level_joined-next (cs ++ d ∷ []) e ∙ ap (λ ds. join_last ds e) h ∙ join_last-apart cs d e p

-- one more of some items
pub taken_next : {A : Type 0} (xs : List A) (k : ℕ) (x : A) → k < length xs → x ≡ get_or xs k x → take (k + 1) xs ≡ take k xs ++ x ∷ []
taken_next xs k x h e =
    let one_more : k + 1 ≡ suc k = omega arith in
    ap (λ n. take n xs) one_more ∙ take-suc xs k x h ∙ ap (λ y. take k xs ++ y ∷ []) (sym e)

-- the first child of a level stays as it is
pub first_apart : (xs zs : List ElemChild) (x : ElemChild) → zs ≡ xs ++ x ∷ [] → xs ≡ [] → level_joined (map child_view zs) ≡ map child_view zs
first_apart xs zs x e f = rw (e, f)

-- and so does one that stands apart from the last before it
pub more_apart : (xs zs : List ElemChild) (b : Bor ElemChild) (x : ElemChild) → zs ≡ xs ++ x ∷ [] → EndsIn (Some b) xs → level_joined (map child_view xs) ≡ map child_view xs → joins (child_view b.now) (child_view x) ≡ false → level_joined (map child_view zs) ≡ map child_view zs
more_apart xs zs b x e (ys, f) h p =
    let d = b.now in
    let r = map-append child_view ys (d ∷ []) in
    let q = map-append child_view (ys ++ d ∷ []) (x ∷ []) ∙ ap (λ cs. cs ++ child_view x ∷ []) r in
    let stays = subst (λ cs. level_joined cs ≡ cs) (ap (map child_view) f ∙ r) h in
    subst (λ cs. level_joined cs ≡ cs) (sym (ap (map child_view) (e ∙ ap (λ bs. bs ++ x ∷ []) f) ∙ q)) (apart_next (map child_view ys) (child_view d) (child_view x) stays p)

-- one more child of a level
pub level_next : (xs : List ElemChild) (x : ElemChild) (cs ds : List Child) → cs ≡ level_joined (map child_view xs) → ds ≡ join_last cs (child_view x) → ds ≡ level_joined (map child_view (xs ++ x ∷ []))
level_next xs x cs ds e f =
    f ∙ ap (λ bs. join_last bs (child_view x)) e ∙ sym (ap level_joined (map-append child_view xs (x ∷ [])) ∙ level_joined-next (map child_view xs) (child_view x))

-- children that were made simple one by one
pub all_simple : (xs ys : List ElemChild) → length xs ≡ length ys → ((k : ℕ) (d : ElemChild) → k < length ys → child_view (get_or xs k d) ≡ child_simple (child_view (get_or ys k d))) → map child_view xs ≡ map child_simple (map child_view ys)
all_simple [] [] e h = refl
all_simple (x ∷ xs) (y ∷ ys) e h = ap₂ (λ c cs. c ∷ cs) (h 0 x (omega arith)) (all_simple xs ys (omega (arith, e)) (λ k d l. h (suc k) d (omega (arith, l))))
all_simple [] (y ∷ ys) e h = absurd (omega (arith, e))
all_simple (x ∷ xs) [] e h = absurd (omega (arith, e))

-- what a call leaves where it succeeds, in other words
pub on_ok-then : {T E X : Type 0} (r : Result T E) (a b c : X) → b ≡ c → OnOk r (a ≡ b) → OnOk r (a ≡ c)
on_ok-then r a b c e o = on_ok_weaker {P = a ≡ b} {Q = a ≡ c} r (λ p. p ∙ e) o
