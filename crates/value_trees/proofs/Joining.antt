-- Joining neighbours of one level, from either end.
use Rattle.std.proofs.Common.{◌≡◌, Bool, true, false, cond, List, [], ◌∷◌, ◌++◌, map, refl, sym, ap, ◌∙◌, append_assoc, true≢false}
use Rattle.value_trees.specs.Child.{Child, text, elem, markup, link, transparent}
use Rattle.value_sources.proofs.EqualFormattings.{formattings_find}
use Rattle.value_trees.specs.Simplify.{same_formatting, joins, joined, join_first, join_last, level_joined, child_simple, simplified}

-- the text of two neighbours joins what the second one joins
pub joined-joins : (c d e : Child) → joins c d ≡ true → joins (joined c d) e ≡ joins d e
joined-joins (text f) (text g) (text h) p = ap (λ a. same_formatting a h.formatting) (formattings_find.equal f.formatting g.formatting p)
joined-joins (text f) (text g) (elem ks d m) p = refl
joined-joins (text f) (text g) (markup s) p = refl
joined-joins (text f) (text g) (link h s) p = refl
joined-joins (text f) (text g) (transparent i h) p = refl
joined-joins _ _ _ p = absurd (true≢false (sym p))

-- and is joined by what the first one is joined by
pub joins-joined : (c d e : Child) → joins d e ≡ true → joins c (joined d e) ≡ joins c d
joins-joined (text f) (text g) (text h) p = refl
joins-joined (elem ks k m) (text g) (text h) p = refl
joins-joined (markup s) (text g) (text h) p = refl
joins-joined (link f s) (text g) (text h) p = refl
joins-joined (transparent i f) (text g) (text h) p = refl
joins-joined _ _ _ p = absurd (true≢false (sym p))

-- three neighbours join to one from either end
pub joined-joined : (c d e : Child) → joins c d ≡ true → joins d e ≡ true → joined c (joined d e) ≡ joined (joined c d) e
joined-joined (text f) (text g) (text h) p q = ap (λ bs. text (record { text = bs; formatting = f.formatting })) (sym (append_assoc f.text g.text h.text))
joined-joined (text f) (text g) _ p q = absurd (true≢false (sym q))
joined-joined _ _ _ p q = absurd (true≢false (sym p))

three : (p q : Bool) (c d e : Child) → joins c d ≡ p → joins d e ≡ q → join_first c (join_first d (e ∷ [])) ≡ join_last (join_first c (d ∷ [])) e
three true true c d e p q = rw (p, joined-joins c d e p, q, joins-joined c d e q, p, joined-joined c d e p q)
three true false c d e p q = rw (p, joined-joins c d e p, q, p)
three false true c d e p q = rw (p, q, joins-joined c d e q, p)
three false false c d e p q = rw (q, p, q)

cond_last : (p : Bool) (c d x y e : Child) (ds : List Child) → cond p (c ∷ join_last (x ∷ ds) e) (d ∷ y ∷ join_last (x ∷ ds) e) ≡ join_last (cond p (c ∷ x ∷ ds) (d ∷ y ∷ x ∷ ds)) e
cond_last true c d x y e ds = refl
cond_last false c d x y e ds = refl

-- it is the same to join one more at the front first, or at the end
pub join_first-join_last : (c : Child) (ds : List Child) (e : Child) → join_first c (join_last ds e) ≡ join_last (join_first c ds) e
join_first-join_last c [] e = refl
join_first-join_last c (d ∷ []) e = three (joins c d) (joins d e) c d e refl refl
join_first-join_last c (d ∷ x ∷ ds) e = cond_last (joins c d) (joined c d) c x d e ds

-- one more child at the end of a level
pub level_joined-next : (cs : List Child) (c : Child) → level_joined (cs ++ c ∷ []) ≡ join_last (level_joined cs) c
level_joined-next [] c = refl
level_joined-next (d ∷ cs) c = ap (join_first d) (level_joined-next cs c) ∙ join_first-join_last d (level_joined cs) c

-- a last child that the next one joins
pub join_last-joins : (cs : List Child) (d e : Child) → joins d e ≡ true → join_last (cs ++ d ∷ []) e ≡ cs ++ joined d e ∷ []
join_last-joins [] d e p = rw p
join_last-joins (c ∷ []) d e p = ap (λ ds. c ∷ ds) (join_last-joins [] d e p)
join_last-joins (c ∷ b ∷ cs) d e p = ap (λ ds. c ∷ ds) (join_last-joins (b ∷ cs) d e p)

-- a last child that the next one stays apart from
pub join_last-apart : (cs : List Child) (d e : Child) → joins d e ≡ false → join_last (cs ++ d ∷ []) e ≡ (cs ++ d ∷ []) ++ e ∷ []
join_last-apart [] d e p = rw p
join_last-apart (c ∷ []) d e p = ap (λ ds. c ∷ ds) (join_last-apart [] d e p)
join_last-apart (c ∷ b ∷ cs) d e p = ap (λ ds. c ∷ ds) (join_last-apart (b ∷ cs) d e p)

-- children made simple and then joined
pub level_joined-simple : (cs : List Child) → level_joined (map child_simple cs) ≡ simplified cs
level_joined-simple [] = refl
level_joined-simple (c ∷ cs) = ap (join_first (child_simple c)) (level_joined-simple cs)
