-- Joining adjacent texts keeps the plain text, and doing it twice is doing it once.
use Rattle.std.proofs.Common.{◌≡◌, Bool, true, false, cond, List, [], ◌∷◌, ◌++◌, refl, sym, ap, ap₂, ◌∙◌, append_assoc, true≢false}
use Rattle.value_trees.specs.Child.{Child, text, elem, markup, link, transparent, Kids, no_kids, kid, kids_of, list_of, list_of-kids_of, kids_of-list_of}
use Rattle.value_trees.specs.Tree.{child_plain, kids_plain, plain}
use Rattle.value_trees.specs.Simplify.{joins, joined, join_first, child_simple, kids_simple, simplified, joins_first, ChildApart, Apart}
use Rattle.value_trees.proofs.Joining.{joined-joins}

joined-plain : (c d : Child) → joins c d ≡ true → child_plain (joined c d) ≡ child_plain c ++ child_plain d
joined-plain (text f) (text g) e = refl
joined-plain _ _ e = absurd (true≢false (sym e))

first-plain : (p : Bool) (c d : Child) (ds : List Child) → joins c d ≡ p → plain (cond p (joined c d ∷ ds) (c ∷ d ∷ ds)) ≡ child_plain c ++ plain (d ∷ ds)
first-plain true c d ds e = ap (λ bs. bs ++ plain ds) (joined-plain c d e) ∙ append_assoc (child_plain c) (child_plain d) (plain ds)
first-plain false c d ds e = refl

join_first-plain : (c : Child) (ds : List Child) → plain (join_first c ds) ≡ child_plain c ++ plain ds
join_first-plain c [] = refl
join_first-plain c (d ∷ ds) = first-plain (joins c d) c d ds refl

mutual
  child_simple-plain : (c : Child) → child_plain (child_simple c) ≡ child_plain c
  child_simple-plain (text f) = refl
  child_simple-plain (elem ks d m) = kids_simple-plain ks
  child_simple-plain (markup s) = refl
  child_simple-plain (link f s) = refl
  child_simple-plain (transparent i f) = refl

  kids_simple-plain : (ks : Kids) → plain (kids_simple ks) ≡ kids_plain ks
  kids_simple-plain no_kids = refl
  kids_simple-plain (kid c ks) = join_first-plain (child_simple c) (kids_simple ks) ∙ ap₂ (λ a b. a ++ b) (child_simple-plain c) (kids_simple-plain ks)

-- the plain text stays
pub simplified-plain : (cs : List Child) → plain (simplified cs) ≡ plain cs
simplified-plain cs = kids_simple-plain (kids_of cs)

alone : (c : Child) (ks : Kids) → joins_first c ks ≡ false → join_first c (list_of ks) ≡ c ∷ list_of ks
alone c no_kids e = refl
alone c (kid d ks) e = rw e

mutual
  child_stays : (c : Child) → ChildApart c → child_simple c ≡ c
  child_stays (text f) h = refl
  child_stays (elem ks d m) h = ap (λ cs. elem (kids_of cs) d m) (kids_stay ks h) ∙ ap (λ ls. elem ls d m) (kids_of-list_of ks)
  child_stays (markup s) h = refl
  child_stays (link f s) h = refl
  child_stays (transparent i f) h = refl

  kids_stay : (ks : Kids) → Apart ks → kids_simple ks ≡ list_of ks
  kids_stay no_kids h = refl
  kids_stay (kid c ks) h = ap₂ join_first (child_stays c h.0) (kids_stay ks h.2) ∙ alone c ks h.1

joined-Apart : (c d : Child) → joins c d ≡ true → ChildApart (joined c d)
joined-Apart (text f) (text g) e = tt
joined-Apart _ _ e = absurd (true≢false (sym e))

joined-first : (c d : Child) (ks : Kids) → joins c d ≡ true → joins_first d ks ≡ false → joins_first (joined c d) ks ≡ false
joined-first c d no_kids e f = refl
joined-first c d (kid x ks) e f = joined-joins c d x e ∙ f

first-Apart : (p : Bool) (c d : Child) (ds : List Child) → joins c d ≡ p → ChildApart c → Apart (kids_of (d ∷ ds)) → Apart (kids_of (cond p (joined c d ∷ ds) (c ∷ d ∷ ds)))
first-Apart true c d ds e a h = (joined-Apart c d e, joined-first c d (kids_of ds) e h.1, h.2)
first-Apart false c d ds e a h = (a, e, h)

join_first-Apart : (c : Child) (ds : List Child) → ChildApart c → Apart (kids_of ds) → Apart (kids_of (join_first c ds))
join_first-Apart c [] a h = (a, refl, tt)
join_first-Apart c (d ∷ ds) a h = first-Apart (joins c d) c d ds refl a h

mutual
  child_simple-Apart : (c : Child) → ChildApart (child_simple c)
  child_simple-Apart (text f) = tt
  child_simple-Apart (elem ks d m) = kids_simple-Apart ks
  child_simple-Apart (markup s) = tt
  child_simple-Apart (link f s) = tt
  child_simple-Apart (transparent i f) = tt

  pub kids_simple-Apart : (ks : Kids) → Apart (kids_of (kids_simple ks))
  kids_simple-Apart no_kids = tt
  kids_simple-Apart (kid c ks) = join_first-Apart (child_simple c) (kids_simple ks) (child_simple-Apart c) (kids_simple-Apart ks)

-- doing it twice is doing it once
pub simplified-simplified : (cs : List Child) → simplified (simplified cs) ≡ simplified cs
simplified-simplified cs = kids_stay (kids_of (simplified cs)) (kids_simple-Apart (kids_of cs)) ∙ list_of-kids_of (simplified cs)
