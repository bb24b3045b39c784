-- The greater of two values in a total order that tells all values apart.
use Rattle.std.proofs.Common.{◌≡◌, ◌⊎◌, inl, inr, false, cond, sym, ap, ◌∙◌, refl, true≢false}
use Rattle.std.specs.Ordering.{ordering_reverse, is_gt, is_lt, ord_max}
use Rattle.std.specs.declared.cmp.Ordering.{Ordering}
use Rattle.std.specs.declared.cmp.Ordering.TheVariants.{Less, Equal, Greater}
use Rattle.std.proofs.lemmas.Cmp.{upto}
use Rattle.value_sources.specs.Ordered.{IsValueOrder}

module _ {K : Type 0} {cmp : K → K → Ordering} (order : IsValueOrder cmp) where
  -- a comes before b, or is b
  abbrev AtMost : K → K → Type 0
  AtMost a b = is_gt (cmp a b) ≡ false

  -- the greater is the one that the other is at most
  IsGreater : K → K → K → Type 0
  IsGreater a b m = (AtMost a b × (m ≡ b)) ⊎ (AtMost b a × (m ≡ a))

  choice_by : (a b : K) (r : Ordering) → cmp b a ≡ r → IsGreater a b (cond (is_lt r) a b)
  unfolding IsGreater
  choice_by a b Less e = inr (ap is_gt e, refl)
  choice_by a b Equal e = inl (ap is_gt (order.total.antisymm a b ∙ ap ordering_reverse e), refl)
  choice_by a b Greater e = inl (ap is_gt (order.total.antisymm a b ∙ ap ordering_reverse e), refl)

  choice : (a b : K) → IsGreater a b (ord_max cmp a b)
  choice a b = choice_by a b (cmp b a) refl

  itself : (a : K) → AtMost a a
  itself a = ap is_gt (order.self a)

  same_by : (a b : K) (r : Ordering) → cmp a b ≡ r → AtMost a b → AtMost b a → a ≡ b
  same_by a b Less e p q = absurd (true≢false (sym (ap is_gt (order.total.antisymm b a ∙ ap ordering_reverse e)) ∙ q))
  same_by a b Equal e p q = order.equal a b e
  same_by a b Greater e p q = absurd (true≢false (sym (ap is_gt e) ∙ p))

  same : (a b : K) → AtMost a b → AtMost b a → a ≡ b
  same a b = same_by a b (cmp a b) refl

  first_below : (a b m : K) → IsGreater a b m → AtMost a m
  unfolding IsGreater
  first_below a b m (inl (p, e)) = rw e p
  first_below a b m (inr (p, e)) = rw e (itself a)

  second_below : (a b m : K) → IsGreater a b m → AtMost b m
  unfolding IsGreater
  second_below a b m (inl (p, e)) = rw e (itself b)
  second_below a b m (inr (p, e)) = rw e p

  least : (a b m c : K) → IsGreater a b m → AtMost a c → AtMost b c → AtMost m c
  unfolding IsGreater
  least a b m c (inl (p, e)) h k = rw e k
  least a b m c (inr (p, e)) h k = rw e h

  pub max-first : (a b : K) → is_gt (cmp a (ord_max cmp a b)) ≡ false
  max-first a b = first_below a b _ (choice a b)

  pub max-second : (a b : K) → is_gt (cmp b (ord_max cmp a b)) ≡ false
  max-second a b = second_below a b _ (choice a b)

  bounded : (a b c : K) → AtMost a c → AtMost b c → AtMost (ord_max cmp a b) c
  bounded a b c = least a b _ c (choice a b)

  pub max-once : (a : K) → ord_max cmp a a ≡ a
  max-once a = same _ _ (bounded a a a (itself a) (itself a)) (max-first a a)

  turned : (a b : K) → AtMost (ord_max cmp a b) (ord_max cmp b a)
  turned a b = bounded a b _ (max-second b a) (max-first b a)

  pub max-comm : (a b : K) → ord_max cmp a b ≡ ord_max cmp b a
  max-comm a b = same _ _ (turned a b) (turned b a)

  then_below : (a b c : K) → AtMost a b → AtMost b c → AtMost a c
  then_below a b c = upto order.total a b c

  left_in_right : (a b c : K) → AtMost (ord_max cmp (ord_max cmp a b) c) (ord_max cmp a (ord_max cmp b c))
  left_in_right a b c =
      let inner = ord_max cmp b c in
      let whole = ord_max cmp a inner in
      bounded (ord_max cmp a b) c whole (bounded a b whole (max-first a inner) (then_below b inner whole (max-first b c) (max-second a inner))) (then_below c inner whole (max-second b c) (max-second a inner))

  right_in_left : (a b c : K) → AtMost (ord_max cmp a (ord_max cmp b c)) (ord_max cmp (ord_max cmp a b) c)
  right_in_left a b c =
      let inner = ord_max cmp a b in
      let whole = ord_max cmp inner c in
      bounded a (ord_max cmp b c) whole (then_below a inner whole (max-first a b) (max-first inner c)) (bounded b c whole (then_below b inner whole (max-second a b) (max-first inner c)) (max-second inner c))

  pub max-assoc : (a b c : K) → ord_max cmp (ord_max cmp a b) c ≡ ord_max cmp a (ord_max cmp b c)
  max-assoc a b c = same _ _ (left_in_right a b c) (right_in_left a b c)
