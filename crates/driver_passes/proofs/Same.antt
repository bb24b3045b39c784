-- What the derived tests of lists, orders and locators tell.
use Rattle.std.proofs.Common.{◌≡◌, Bool, true, ◌&&◌, List, [], ◌∷◌, Option, Some, None, Bor, map, option_map, refl, ap, sym, true≢false}
use Rattle.std.specs.Bool.{Decides}
use Rattle.std.specs.Cmp.Lexicographic.{pointwise}
use Rattle.std.specs.List.{AllZip}
use Rattle.std.specs.Option.{option_eq}
use Rattle.value_sources.specs.Finds.{both, and-true}
use Rattle.driver_lookup.specs.PropertiesView.{locator_view}
use Rattle.driver_lookup.specs.declared.locator.SpecificLocator.{SpecificLocator}
use Rattle.driver_passes.specs.Positions.{same_locators}
use Rattle.driver_passes.specs.RequestView.{entries_view, order_view}
use Rattle.driver_passes.specs.declared.request.Order.{Order}

-- where a test tells what is seen of two values, so it does of lists, one by one
pub lists_tell : {A B : Type 0} {view : A → B} {test : A → A → Bool} (R : B → B → Type 0)
    → ((a b : A) → Decides (test a b) (R (view a) (view b))) → (xs ys : List A) → Decides (pointwise test xs ys) (AllZip R (map view xs) (map view ys))
lists_tell {A = A} {view = view} {test = test} R told xs ys = (to xs ys, from xs ys)
  where
    to : (xs ys : List A) → pointwise test xs ys ≡ true → AllZip R (map view xs) (map view ys)
    to [] [] e = tt
    to (a ∷ xs) (b ∷ ys) e = let p = both _ _ e in ((told a b).0 p.0, to xs ys p.1)
    to [] (b ∷ ys) e = absurd (true≢false (sym e))
    to (a ∷ xs) [] e = absurd (true≢false (sym e))

    from : (xs ys : List A) → AllZip R (map view xs) (map view ys) → pointwise test xs ys ≡ true
    from [] [] h = refl
    from (a ∷ xs) (b ∷ ys) h = and-true _ _ ((told a b).1 h.0) (from xs ys h.1)
    from [] (b ∷ ys) h = absurd h
    from (a ∷ xs) [] h = absurd h

module _ {T : Type 0} (eq : T → T → Bool) where
  -- lists of lent entries are compared as the entries are
  entries_seen : (xs ys : List (Bor T)) → pointwise (λ x y. eq x.now y.now) xs ys ≡ pointwise eq (entries_view xs) (entries_view ys)
  entries_seen [] [] = refl
  entries_seen (a ∷ xs) (b ∷ ys) = ap (λ t. eq a.now b.now && t) (entries_seen xs ys)
  entries_seen [] (b ∷ ys) = refl
  entries_seen (a ∷ xs) [] = refl

  -- and so are orders
  pub orders_seen : (a b : Option (Order T)) → option_eq (λ x y. pointwise (λ c d. eq c.now d.now) x.0.now y.0.now) a b ≡ option_eq (pointwise eq) (order_view a) (order_view b)
  orders_seen None None = refl
  orders_seen (Some x) (Some y) = entries_seen x.0.now y.0.now
  orders_seen None (Some y) = refl
  orders_seen (Some x) None = refl

-- where locators are told by what is seen of them, so are locators that may be missing
pub some_locators : {P : Type 0} (eq : P → P → Bool) (test : SpecificLocator P → SpecificLocator P → Bool)
    → ((a b : SpecificLocator P) → test a b ≡ same_locators eq (Some (locator_view a)) (Some (locator_view b)))
    → (a b : Option (SpecificLocator P)) → option_eq test a b ≡ same_locators eq (option_map locator_view a) (option_map locator_view b)
some_locators eq test told None None = refl
some_locators eq test told (Some x) (Some y) = told x y
some_locators eq test told None (Some y) = refl
some_locators eq test told (Some x) None = refl
