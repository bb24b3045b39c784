-- Where the first cite of each entry stands in the final order.
use Rattle.std.proofs.Common.{◌≡◌, ℕ, suc, ◌+◌, ◌<◌, nat_eq, Bool, true, false, cond, Option, Some, None, List, [], ◌∷◌, ◌++◌, All, fold, find, take, length, map, get_or, replicate, refl, ap, sym, subst, ◌∙◌, append-nil, append_assoc, arith, true≢false}
use Rattle.std.specs.Prelude.{option_and_then, option_map, slice_get}
use Rattle.std.specs.Cmp.{IsEquivalence, unsigned_Decides}
use Rattle.std.specs.List.{enumerate_from, flat_map}
use Rattle.std.specs.Option.{option_or}
use Rattle.std.proofs.Math.ListN.{length-map, set}
use Rattle.std.proofs.lemmas.List.{get_or-map, get_or-replicate, get_or-set_other, get_or-set_same, length-replicate, length-set, length-take-le, map-append, same_lists}
use Rattle.std.proofs.lemmas.List.Sums.{fold-append, fold_push}
use Rattle.driver_entries.specs.Entries.{is_in, place}
use Rattle.driver_entries.specs.Laws.{NoTwoEqual}
use Rattle.driver_entries.specs.PlacedItems.{IsPlaced}
use Rattle.driver_entries.proofs.Numbers.{own-place}
use Rattle.driver_entries.proofs.Orders.{same-place}
use Rattle.driver_entries.proofs.Placing.{all_in, grown, left, right}
use Rattle.driver_passes.specs.Renders.{CiteRender, ItemRender, Place}
use Rattle.driver_positions.specs.FinalProperties.{AreFirstItems, cited_finally, first_item, item_at, items_finally}
use Rattle.driver_positions.specs.FinalSteps.{led_to, stands_of, with_first}
use Rattle.driver_positions.proofs.FinalItems.{RowPlaced}
use Rattle.driver_positions.proofs.FinalPlaces.{all-rest, leads}

-- of each member
abbrev Every : {X : Type 0} → (X → Type 0) → List X → Type 0
Every P [] = Unit {0}
Every P (x ∷ xs) = P x × Every P xs

every-append : {X : Type 0} (P : X → Type 0) (xs ys : List X) → Every P xs → Every P ys → Every P (xs ++ ys)
every-append P [] ys h k = k
every-append P (x ∷ xs) ys h k = (h.0, every-append P xs ys h.1 k)

find-map : {A B : Type 0} (f : A → B) (p : B → Bool) (xs : List A) → find p (map f xs) ≡ option_map f (find (λ x. p (f x)) xs)
find-map f p [] = refl
find-map f p (x ∷ xs) = by (p (f x)) (find-map f p xs)
  where
    by : (b : Bool) → find p (map f xs) ≡ option_map f (find (λ x. p (f x)) xs)
        → cond b (Some (f x)) (find p (map f xs)) ≡ option_map f (cond b (Some x) (find (λ x. p (f x)) xs))
    by true h = refl
    by false h = h

find-same : {X : Type 0} (p q : X → Bool) (xs : List X) → Every (λ x. p x ≡ q x) xs → find p xs ≡ find q xs
find-same p q [] h = refl
find-same p q (x ∷ xs) h = (λ i. cond (h.0 i) (Some x) (find-same p q xs h.1 i))

find-through : {X Y : Type 0} (f g : X → Y) (q : X → Bool) (xs : List X) → Every (λ x. f x ≡ g x) xs → option_map f (find q xs) ≡ option_map g (find q xs)
find-through f g q [] h = refl
find-through f g q (x ∷ xs) h = by (q x) (find-through f g q xs h.1)
  where
    by : (b : Bool) → option_map f (find q xs) ≡ option_map g (find q xs) → option_map f (cond b (Some x) (find q xs)) ≡ option_map g (cond b (Some x) (find q xs))
    by true k = ap Some h.0
    by false k = k

every-map : {X : Type 0} (P Q : X → Type 0) → ((x : X) → P x → Q x) → (xs : List X) → Every P xs → Every Q xs
every-map P Q f [] h = tt
every-map P Q f (x ∷ xs) h = (f x h.0, every-map P Q f xs h.1)

enumerated-push : {X Y : Type 0} (f : ℕ → X → Y) (b : ℕ) (ys : List X) (y : X)
    → map (λ p. f p.0 p.1) (enumerate_from b (ys ++ y ∷ [])) ≡ map (λ p. f p.0 p.1) (enumerate_from b ys) ++ f (b + length ys) y ∷ []
enumerated-push f b [] y = let n : b ≡ b + 0 = omega arith in ap (λ m. f m y ∷ []) n
enumerated-push f b (x ∷ xs) y =
    let n : b + 1 + length xs ≡ b + suc (length xs) = omega arith in
    ap (λ l. f b x ∷ l) (enumerated-push f (b + 1) xs y ∙ ap (λ m. map (λ p. f p.0 p.1) (enumerate_from (b + 1) xs) ++ f m y ∷ []) n)

-- what is noted at a place
module _ (k : ℕ) where
  abbrev noted : List (Option Place) → Option Place
  noted firsts = get_or firsts k None

  abbrev first_at : List (ℕ × Place) → Option Place
  first_at steps = option_map (λ s. s.1) (find (λ s. nat_eq k s.0) steps)

  once-noted : (firsts : List (Option Place)) (s : ℕ × Place) → k < length firsts
      → noted (with_first firsts s) ≡ cond (nat_eq k s.0) (option_or (noted firsts) (Some s.1)) (noted firsts)
  once-noted firsts s w = by (nat_eq k s.0) refl
    where
      by : (b : Bool) → nat_eq k s.0 ≡ b → noted (with_first firsts s) ≡ cond b (option_or (noted firsts) (Some s.1)) (noted firsts)
      by true e =
          let same : k ≡ s.0 = (unsigned_Decides k s.0).0 e in
          ap (λ j. get_or (set firsts j (option_or (get_or firsts j None) (Some s.1))) k None) (sym same)
          ∙ get_or-set_same firsts k (option_or (noted firsts) (Some s.1)) None w
      by false e = get_or-set_other firsts s.0 k (option_or (get_or firsts s.0 None) (Some s.1)) None (λ same. true≢false (sym ((unsigned_Decides k s.0).1 same) ∙ e))

  all-noted : (firsts : List (Option Place)) (steps : List (ℕ × Place)) → k < length firsts → noted (fold with_first firsts steps) ≡ option_or (noted firsts) (first_at steps)
  all-noted firsts [] w = by (noted firsts)
    where
      by : (o : Option Place) → o ≡ option_or o None
      by None = refl
      by (Some x) = refl
  all-noted firsts (s ∷ steps) w =
      let next = option_or (get_or firsts s.0 None) (Some s.1) in
      all-noted (with_first firsts s) steps (subst (λ n. k < n) (sym (length-set firsts s.0 next)) w)
      ∙ ap (λ o. option_or o (first_at steps)) (once-noted firsts s w) ∙ by (nat_eq k s.0) (noted firsts)
    where
      by : (b : Bool) (o : Option Place) → option_or (cond b (option_or o (Some s.1)) o) (first_at steps) ≡ option_or o (option_map (λ s. s.1) (cond b (Some s) (find (λ s. nat_eq k s.0) steps)))
      by true None = refl
      by true (Some x) = refl
      by false o = refl

length-noted : (firsts : List (Option Place)) (steps : List (ℕ × Place)) → length (fold with_first firsts steps) ≡ length firsts
length-noted firsts [] = refl
length-noted firsts (s ∷ steps) = length-noted (with_first firsts s) steps ∙ length-set firsts s.0 (option_or (get_or firsts s.0 None) (Some s.1))

-- one more cite of a request
pub stands-more : {E P X : Type 0} (view : X → ItemRender E P) (items : List X) (k : ℕ) (x : X) → k < length items → x ≡ get_or items k x
    → (r : ℕ) (row : List ℕ) (base now more : List (Option Place)) (p : ℕ) → now ≡ fold with_first base (stands_of r row (map view (take k items))) → p ≡ led_to row (view x)
    → more ≡ with_first now (p, (r, k)) → more ≡ fold with_first base (stands_of r row (map view (take (k + 1) items)))
stands-more view items k x w h r row base now more p so-far led next =
    let ys = map view (take k items) in
    let counted : 0 + length ys ≡ k = omega (arith, length-map (take k items) view ∙ length-take-le k items (omega arith)) in
    next ∙ (λ i. with_first (so-far i) (led i, (r, k))) ∙ sym (fold_push with_first base (stands_of r row ys) (led_to row (view x), (r, k)))
    ∙ ap (fold with_first base)
    (sym (ap (stands_of r row) (grown items k x w h view) ∙ enumerated-push (λ n i. (led_to row i, (r, n))) 0 ys (view x) ∙ ap (λ n. stands_of r row ys ++ (led_to row (view x), (r, n)) ∷ []) counted))

module _ {E P : Type 0} where
  -- the cites of the request at r, each behind where it stands
  abbrev here : ℕ → ℕ → List (ItemRender E P) → List (Place × ItemRender E P)
  here r c items = map (λ q. ((r, q.0), q.1)) (enumerate_from c items)

  -- those of all requests from the one at b on
  abbrev located : ℕ → List (CiteRender E P) → List (Place × ItemRender E P)
  located b cites = flat_map (λ p. here p.0 0 p.1.items) (enumerate_from b cites)

  located-push : (b : ℕ) (cites : List (CiteRender E P)) (x : CiteRender E P) → located b (cites ++ x ∷ []) ≡ located b cites ++ here (b + length cites) 0 x.items
  located-push b [] x = let n : b ≡ b + 0 = omega arith in append-nil (here b 0 x.items) ∙ ap (λ m. here m 0 x.items) n
  located-push b (y ∷ ys) x =
      let n : b + 1 + length ys ≡ b + suc (length ys) = omega arith in
      ap (λ l. here b 0 y.items ++ l) (located-push (b + 1) ys x ∙ ap (λ m. located (b + 1) ys ++ here m 0 x.items) n)
      ∙ sym (append_assoc (here b 0 y.items) (located (b + 1) ys) (here (b + suc (length ys)) 0 x.items))

  seconds : (r c : ℕ) (items : List (ItemRender E P)) → map (λ w. w.1) (here r c items) ≡ items
  seconds r c [] = refl
  seconds r c (i ∷ items) = ap (λ l. i ∷ l) (seconds r (c + 1) items)

  items-located : (b : ℕ) (cites : List (CiteRender E P)) → map (λ w. w.1) (located b cites) ≡ items_finally cites
  items-located b [] = refl
  items-located b (y ∷ ys) = map-append (λ w. w.1) (here b 0 y.items) (located (b + 1) ys) ∙ (λ i. seconds b 0 y.items i ++ items-located (b + 1) ys i)

  cited-items : (cites : List (CiteRender E P)) → cited_finally cites ≡ map (λ i. i.entry) (items_finally cites)
  cited-items [] = refl
  cited-items (y ∷ ys) = ap (λ l. map (λ i. i.entry) y.items ++ l) (cited-items ys) ∙ sym (map-append (λ i. i.entry) y.items (items_finally ys))

  module _ (cites : List (CiteRender E P)) where
    abbrev Stands : Place × ItemRender E P → Type 0
    Stands w = item_at cites w.0 ≡ Some w.1

    here-stands : (r : ℕ) (x : CiteRender E P) → slice_get cites r ≡ Some x → (c : ℕ) (items : List (ItemRender E P))
        → ((k : ℕ) (i : ItemRender E P) → slice_get items k ≡ Some i → slice_get x.items (c + k) ≡ Some i) → Every Stands (here r c items)
    here-stands r x at c [] h = tt
    here-stands r x at c (i ∷ items) h = (
      (let n : c ≡ c + 0 = omega arith in ap (λ o. option_and_then (λ y. slice_get y.items c) o) at ∙ ap (slice_get x.items) n ∙ h 0 i refl),
      here-stands r x at (c + 1) items (λ k j q. let n : c + 1 + k ≡ c + suc k = omega arith in ap (slice_get x.items) n ∙ h (suc k) j q),
    )

    all-stand : (b : ℕ) (xs : List (CiteRender E P)) → ((k : ℕ) (x : CiteRender E P) → slice_get xs k ≡ Some x → slice_get cites (b + k) ≡ Some x) → Every Stands (located b xs)
    all-stand b [] h = tt
    all-stand b (x ∷ xs) h =
        let n : b ≡ b + 0 = omega arith in
        every-append Stands (here b 0 x.items) (located (b + 1) xs)
        (here-stands b x (ap (slice_get cites) n ∙ h 0 x refl) 0 x.items (λ k i q. let m : 0 + k ≡ k = omega arith in ap (slice_get x.items) m ∙ q))
        (all-stand (b + 1) xs (λ k y q. let m : b + 1 + k ≡ b + suc k = omega arith in ap (slice_get cites) m ∙ h (suc k) y q))

module _ {E P : Type 0} (eq : E → E → Bool) (laws : IsEquivalence eq) (es : List E) where
  abbrev stand_of : Place × ItemRender E P → ℕ × Place
  stand_of w = (place eq w.1.entry es, w.0)

  -- the places of the entries of all cites, and where these stand
  abbrev pub stands : List (CiteRender E P) → List (ℕ × Place)
  stands cites = map stand_of (located 0 cites)

  stands-here : (r c : ℕ) (row : List ℕ) (items : List (ItemRender E P)) → All (IsPlaced eq es row) items
      → map (λ p. let s : ℕ × Place = (led_to row p.1, (r, p.0)) in s) (enumerate_from c items) ≡ map stand_of (here r c items)
  stands-here r c row [] all = refl
  stands-here r c row (i ∷ items) all =
      let first = leads eq es row i (all 0 i (omega arith)) in
      (λ j. (first j, (r, c)) ∷ stands-here r (c + 1) row items (all-rest (IsPlaced eq es row) i items all) j)

  -- one more request
  pub requests-more : {X : Type 0} (view : X → CiteRender E P) (cites : List X) (r : ℕ) (x : X) → r < length cites → x ≡ get_or cites r x
      → (row : List ℕ) (base now more : List (Option Place)) → RowPlaced eq es row (view x) → now ≡ fold with_first base (stands (map view (take r cites)))
      → more ≡ fold with_first now (stands_of r row (view x).items) → more ≡ fold with_first base (stands (map view (take (r + 1) cites)))
  requests-more view cites r x w h row base now more placed so-far next =
      let ys = map view (take r cites) in
      let counted : 0 + length ys ≡ r = omega (arith, length-map (take r cites) view ∙ length-take-le r cites (omega arith)) in
      let flat : stands (map view (take (r + 1) cites)) ≡ stands ys ++ stands_of r row (view x).items =
      ap stands (grown cites r x w h view) ∙ ap (map stand_of) (located-push 0 ys (view x) ∙ ap (λ n. located 0 ys ++ here n 0 (view x).items) counted)
      ∙ map-append stand_of (located 0 ys) (here r 0 (view x).items) ∙ ap (λ l. stands ys ++ l) (sym (stands-here r 0 row (view x).items placed)) in
      next ∙ ap (λ l. fold with_first l (stands_of r row (view x).items)) so-far ∙ sym (fold-append with_first base (stands ys) (stands_of r row (view x).items))
      ∙ ap (fold with_first base) (sym flat)

  pub length-stands : (base now : List (Option Place)) (cites : List (CiteRender E P)) → now ≡ fold with_first base (stands cites) → length now ≡ length base
  length-stands base now cites h = ap length h ∙ length-noted base (stands cites)

  among : (ws : List (Place × ItemRender E P)) → all_in eq laws es (map (λ i. i.entry) (map (λ w. w.1) ws)) ≡ true → Every (λ w. is_in eq w.1.entry es ≡ true) ws
  among [] h = tt
  among (w ∷ ws) h = (left (is_in eq w.1.entry es) (all_in eq laws es rest) h, among ws (right (is_in eq w.1.entry es) (all_in eq laws es rest) h))
    where
      rest : List E
      rest = map (λ i. i.entry) (map (λ w. w.1) ws)

  module _ (cites : List (CiteRender E P)) (known : all_in eq laws es (cited_finally cites) ≡ true) where
    at-place : (e : E) (k : ℕ) → is_in eq e es ≡ true → k ≡ place eq e es
        → option_map (item_at cites) (first_at k (stands cites)) ≡ option_map Some (first_item eq cites e)
    at-place e k there at =
        let ws = located 0 cites in
        let known-in : Every (λ w. is_in eq w.1.entry es ≡ true) ws =
        among ws (ap (λ l. all_in eq laws es l) (ap (map (λ i. i.entry)) (items-located 0 cites) ∙ sym (cited-items cites)) ∙ known) in
        let same : Every (λ w. nat_eq k (place eq w.1.entry es) ≡ eq e w.1.entry) ws =
        every-map (λ w. is_in eq w.1.entry es ≡ true) (λ w. nat_eq k (place eq w.1.entry es) ≡ eq e w.1.entry)
        (λ w inside. ap (λ n. nat_eq n (place eq w.1.entry es)) at ∙ same-place eq laws es e w.1.entry es there inside) ws known-in in
        let stand : Every (λ w. item_at cites w.0 ≡ Some w.1) ws = all-stand cites 0 cites (λ n x q. let m : 0 + n ≡ n = omega arith in ap (slice_get cites) m ∙ q) in
        ap (λ o. option_map (item_at cites) (option_map (λ s. s.1) o)) (find-map stand_of (λ s. nat_eq k s.0) ws)
        ∙ thrice (find (λ w. nat_eq k (place eq w.1.entry es)) ws)
        ∙ ap (option_map (λ w. item_at cites w.0)) (find-same (λ w. nat_eq k (place eq w.1.entry es)) (λ w. eq e w.1.entry) ws same)
        ∙ find-through (λ w. item_at cites w.0) (λ w. Some w.1) (λ w. eq e w.1.entry) ws stand
        ∙ sym (twice (find (λ w. eq e w.1.entry) ws)) ∙ ap (option_map Some) (sym (find-map (λ w. w.1) (λ i. eq e i.entry) ws) ∙ ap (find (λ i. eq e i.entry)) (items-located 0 cites))
      where
        thrice : (o : Option (Place × ItemRender E P)) → option_map (item_at cites) (option_map (λ s. s.1) (option_map stand_of o)) ≡ option_map (λ w. item_at cites w.0) o
        thrice None = refl
        thrice (Some w) = refl

        twice : (o : Option (Place × ItemRender E P)) → option_map Some (option_map (λ w. w.1) o) ≡ option_map (λ w. Some w.1) o
        twice None = refl
        twice (Some w) = refl

    -- what is noted behind all requests
    pub firsts-are : NoTwoEqual eq es → (base firsts : List (Option Place)) → base ≡ replicate (length es) None → firsts ≡ fold with_first base (stands cites)
        → AreFirstItems eq es cites firsts
    firsts-are once base firsts blank made =
        same_lists (map (option_map (item_at cites)) firsts) (map (λ e. option_map Some (first_item eq cites e)) es)
        (length-map firsts (option_map (item_at cites)) ∙ counted ∙ sym (length-map es (λ e. option_map Some (first_item eq cites e))))
        (λ k d w. each es refl k d (subst (λ n. k < n) (length-map firsts (option_map (item_at cites))) w))
      where
        counted : length firsts ≡ length es
        counted = length-stands base firsts cites made ∙ ap length blank ∙ length-replicate (length es) None

        each : (fs : List E) → fs ≡ es → (k : ℕ) (d : Option (Option (ItemRender E P))) → k < length firsts
            → get_or (map (option_map (item_at cites)) firsts) k d ≡ get_or (map (λ e. option_map Some (first_item eq cites e)) es) k d
        each [] h k d w = let none : length es ≡ 0 = ap length (sym h) in absurd (omega (arith, w, counted, none))
        each (f ∷ fs) h k d w =
            let e = get_or es k f in
            let inside : k < length es = subst (λ n. k < n) counted w in
            let within : k < length base = subst (λ n. k < n) (sym (ap length blank ∙ length-replicate (length es) None)) inside in
            let own = own-place eq laws es k f once inside in
            let noted-is : get_or firsts k None ≡ first_at k (stands cites) =
            ap (λ l. get_or l k None) made ∙ all-noted k base (stands cites) within
            ∙ ap (λ o. option_or o (first_at k (stands cites))) (ap (λ l. get_or l k None) blank ∙ get_or-replicate (length es) k None None inside) in
            get_or-map (option_map (item_at cites)) firsts k None d w ∙ ap (option_map (item_at cites)) noted-is ∙ at-place e k own.listed own.at
            ∙ sym (get_or-map (λ e. option_map Some (first_item eq cites e)) es k f d inside)
