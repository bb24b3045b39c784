-- Rows in order, and the groups of those whose values are equal.
use Rattle.std.proofs.Common.{⊎_elim, inl, inr, ◌≡◌, ℕ, suc, ◌+◌, ◌<◌, ◌≤◌, Bool, true, false, List, [], ◌∷◌, ◌++◌, map, length, get_or, refl, sym, subst, ap, ◌∙◌, append-nil, append_assoc, arith}
use Rattle.std.specs.Prelude.{◌⊎◌, All, AllPairs, Option, Some, None, Vec, ⊤, if◌then◌else◌}
use Rattle.std.specs.Cmp.{Equal-is, IsTotalOrder, alike_right, nat_cmp_total, on_total, ranks, then_total, tied_back, tied_itself}
use Rattle.std.specs.List.{concat, range_with_len}
use Rattle.std.specs.List.Sorted.{IsPermutation, IsSorted}
use Rattle.std.specs.Ordering.{MatchOrdering, eq_by_cmp, is_eq, is_lt, nat_cmp, ordering_reverse, ordering_then}
use Rattle.std.specs.declared.cmp.Ordering.{Ordering}
use Rattle.std.specs.declared.cmp.Ordering.TheVariants.{Less, Equal, Greater}
use Rattle.std.proofs.lemmas.Bool.{cases_lt, true≢false}
use Rattle.std.proofs.lemmas.List.{get_or_append_left, get_or_default, get_or-map, length-append, length-map, map-append}
use Rattle.std.proofs.lemmas.List.FromFn.{get_or-range_with_len, length-range_with_len}
use Rattle.std.proofs.lemmas.List.Elements.{All-append, All-cons, All-head, All-map, All-nil, All-push, All-tail}
use Rattle.std.proofs.lemmas.List.Kept.{AllPairs-cons}
use Rattle.std.proofs.lemmas.List.Quantifiers.{all_pairs_push}
use Rattle.std.proofs.lemmas.List.Sorted.{All-permutation, IsPermutation-append_right, ranks_by, sorted_far}
use Rattle.cite_sorting.proofs.Groups.{indexes_appended, one_group, shuffled_on}
use Rattle.cite_sorting.specs.Order.{AreInOrder, AreTied, AreTies, Precedes, Stays}
use Rattle.cite_sorting.specs.Ties.{indexes_in, is_tied, row_cmp, runs}
use Rattle.cite_sorting.specs.declared.ties.Row.{Row}

either_way : {X : Type 0} (P : X → Type 0) (b : Bool) (x y : X) → (b ≡ true → P x) → (b ≡ false → P y) → P (if b then x else y)
either_way P true x y f g = f refl
either_way P false x y f g = g refl

pub All-left : {X : Type 0} (P : X → Type 0) (xs ys : List X) → All P (xs ++ ys) → All P xs
All-left P xs ys h k d lt =
    let long = length-append xs ys in
    subst P (get_or_append_left xs ys d k lt) (h k d (omega arith))

pub All-right : {X : Type 0} (P : X → Type 0) (xs ys : List X) → All P (xs ++ ys) → All P ys
All-right P [] ys h = h
All-right P (x ∷ xs) ys h = All-right P xs ys (All-tail P x (xs ++ ys) h)

-- ---- each element with each later one

module _ {X : Type 0} (R : X → X → Type 0) where
  pub pairs_head : (x : X) (xs : List X) → AllPairs R (x ∷ xs) → All (R x) xs
  pairs_head x xs h j d lt = h 0 (suc j) d (omega arith) (omega arith)

  pub pairs_tail : (x : X) (xs : List X) → AllPairs R (x ∷ xs) → AllPairs R xs
  pairs_tail x xs h i j d lt within = h (suc i) (suc j) d (omega arith) (omega arith)

  pub pairs_short : (xs : List X) → length xs < 2 → AllPairs R xs
  pairs_short xs h i j d lt within = absurd (omega arith)

pub pairs_map : {X Y : Type 0} (R : Y → Y → Type 0) (f : X → Y) (xs : List X) → AllPairs (λ x y. R (f x) (f y)) xs → AllPairs R (map f xs)
pairs_map R f [] h = λ i j d lt within. absurd (omega arith)
pairs_map R f (x ∷ xs) h =
    AllPairs-cons R (f x) (map f xs) (All-map (R (f x)) f xs (pairs_head (λ x y. R (f x) (f y)) x xs h)) (pairs_map R f xs (pairs_tail (λ x y. R (f x) (f y)) x xs h))

pub pairs_append : {X : Type 0} (R : X → X → Type 0) (xs ys : List X) → AllPairs R xs → All (λ x. All (R x) ys) xs → AllPairs R ys → AllPairs R (xs ++ ys)
pairs_append R [] ys a b h = h
pairs_append R (x ∷ xs) ys a b h =
    AllPairs-cons R x (xs ++ ys) (All-append (R x) xs ys (pairs_head R x xs a) (All-head (λ x. All (R x) ys) x xs b))
    (pairs_append R xs ys (pairs_tail R x xs a) (All-tail (λ x. All (R x) ys) x xs b) h)

-- ---- groups of rows

module _ {V : Type 0} (cmp : V → V → Ordering) (eq : V → V → Bool) where
  pub runs_indexes : (before : Option V) (begun : List ℕ) (rows : List (Row V)) → concat (runs eq before begun rows) ≡ begun ++ map (λ row. row.index) rows
  runs_indexes before begun [] = refl
  runs_indexes before begun (row ∷ rows) =
      either_way (λ parts. concat parts ≡ begun ++ row.index ∷ map (λ row. row.index) rows)
      (is_tied eq before row.value) (runs eq (Some row.value) (begun ++ row.index ∷ []) rows) (begun ∷ runs eq (Some row.value) (row.index ∷ []) rows)
      (λ e. runs_indexes (Some row.value) (begun ++ row.index ∷ []) rows ∙ append_assoc begun (row.index ∷ []) (map (λ row. row.index) rows))
      (λ e. ap (λ is. begun ++ is) (runs_indexes (Some row.value) (row.index ∷ []) rows))

  module _ (total : IsTotalOrder cmp) (same : (x y : V) → eq x y ≡ eq_by_cmp cmp x y) (P Q : ℕ → ℕ → Type 0) where
    abbrev pub Fits : Row V → Row V → Type 0
    Fits r t = ((cmp r.value t.value ≡ Less) × P r.index t.index) ⊎ ((cmp r.value t.value ≡ Equal) × Q r.index t.index)

    abbrev pub Parts : List (List ℕ) → Type 0
    Parts [] = ⊤
    Parts (g ∷ gs) = AllPairs Q g × All (λ i. All (P i) (concat gs)) g × Parts gs

    equal_is : (b v : V) → eq b v ≡ true → cmp b v ≡ Equal
    equal_is b v e = (Equal-is (cmp b v)).0 (sym (same b v) ∙ e)

    is_level : (r t : Row V) → Fits r t → cmp r.value t.value ≡ Equal → Q r.index t.index
    is_level r t (inl h) e = absurd (true≢false (ap is_lt (sym h.0 ∙ e)))
    is_level r t (inr h) e = h.1

    is_less : (r t : Row V) → Fits r t → cmp r.value t.value ≡ Less → P r.index t.index
    is_less r t (inl h) e = h.1
    is_less r t (inr h) e = absurd (true≢false (ap is_lt (sym e ∙ h.0)))

    is_before : (b : V) (r t : Row V) → Fits r t → cmp r.value b ≡ Equal → eq b t.value ≡ false → cmp r.value t.value ≡ Less
    is_before b r t (inl h) e n = h.0
    is_before b r t (inr h) e n =
        absurd (true≢false (sym (same b t.value ∙ ap is_eq (sym (total.congr r.value b t.value e) ∙ h.0)) ∙ n))

    precedes : (e r t : Row V) → cmp e.value r.value ≡ Less → Fits e t → Fits r t → P e.index t.index
    precedes e r t less (inl h) k = h.1
    precedes e r t less (inr h) (inl k) =
        absurd (true≢false (ap is_lt (sym (total.trans e.value r.value t.value less k.0) ∙ h.0)))
    precedes e r t less (inr h) (inr k) =
        absurd (true≢false (ap is_lt (sym less ∙ (alike_right total r.value t.value e.value k.0 ∙ h.0))))

    pub parts_on : (b : V) (es rs : List (Row V)) → AllPairs (λ r t. Q r.index t.index) es → All (λ e. cmp e.value b ≡ Equal) es → All (λ e. All (Fits e) rs) es → AllPairs Fits rs → Parts (runs eq (Some b) (map (λ row. row.index) es) rs)
    parts_on b es [] level equal fit up =
        (pairs_map Q (λ row. row.index) es level, (λ i d lt j e lt'. absurd (omega arith)), tt)
    parts_on b es (r ∷ rs) level equal fit up =
        let first : All (λ e. Fits e r) es = λ k d lt. All-head (Fits (get_or es k d)) r rs (fit k d lt) in
        let rest : All (λ e. All (Fits e) rs) es = λ k d lt. All-tail (Fits (get_or es k d)) r rs (fit k d lt) in
        let on : All (Fits r) rs = pairs_head Fits r rs up in
        let still : AllPairs Fits rs = pairs_tail Fits r rs up in
        either_way Parts (eq b r.value) (runs eq (Some r.value) (map (λ row. row.index) es ++ r.index ∷ []) rs) (map (λ row. row.index) es ∷ runs eq (Some r.value) (r.index ∷ []) rs)
        (λ e.
        let with_r : All (λ x. cmp x.value r.value ≡ Equal) es = λ k d lt. total.congr (get_or es k d).value b r.value (equal k d lt) ∙ equal_is b r.value e in
        subst (λ is. Parts (runs eq (Some r.value) is rs)) (map-append (λ row. row.index) es (r ∷ []))
        (parts_on r.value (es ++ r ∷ []) rs
        (all_pairs_push (λ r t. Q r.index t.index) es r level (λ k d lt. is_level (get_or es k d) r (first k d lt) (with_r k d lt)))
        (All-push (λ x. cmp x.value r.value ≡ Equal) es r with_r (tied_itself total r.value))
        (All-push (λ x. All (Fits x) rs) es r rest on)
        still))
        (λ n.
        let less : All (λ x. cmp x.value r.value ≡ Less) es = λ k d lt. is_before b (get_or es k d) r (first k d lt) (equal k d lt) n in
        let behind : All (λ x. All (P x.index) (r.index ∷ map (λ row. row.index) rs)) es = λ k d lt.
        All-map (P (get_or es k d).index) (λ row. row.index) (r ∷ rs) (All-cons (λ t. P (get_or es k d).index t.index) r rs
        (is_less (get_or es k d) r (first k d lt) (less k d lt))
        (λ j f within. precedes (get_or es k d) r (get_or rs j f) (less k d lt) (rest k d lt j f within) (on j f within))) in (
          pairs_map Q (λ row. row.index) es level,
          subst (λ is. All (λ i. All (P i) is) (map (λ row. row.index) es)) (sym (runs_indexes (Some r.value) (r.index ∷ []) rs)) (All-map (λ i. All (P i) (r.index ∷ map (λ row. row.index) rs)) (λ row. row.index) es behind),
          parts_on r.value (r ∷ []) rs (pairs_short (λ r t. Q r.index t.index) (r ∷ []) (omega arith)) (All-cons (λ x. cmp x.value r.value ≡ Equal) r [] (tied_itself total r.value) (All-nil (λ x. cmp x.value r.value ≡ Equal))) (All-cons (λ x. All (Fits x) rs) r [] on (All-nil (λ x. All (Fits x) rs))) still,
        ))

    pub parts_all : (rows : List (Row V)) → AllPairs Fits rows → Parts (runs eq None [] rows)
    parts_all [] up = ((λ i j d lt within. absurd (omega arith)), (λ i d lt. absurd (omega arith)), tt)
    parts_all (r ∷ rs) up =
        parts_on r.value (r ∷ []) rs (pairs_short (λ r t. Q r.index t.index) (r ∷ []) (omega arith))
        (All-cons (λ x. cmp x.value r.value ≡ Equal) r [] (tied_itself total r.value) (All-nil (λ x. cmp x.value r.value ≡ Equal)))
        (All-cons (λ x. All (Fits x) rs) r [] (pairs_head Fits r rs up) (All-nil (λ x. All (Fits x) rs)))
        (pairs_tail Fits r rs up)

pub indexes_are : {A : Type 0} (ties : List (Vec ℕ A)) → concat (map (λ tied. tied.items) ties) ≡ indexes_in ties
indexes_are [] = refl
indexes_are (tied ∷ ties) = ap (λ is. tied.items ++ is) (indexes_are ties)

pub same_indexes : {V A : Type 0} (cmp : V → V → Ordering) (eq : V → V → Bool) (tied : List ℕ) (rows : List (Row V)) (parts : List (Vec ℕ A)) → map (λ part. part.items) parts ≡ runs eq None [] rows → IsPermutation tied (map (λ row. row.index) rows) → IsPermutation tied (indexes_in parts)
same_indexes cmp eq tied rows parts e moved =
    subst (IsPermutation tied) (sym (runs_indexes cmp eq None [] rows) ∙ (sym (ap concat e) ∙ indexes_are parts)) moved

-- ---- rows that were sorted

module _ {V : Type 0} (cmp : V → V → Ordering) (eq : V → V → Bool) (total : IsTotalOrder cmp) (same : (x y : V) → eq x y ≡ eq_by_cmp cmp x y) (Has : ℕ → ℕ → V → Type 0) (key : ℕ) where
  abbrev Tied : ℕ → ℕ → ℕ → Type 0
  Tied = AreTied cmp Has

  abbrev Next : Row V → Row V → Type 0
  Next = Fits cmp eq total same (Precedes cmp Has (key + 1)) (Stays cmp Has (key + 1))

  ordered : IsTotalOrder (row_cmp cmp)
  ordered = then_total (on_total (λ (r : Row V). r.value) total) (on_total (λ (r : Row V). r.index) nat_cmp_total)

  one_more_tied : (i j : ℕ) (v w : V) → Tied key i j → Has key i v → Has key j w → cmp v w ≡ Equal → Tied (key + 1) i j
  one_more_tied i j v w tied hv hw e k lt =
      ⊎_elim (λ below. tied k below) (λ above. let here : key ≡ k = omega arith in subst (λ n. (v : V) × (w : V) × Has n i v × Has n j w × (cmp v w ≡ Equal)) here (v, w, hv, hw, e)) (cases_lt k key)

  at_most : (a b : ℕ) → is_lt (nat_cmp b a) ≡ false → a ≤ b
  at_most a b h = none_below b a (nat_cmp b a) (ranks b a) h
    where
      none_below : (x y : ℕ) (r : Ordering) → MatchOrdering r (x < y) (x ≡ y) (y < x) → is_lt r ≡ false → y ≤ x
      none_below x y Less m e = absurd (true≢false e)
      none_below x y Equal m e = omega arith
      none_below x y Greater m e = omega arith

  fit : (r t : Row V) (o : Ordering) → cmp t.value r.value ≡ o → is_lt (ordering_then o (nat_cmp t.index r.index)) ≡ false → Has key r.index r.value → Has key t.index t.value → Tied key r.index t.index → Next r t
  fit r t Less e h a b tied = absurd (true≢false h)
  fit r t Equal e h a b tied =
      let back : cmp r.value t.value ≡ Equal = total.antisymm r.value t.value ∙ ap ordering_reverse e in
      inr (back, (one_more_tied r.index t.index r.value t.value tied a b back, at_most r.index t.index h))
  fit r t Greater e h a b tied =
      let back : cmp r.value t.value ≡ Less = total.antisymm r.value t.value ∙ ap ordering_reverse e in
      inl (back, (key, omega arith, tied, (r.value, t.value, a, b, back)))

  pub all_fit : (rows : List (Row V)) → IsSorted (row_cmp cmp) rows → All (λ row. Has key row.index row.value) rows → All (λ r. All (λ t. Tied key r.index t.index) rows) rows → AllPairs Next rows
  all_fit rows up has tied i j d lt within =
      fit (get_or rows i d) (get_or rows j d) _ refl
      (sorted_far (λ x y. is_lt (row_cmp cmp x y)) (ranks_by ordered (λ r. r)) rows up i j d (omega arith) within)
      (has i d (omega arith)) (has j d within) (tied i d (omega arith) j d within)

-- ---- groups and what becomes of them

module _ {V : Type 0} (cmp : V → V → Ordering) (total : IsTotalOrder cmp) (Has : ℕ → ℕ → V → Type 0) where
  turned : (keys i j : ℕ) → AreTied cmp Has keys i j → AreTied cmp Has keys j i
  turned keys i j h k lt = let e = h k lt in (e.1, e.0, e.3, e.2, tied_back total e.0 e.1 e.4)

  first_itself : (keys i j : ℕ) → AreTied cmp Has keys i j → AreTied cmp Has keys i i
  first_itself keys i j h k lt = let e = h k lt in (e.0, e.0, e.2, e.2, tied_itself total e.0)

  -- each of two or more cites is tied with each
  pub whole : (keys : ℕ) (is : List ℕ) → 2 ≤ length is → AllPairs (Stays cmp Has keys) is → All (λ i. All (AreTied cmp Has keys i) is) is
  whole keys is long h p d lt q e within =
      subst (AreTied cmp Has keys (get_or is p d)) (get_or_default is q d e within) (meet (cases_lt p q))
    where
      same : (q ≤ p) → (p < q + 1) → AreTied cmp Has keys (get_or is p d) (get_or is q d)
      same a b =
          let here : p ≡ q = omega arith in
          subst (λ n. AreTied cmp Has keys (get_or is p d) (get_or is n d)) here
          (⊎_elim
          (λ behind. first_itself keys (get_or is p d) (get_or is 0 d) (turned keys (get_or is 0 d) (get_or is p d) (h 0 p d behind lt).0))
          (λ first. let none : p ≡ 0 = omega arith in first_itself keys (get_or is p d) (get_or is (p + 1) d) (h p (p + 1) d (omega arith) (omega arith)).0)
          (cases_lt 0 p))

      meet : (p < q) ⊎ (q ≤ p) → AreTied cmp Has keys (get_or is p d) (get_or is q d)
      meet (inl before) = (h p q d before within).0
      meet (inr not_before) = ⊎_elim (λ same_place. same not_before same_place) (λ behind. turned keys (get_or is q d) (get_or is p d) (h q p d (omega arith) lt).0) (cases_lt p (q + 1))

  -- the same of what is shuffled
  pub shuffled_whole : (keys : ℕ) (is js : List ℕ) → IsPermutation is js → All (λ i. All (AreTied cmp Has keys i) is) is → All (λ i. All (AreTied cmp Has keys i) js) js
  shuffled_whole keys is js moved h =
      All-permutation (λ i. All (AreTied cmp Has keys i) js) is js moved
      (λ k d lt. All-permutation (AreTied cmp Has keys (get_or is k d)) is js moved (h k d lt))

  pub one_more_key : (keys i j : ℕ) → Precedes cmp Has keys i j → Precedes cmp Has (keys + 1) i j
  one_more_key keys i j h = let below = h.1 in (h.0, omega arith, h.2, h.3)

  pub groups_of_parts : {A : Type 0} (eq : V → V → Bool) (same : (x y : V) → eq x y ≡ eq_by_cmp cmp x y) (keys : ℕ) (parts : List (Vec ℕ A)) → Parts cmp eq total same (Precedes cmp Has keys) (Stays cmp Has keys) (map (λ part. part.items) parts) → AreTies cmp Has keys parts
  groups_of_parts eq same keys [] h = tt
  groups_of_parts eq same keys (part ∷ parts) h =
      (h.0, subst (λ is. All (λ i. All (Precedes cmp Has keys i) is) part.items) (indexes_are parts) h.1, groups_of_parts eq same keys parts h.2)

  pub after_one_key : {A : Type 0} (eq : V → V → Bool) (same : (x y : V) → eq x y ≡ eq_by_cmp cmp x y) (key : ℕ) (tied : List ℕ) (rows : List (Row V)) (parts : List (Vec ℕ A)) → map (λ part. part.items) parts ≡ runs eq None [] rows → IsPermutation tied (map (λ row. row.index) rows) → All (λ row. Has key row.index row.value) rows → IsSorted (row_cmp cmp) rows → 2 ≤ length tied → AllPairs (Stays cmp Has key) tied → AreTies cmp Has (key + 1) parts
  after_one_key eq same key tied rows parts e moved has up long stays =
      let all = shuffled_whole key tied (map (λ row. row.index) rows) moved (whole key tied long stays) in
      groups_of_parts eq same (key + 1) parts
      (subst (Parts cmp eq total same (Precedes cmp Has (key + 1)) (Stays cmp Has (key + 1))) (sym e)
      (parts_all cmp eq total same (Precedes cmp Has (key + 1)) (Stays cmp Has (key + 1)) rows
      (all_fit cmp eq total same Has key rows up has (of_rows key rows all))))
    where
      of_rows : (keys : ℕ) (rs : List (Row V)) → All (λ i. All (AreTied cmp Has keys i) (map (λ row. row.index) rs)) (map (λ row. row.index) rs) → All (λ r. All (λ t. AreTied cmp Has keys r.index t.index) rs) rs
      of_rows keys rs h k d lt j e within =
          let long' = length-map rs (λ row. row.index) in
          subst (λ i. AreTied cmp Has keys i (get_or rs j e).index) (get_or-map (λ row. row.index) rs k d 0 lt)
          (subst (AreTied cmp Has keys (get_or (map (λ row. row.index) rs) k 0)) (get_or-map (λ row. row.index) rs j e 0 within)
          (h k 0 (subst (λ n. k < n) (sym long') lt) j 0 (subst (λ n. j < n) (sym long') within)))

  -- ---- groups are put behind others

  pub ties_joined : {A : Type 0} (keys : ℕ) (gs hs : List (Vec ℕ A)) → AreTies cmp Has keys gs → AreTies cmp Has keys hs → All (λ i. All (Precedes cmp Has keys i) (indexes_in hs)) (indexes_in gs) → AreTies cmp Has keys (gs ++ hs)
  ties_joined keys [] hs a b h = b
  ties_joined keys (g ∷ gs) hs a b h =
      let here = All-left (λ i. All (Precedes cmp Has keys i) (indexes_in hs)) g.items (indexes_in gs) h in
      let later = All-right (λ i. All (Precedes cmp Has keys i) (indexes_in hs)) g.items (indexes_in gs) h in (
        a.0,
        (λ k d lt. subst (All (Precedes cmp Has keys (get_or g.items k d))) (sym (indexes_appended gs hs)) (All-append (Precedes cmp Has keys (get_or g.items k d)) (indexes_in gs) (indexes_in hs) (a.1 k d lt) (here k d lt))),
        ties_joined keys gs hs a.2 b later,
      )

  -- a group stands behind those before it
  pub group_behind : {A : Type 0} (keys : ℕ) (gs : List (Vec ℕ A)) (g : Vec ℕ A) (hs : List (Vec ℕ A)) → AreTies cmp Has keys (gs ++ g ∷ hs) → AllPairs (Stays cmp Has keys) g.items × All (λ i. All (Precedes cmp Has keys i) g.items) (indexes_in gs)
  group_behind keys [] g hs h = (h.0, (λ k d lt. absurd (omega arith)))
  group_behind keys (first ∷ gs) g hs h =
      let rest = group_behind keys gs g hs h.2 in (
        rest.0,
        All-append (λ i. All (Precedes cmp Has keys i) g.items) first.items (indexes_in gs)
            (λ k d lt. All-left (Precedes cmp Has keys (get_or first.items k d)) g.items (indexes_in hs) (All-right (Precedes cmp Has keys (get_or first.items k d)) (indexes_in gs) (g.items ++ indexes_in hs) (subst (All (Precedes cmp Has keys (get_or first.items k d))) (indexes_appended gs (g ∷ hs)) (h.1 k d lt))))
            rest.1,
      )

  -- one more group is read, and its parts are put behind the finer groups
  pub one_more_group : {A : Type 0} (key : ℕ) (all read : List (Vec ℕ A)) (g : Vec ℕ A) (left finer parts : List (Vec ℕ A)) → read ++ g ∷ left ≡ all → IsPermutation (indexes_in read) (indexes_in finer) → IsPermutation g.items (indexes_in parts) → (AreTies cmp Has key all → AreTies cmp Has (key + 1) finer) → (AllPairs (Stays cmp Has key) g.items → AreTies cmp Has (key + 1) parts) → AreTies cmp Has key all → AreTies cmp Has (key + 1) (finer ++ parts)
  one_more_group key all read g left finer parts e moved parted so_far more h =
      let behind = group_behind key read g left (subst (AreTies cmp Has key) (sym e) h) in
      ties_joined (key + 1) finer parts (so_far h) (more behind.0)
      (All-permutation (λ i. All (Precedes cmp Has (key + 1) i) (indexes_in parts)) (indexes_in read) (indexes_in finer) moved
      (λ k d lt. All-permutation (Precedes cmp Has (key + 1) (get_or (indexes_in read) k d)) g.items (indexes_in parts) parted
      (λ j f within. one_more_key key (get_or (indexes_in read) k d) (get_or g.items j f) (behind.1 k d lt j f within))))

  pub group_step : {A : Type 0} (key : ℕ) (all read : List (Vec ℕ A)) (g : Vec ℕ A) (here left finer parts new : List (Vec ℕ A)) → here ≡ g ∷ left → new ≡ finer ++ parts → IsPermutation g.items (indexes_in parts) → (AllPairs (Stays cmp Has key) g.items → AreTies cmp Has (key + 1) parts) → (IsPermutation (indexes_in read) (indexes_in finer) × (read ++ here ≡ all) × (AreTies cmp Has key all → AreTies cmp Has (key + 1) finer)) → IsPermutation (indexes_in (read ++ g ∷ [])) (indexes_in new) × (read ++ g ∷ [] ++ left ≡ all) × (AreTies cmp Has key all → AreTies cmp Has (key + 1) new)
  group_step key all read g here left finer parts new e f parted more before =
      let whole : read ++ g ∷ left ≡ all = ap (λ gs. read ++ gs) (sym e) ∙ before.1 in (
        shuffled_on read g (indexes_in finer) (indexes_in new) before.0
            (subst (λ is. IsPermutation (indexes_in finer ++ g.items) is) (sym (ap indexes_in f ∙ indexes_appended finer parts)) (IsPermutation-append_right (indexes_in finer) g.items (indexes_in parts) parted)),
        append_assoc read (g ∷ []) left ∙ whole,
        (λ h. subst (AreTies cmp Has (key + 1)) (sym f) (one_more_group key all read g left finer parts whole before.0 parted before.2 more h)),
      )

  -- all cites are one group, as long as no key is read
  pub begun : {A : Type 0} (count : ℕ) (g : Vec ℕ A) (groups : List (Vec ℕ A)) → groups ≡ g ∷ [] → g.items ≡ range_with_len 0 count → IsPermutation (range_with_len 0 count) (indexes_in groups) × AreTies cmp Has 0 groups
  begun count g groups e f = (
    one_group groups g count (ap indexes_in e ∙ append-nil g.items) f,
    subst (AreTies cmp Has 0) (sym e) (
      subst (AllPairs (Stays cmp Has 0)) (sym f) (λ i j d lt within. ((λ key below. absurd (omega arith)), rises i j d lt within)),
      (λ k d lt j e' within. absurd (omega arith)),
      tt,
    ),
  )
    where
      rises : (i j d : ℕ) → i < j → j < length (range_with_len 0 count) → get_or (range_with_len 0 count) i d ≤ get_or (range_with_len 0 count) j d
      rises i j d lt within =
          let long = length-range_with_len 0 count in
          let a = get_or-range_with_len 0 count i d (omega arith) in
          let b = get_or-range_with_len 0 count j d (omega arith) in
          omega arith

  pub up_to : {A : Type 0} (key keys : ℕ) (ties : List (Vec ℕ A)) → key ≤ keys → keys ≤ key → AreTies cmp Has key ties → AreTies cmp Has keys ties
  up_to key keys ties a b h = let same : key ≡ keys = omega arith in subst (λ n. AreTies cmp Has n ties) same h

  pub in_order : {A : Type 0} (keys : ℕ) (ties : List (Vec ℕ A)) (indexes : List ℕ) → indexes ≡ indexes_in ties → AreTies cmp Has keys ties → AreInOrder cmp Has keys indexes
  in_order keys ties indexes e h = subst (AreInOrder cmp Has keys) (sym e) (all ties h)
    where
      all : {A : Type 0} (gs : List (Vec ℕ A)) → AreTies cmp Has keys gs → AllPairs (λ i j. Precedes cmp Has keys i j ⊎ Stays cmp Has keys i j) (indexes_in gs)
      all [] h = λ i j d lt within. absurd (omega arith)
      all (g ∷ gs) h =
          pairs_append (λ i j. Precedes cmp Has keys i j ⊎ Stays cmp Has keys i j) g.items (indexes_in gs) (λ i j d lt within. inr (h.0 i j d lt within))
          (λ k d lt j f within. inl (h.1 k d lt j f within)) (all gs h.2)
