-- What is asked at the stops of a way is what its mention needs against those of its group.
use mathlib.Core.Bool.{or-false}
use Rattle.std.proofs.Common.{◌≡◌, ℕ, ◌+◌, ◌<◌, ◌≤◌, zero, suc, Bool, true, false, cond, not, ◌&&◌, ◌||◌, Some, None, Option, List, [], ◌∷◌, ◌++◌, length, map, take, refl, ap, sym, ◌∙◌, arith, add-one, inl, inr, ◌⊎◌}
use Rattle.std.specs.Prelude.{All, bytes_eq, filter, is_none, is_some, nat_eq, nat_lt, slice_get}
use Rattle.std.specs.List.{enumerate_from, flat_map, list_any, range_with_len}
use Rattle.std.specs.Option.{option_eq, option_map_or}
use Rattle.std.specs.Cmp.{nat_eq_equiv}
use Rattle.std.proofs.lemmas.List.Elements.{All-head, All-tail}
use Rattle.std.proofs.lemmas.List.Folds.{flat_map-map}
use Rattle.std.proofs.lemmas.Option.{slice_get_past}
use Rattle.std.proofs.lemmas.Bool.{cases_lt, eqb-true, le-ltb, lt-ltb, ltb-false, ltb-true, ne_eqb}
use Rattle.list_lemmas.proofs.Members.{any-map}
use Rattle.value_sources.specs.declared.names.DisambiguatedNameForm.{DisambiguatedNameForm}
use Rattle.mentions_names.specs.Forms.{greatest_form}
use Rattle.mentions_names.specs.Gathered.{IsGathered, count_at, count_from, count_of, ends_at, ends_of, ends_with, forms_at, forms_from, is_end, needs, needs_on, same_node, shown_at, shown_by, shown_from}
use Rattle.mentions_names.specs.Known.{rival_form}
use Rattle.mentions_names.specs.Looks.{has_given, is_namesake, needed, needed_beside, same_initials, same_look}
use Rattle.mentions_names.specs.Rivals.{at_node, by_family, by_initials, form_by, held_for, is_other_held, is_other_shown, is_shown}
use Rattle.mentions_names.specs.Telling.{both_go_on, first_difference, form_against, form_beside, form_needed, greatest, group_of, in_one_group, names_against, names_needed}
use Rattle.mentions_names.specs.Ways.{AllMade, AllMadeBy, AreMade, lead, stop_at, stops_of, way_of}
use Rattle.mentions_names.specs.declared.gathered.Gathered.{Gathered}
use Rattle.mentions_names.specs.declared.look.Look.{Look}
use Rattle.mentions_names.specs.declared.reach.Reach.{Reach}
use Rattle.mentions_names.specs.declared.rivals.Node.{Node}
use Rattle.mentions_names.specs.declared.rivals.SharedName.{SharedName}
use Rattle.mentions_names.specs.declared.ways.Step.{Step}
use Rattle.mentions_names.proofs.Counting.{greatest-asked, greatest-at, greatest-ended, greatest-form-asked, greatest-same, greatest-short, greatest-swap, greatest-zero}
use Rattle.mentions_names.proofs.Deciding.{looks_find}
use Rattle.mentions_names.proofs.Differing.{as-far, differs-at, is_place, within-both}
use Rattle.mentions_names.proofs.Leading.{at, same-lead, same_looks}
use Rattle.mentions_names.proofs.Logic.{and-assoc, and-false, and-yes, any-filter, any-flat_map, any-same, nowhere, only-at}

any-same-all : {X : Type 0} (P : X → Type 0) (p q : X → Bool) → ((x : X) → P x → p x ≡ q x) → (xs : List X) → All P xs → list_any p xs ≡ list_any q xs
any-same-all P p q h [] all = refl
any-same-all P p q h (x ∷ xs) all = λ i. h x (All-head P x xs all) i || any-same-all P p q h xs (All-tail P x xs all) i

pub map-range-same : {X : Type 0} (f h : ℕ → X) (a n : ℕ) → ((j : ℕ) → a ≤ j → j < a + n → f j ≡ h j) → map f (range_with_len a n) ≡ map h (range_with_len a n)
map-range-same f h a zero e = refl
map-range-same f h a (suc n) e = λ i. e a (omega arith) (omega arith) i ∷ map-range-same f h (a + 1) n (λ j l u. e j (omega arith) (omega arith)) i

enumerated-range : {X Y : Type 0} (f : ℕ × X → Y) (h : ℕ → X) (a n : ℕ) → map f (enumerate_from a (map h (range_with_len a n))) ≡ map (λ i. f (i, h i)) (range_with_len a n)
enumerated-range f h a zero = refl
enumerated-range f h a (suc n) = ap (λ l. f (a, h a) ∷ l) (enumerated-range f h (a + 1) n)

-- all but the last give one each
flat-range : {Y : Type 0} (f : ℕ → List Y) (h : ℕ → Y) (a n : ℕ) → ((j : ℕ) → a ≤ j → j < a + n → f j ≡ h j ∷ []) → ((j : ℕ) → j ≡ a + n → f j ≡ [])
    → flat_map f (range_with_len a (suc n)) ≡ map h (range_with_len a n)
flat-range f h a zero e last = ap (λ l. l ++ []) (last a (omega arith))
flat-range f h a (suc n) e last =
    ap (λ l. l ++ flat_map f (range_with_len (a + 1) (suc n))) (e a (omega arith) (omega arith))
    ∙ ap (λ l. h a ∷ l) (flat-range f h (a + 1) n (λ j l u. e j (omega arith) (omega arith)) (λ j k. last j (omega arith)))

lt-get : {X : Type 0} (xs : List X) (i : ℕ) → nat_lt i (length xs) ≡ is_some (slice_get xs i)
lt-get [] i = le-ltb i 0 (omega arith)
lt-get (x ∷ xs) zero = lt-ltb 0 (suc (length xs)) (omega arith)
lt-get (x ∷ xs) (suc i) = by (nat_lt i (length xs)) refl ∙ lt-get xs i
  where
    by : (b : Bool) → nat_lt i (length xs) ≡ b → nat_lt (suc i) (suc (length xs)) ≡ nat_lt i (length xs)
    by true e = let h : i < length xs = ltb-true i (length xs) e in lt-ltb (suc i) (suc (length xs)) (omega arith) ∙ sym e
    by false e = let h : length xs ≤ i = ltb-false i (length xs) e in le-ltb (suc i) (suc (length xs)) (omega arith) ∙ sym e

-- what goes on from a stop, as it is asked for
module _ (n m : Node) (x : Look) where
  pub at-other : (by_cite : Bool) (o : Option Look) → is_other_shown (at_node n) x (shown_from by_cite m o) ≡ (same_node n m && option_map_or (λ y. not (same_look x y)) o false)
  at-other by_cite None = sym (and-false (same_node n m))
  at-other false (Some y) = by (same_node n m) (not (same_look x y))
    where
      by : (s w : Bool) → (((s && (true && true)) && w) || false) ≡ (s && w)
      by true w = or-false w
      by false w = refl
  at-other true (Some y) = by (same_node n m) (not (same_look x y))
    where
      by : (s w : Bool) → (((s && (true && true)) && w) || (((s && (false && true)) && w) || (((s && (false && false)) && w) || false))) ≡ (s && w)
      by true w = or-false w
      by false w = refl

  pub at-any : (by_cite : Bool) (o : Option Look) → is_shown (at_node n) (shown_from by_cite m o) ≡ (same_node n m && is_some o)
  at-any by_cite None = sym (and-false (same_node n m))
  at-any false (Some y) = by (same_node n m)
    where
      by : (s : Bool) → ((s && (true && true)) || false) ≡ (s && true)
      by true = refl
      by false = refl
  at-any true (Some y) = by (same_node n m)
    where
      by : (s : Bool) → ((s && (true && true)) || ((s && (false && true)) || ((s && (false && false)) || false))) ≡ (s && true)
      by true = refl
      by false = refl

  -- by the family name
  abbrev pub named : Bool → Option Look → Bool
  named by_cite o = by_cite && option_map_or (is_namesake x) o false

  -- and the initials
  abbrev pub initialed : Bool → Option Look → Bool
  initialed by_cite o = by_cite && option_map_or (λ y. is_namesake x y && same_initials x y) o false

  pub at-family : (by_cite : Bool) (o : Option Look) → is_other_shown (by_family n x) x (shown_from by_cite m o) ≡ (same_node n m && named by_cite o)
  at-family false None = sym (and-false (same_node n m))
  at-family true None = sym (and-false (same_node n m))
  at-family false (Some y) = by (same_node n m) (not (same_look x y))
    where
      by : (s w : Bool) → (((s && (false && true)) && w) || false) ≡ (s && false)
      by true w = refl
      by false w = refl
  at-family true (Some y) = by (same_node n m) (not (same_look x y)) (bytes_eq x.name y.name)
    where
      by : (s w f : Bool) → (((s && (false && true)) && w) || (((s && (f && true)) && w) || (((s && (f && false)) && w) || false))) ≡ (s && (f && w))
      by true w true = or-false w
      by true w false = refl
      by false w f = refl

  pub at-initials : (by_cite : Bool) (o : Option Look) → is_other_shown (by_initials n x) x (shown_from by_cite m o) ≡ (same_node n m && initialed by_cite o)
  at-initials false None = sym (and-false (same_node n m))
  at-initials true None = sym (and-false (same_node n m))
  at-initials false (Some y) = by (same_node n m) (not (same_look x y))
    where
      by : (s w : Bool) → (((s && (false && false)) && w) || false) ≡ (s && false)
      by true w = refl
      by false w = refl
  at-initials true (Some y) = by (same_node n m) (not (same_look x y)) (bytes_eq x.name y.name) (same_initials x y)
    where
      by : (s w f t : Bool) → (((s && (false && false)) && w) || (((s && (f && false)) && w) || (((s && (f && t)) && w) || false))) ≡ (s && ((f && w) && t))
      by true true true true = refl
      by true true true false = refl
      by true false true true = refl
      by true false true false = refl
      by true w false t = refl
      by false w f t = refl

pub at-end : (n m : Node) (o : Option Look) → is_end n (ends_with m o) ≡ (same_node n m && is_none o)
at-end n m None = or-false (same_node n m) ∙ sym (and-yes (same_node n m))
at-end n m (Some y) = sym (and-false (same_node n m))

-- beside one other alone
pub needed-two : (x y : Look) → needed x (x ∷ y ∷ []) ≡ form_by (has_given x) (is_namesake x y) (is_namesake x y && same_initials x y)
needed-two x y =
    ap (λ b. cond (has_given x) (needed_beside x (cond b (x ∷ rest) rest)) DisambiguatedNameForm.Short) own
    ∙ by (has_given x) (is_namesake x y) (same_initials x y) refl
  where
    rest : List Look
    rest = filter (is_namesake x) (y ∷ [])

    own : is_namesake x x ≡ false
    own = ap (λ b. bytes_eq x.name x.name && not b) (looks_find.self x) ∙ and-false (bytes_eq x.name x.name)

    by : (given named same : Bool) → same_initials x y ≡ same
        → cond given (needed_beside x (cond named (y ∷ []) [])) DisambiguatedNameForm.Short ≡ form_by given named (named && same)
    by false named same e = refl
    by true false same e = refl
    by true true same e = ap (λ b. cond (b || false) DisambiguatedNameForm.LongFull DisambiguatedNameForm.LongInitialized) e ∙ last same
      where
        last : (same : Bool) → cond (same || false) DisambiguatedNameForm.LongFull DisambiguatedNameForm.LongInitialized ≡ form_by true true (true && same)
        last true = refl
        last false = refl

place-is : (i : ℕ) (d : Option ℕ) → is_place i d ≡ true → d ≡ Some i
place-is i None e = cc
place-is i (Some n) e = ap Some (eqb-true n i e)

module _ (steps : List Step) (reaches : List Reach) (made : All (AllMade steps) reaches) (g : Gathered) (known : IsGathered g (map (way_of steps) reaches))
    (group : ℕ) (r : List Look) (made_r : AreMade steps group r (length r)) where
  abbrev node : ℕ → Node
  node i = lead steps (Node.Start group) (take i r)

  -- a mention shows, behind the same i looks, what passes a test
  abbrev passes : (Bool → Option Look → Bool) → ℕ → Reach → Bool
  passes V i b = same_looks (take i r) (take i b.looks) && V b.by_cite (slice_get b.looks i)

  stops-any : (V : Option Look → Bool) (i : ℕ) → i ≤ length r → (h : ℕ) (s : List Look) → AreMade steps h s (length s)
      → list_any (λ j. same_node (node i) (lead steps (Node.Start h) (take j s)) && V (slice_get s j)) (range_with_len 0 (length s + 1))
      ≡ (nat_eq group h && (same_looks (take i r) (take i s) && V (slice_get s i)))
  stops-any V i within h s made_s = by (cases_lt (length s) i)
    where
      elsewhere : (j : ℕ) → j ≤ length s → nat_eq i j ≡ false → (same_node (node i) (lead steps (Node.Start h) (take j s)) && V (slice_get s j)) ≡ false
      elsewhere j u f =
          ap (λ b. b && V (slice_get s j)) (same-lead steps group h r s made_r made_s i j within u
          ∙ ap (λ b. nat_eq group h && (b && same_looks (take i r) (take j s))) f ∙ and-false (nat_eq group h))

      beyond : length s < i → list_any (λ j. same_node (node i) (lead steps (Node.Start h) (take j s)) && V (slice_get s j)) (range_with_len 0 (length s + 1))
          ≡ (nat_eq group h && (same_looks (take i r) (take i s) && V (slice_get s i)))
      beyond u =
          nowhere _ 0 (length s + 1) (λ j l k. elsewhere j (omega arith) (apart j (omega arith)))
          ∙ sym (ap (λ b. nat_eq group h && (b && V (slice_get s i))) (as-far r s i within u) ∙ and-false (nat_eq group h))
        where
          apart : (j : ℕ) → j < i → nat_eq i j ≡ false
          apart j k = ne_eqb i j (λ e. omega (arith, e))

      inside : i ≤ length s → list_any (λ j. same_node (node i) (lead steps (Node.Start h) (take j s)) && V (slice_get s j)) (range_with_len 0 (length s + 1))
          ≡ (nat_eq group h && (same_looks (take i r) (take i s) && V (slice_get s i)))
      inside u =
          only-at (λ j. same_node (node i) (lead steps (Node.Start h) (take j s)) && V (slice_get s j)) i 0 (length s + 1) (omega arith) (omega arith)
          (λ j l k f. elsewhere j (omega arith) f)
          ∙ ap (λ b. b && V (slice_get s i)) (same-lead steps group h r s made_r made_s i i within u
          ∙ ap (λ b. nat_eq group h && (b && same_looks (take i r) (take i s))) (nat_eq_equiv.refl i))
          ∙ and-assoc (nat_eq group h) (same_looks (take i r) (take i s)) (V (slice_get s i))

      by : (length s < i) ⊎ (i ≤ length s) → list_any (λ j. same_node (node i) (lead steps (Node.Start h) (take j s)) && V (slice_get s j)) (range_with_len 0 (length s + 1))
          ≡ (nat_eq group h && (same_looks (take i r) (take i s) && V (slice_get s i)))
      by (inl u) = beyond u
      by (inr u) = inside u

  mention-any : (V : Option Look → Bool) (i : ℕ) → i ≤ length r → (o : Option ℕ) (s : List Look) → AllMadeBy steps o s
      → list_any (λ t. same_node (node i) t.node && V t.look) (stops_of steps o s)
      ≡ (in_one_group (Some group) o && (same_looks (take i r) (take i s) && V (slice_get s i)))
  mention-any V i within None s m = refl
  mention-any V i within (Some h) s m =
      any-map (λ t. same_node (node i) t.node && V t.look) (stop_at steps h s) (range_with_len 0 (length s + 1)) ∙ stops-any V i within h s m

  ways-any : (V : Bool → Option Look → Bool) (i : ℕ) → i ≤ length r
      → list_any (λ w. list_any (λ t. same_node (node i) t.node && V w.by_cite t.look) w.stops) (map (way_of steps) reaches)
      ≡ list_any (λ b. in_one_group (Some group) b.group && passes V i b) reaches
  ways-any V i within =
      any-map (λ w. list_any (λ t. same_node (node i) t.node && V w.by_cite t.look) w.stops) (way_of steps) reaches
      ∙ any-same-all (AllMade steps) _ _ (λ b m. mention-any (V b.by_cite) i within b.group b.looks m) reaches made

  -- so of all that is shown
  shown-any : (p : SharedName × Look → Bool) (V : Bool → Option Look → Bool) (i : ℕ) → i ≤ length r
      → ((c : Bool) (m : Node) (o : Option Look) → list_any p (shown_from c m o) ≡ (same_node (node i) m && V c o))
      → list_any p (flat_map shown_by (map (way_of steps) reaches)) ≡ list_any (λ b. in_one_group (Some group) b.group && passes V i b) reaches
  shown-any p V i within h =
      any-flat_map p shown_by (map (way_of steps) reaches)
      ∙ any-same _ (λ w. list_any (λ t. same_node (node i) t.node && V w.by_cite t.look) w.stops)
      (λ w. any-flat_map p (shown_at w.by_cite) w.stops ∙ any-same _ _ (λ t. h w.by_cite t.node t.look) w.stops) (map (way_of steps) reaches)
      ∙ ways-any V i within

  ends-any : (i : ℕ) → i ≤ length r
      → is_end (node i) (flat_map ends_of (map (way_of steps) reaches)) ≡ list_any (λ b. in_one_group (Some group) b.group && passes (λ c o. is_none o) i b) reaches
  ends-any i within =
      any-flat_map (same_node (node i)) ends_of (map (way_of steps) reaches)
      ∙ any-same _ (λ w. list_any (λ t. same_node (node i) t.node && is_none t.look) w.stops)
      (λ w. any-flat_map (same_node (node i)) ends_at w.stops ∙ any-same _ _ (λ t. at-end (node i) t.node t.look) w.stops) (map (way_of steps) reaches)
      ∙ ways-any (λ c o. is_none o) i within

  module _ (c own : Bool) (alike : All (λ b. in_one_group (Some group) b.group ≡ true → b.by_cite ≡ c) reaches) where
    abbrev a : Reach
    a = record { group = Some group; by_cite = c; looks = r; occurs = own }

    abbrev others : List Reach
    others = group_of reaches a

    -- the first difference from another is at i
    abbrev apart_at : ℕ → Reach → Bool
    apart_at i b = is_place i (first_difference r b.looks)

    -- and that one shows there what passes
    in-group : (p q : Reach → Bool) → ((b : Reach) → p b ≡ q b) → list_any (λ b. in_one_group (Some group) b.group && p b) reaches ≡ list_any q others
    in-group p q h =
        any-same _ _ (λ b. ap (λ t. in_one_group (Some group) b.group && t) (h b)) reaches ∙ sym (any-filter q (λ b. in_one_group (Some group) b.group) reaches)

    -- how many names it needs against one other, if they differ at i
    abbrev exactly : ℕ → Reach → ℕ
    exactly i b = cond (apart_at i b) (names_against a b) 0

    module _ (i : ℕ) (within : i ≤ length r) where
      -- where the mention goes on with x
      module _ (x : Look) (here : slice_get r i ≡ Some x) where
        differ : (b : Reach) → apart_at i b ≡ (same_looks (take i r) (take i b.looks) && not (option_eq same_look (Some x) (slice_get b.looks i)))
        differ b = differs-at r b.looks i ∙ ap (λ o. same_looks (take i r) (take i b.looks) && not (option_eq same_look o (slice_get b.looks i))) here

        other-goes : is_other_held x (held_for g.beside (at_node (node i))) ≡ list_any (λ b. apart_at i b && is_some (slice_get b.looks i)) others
        other-goes =
            known.beside.others (at_node (node i)) x
            ∙ shown-any _ (λ c o. option_map_or (λ y. not (same_look x y)) o false) i within (λ c m o. at-other (node i) m x c o)
            ∙ in-group _ _ (λ b. by (same_looks (take i r) (take i b.looks)) (slice_get b.looks i) ∙ ap (λ t. t && is_some (slice_get b.looks i)) (sym (differ b)))
          where
            by : (s : Bool) (o : Option Look) → (s && option_map_or (λ y. not (same_look x y)) o false) ≡ ((s && not (option_eq same_look (Some x) o)) && is_some o)
            by true None = refl
            by false None = refl
            by s (Some y) = sym (and-yes (s && not (same_look x y)))

        other-ends : is_end (node i) g.ends.keys ≡ list_any (λ b. apart_at i b && is_none (slice_get b.looks i)) others
        other-ends =
            known.ends (node i) ∙ ends-any i within
            ∙ in-group _ _ (λ b. by (same_looks (take i r) (take i b.looks)) (slice_get b.looks i) ∙ ap (λ t. t && is_none (slice_get b.looks i)) (sym (differ b)))
          where
            by : (s : Bool) (o : Option Look) → (s && is_none o) ≡ ((s && not (option_eq same_look (Some x) o)) && is_none o)
            by true None = refl
            by false None = refl
            by s (Some y) = and-false s ∙ sym (and-false (s && not (same_look x y)))

      against : (b : Reach) → apart_at i b ≡ true → names_against a b ≡ cond (is_some (slice_get r i) && is_some (slice_get b.looks i)) (i + 1) i
      against b e =
          ap (λ d. option_map_or (λ k. cond (both_go_on k a b) (k + 1) k) d 0) (place-is i (first_difference r b.looks) e)
          ∙ (λ t. cond (lt-get r i t && lt-get b.looks i t) (i + 1) i)

      count-goes : (x : Look) → slice_get r i ≡ Some x → count_from g i (node i) (Some x) ≡ greatest (map (exactly i) others)
      count-goes x here =
          (λ t. count_of i (other-goes x here t) (other-ends x here t))
          ∙ sym (greatest-asked i (λ b. apart_at i b && is_some (slice_get b.looks i)) (λ b. apart_at i b && is_none (slice_get b.looks i)) others)
          ∙ greatest-same _ (exactly i) (λ b. by b (apart_at i b) refl (slice_get b.looks i) refl) others
        where
          by : (b : Reach) (p : Bool) → apart_at i b ≡ p → (o : Option Look) → slice_get b.looks i ≡ o
              → count_of i (apart_at i b && is_some (slice_get b.looks i)) (apart_at i b && is_none (slice_get b.looks i)) ≡ cond (apart_at i b) (names_against a b) 0
          by b false e o f =
              (λ t. count_of i (e t && is_some (slice_get b.looks i)) (e t && is_none (slice_get b.looks i))) ∙ sym (ap (λ p. cond p (names_against a b) 0) e)
          by b true e None f =
              (λ t. count_of i (e t && is_some (f t)) (e t && is_none (f t)))
              ∙ sym (ap (λ p. cond p (names_against a b) 0) e ∙ against b e ∙ (λ t. cond (is_some (here t) && is_some (f t)) (i + 1) i))
          by b true e (Some y) f =
              (λ t. count_of i (e t && is_some (f t)) (e t && is_none (f t)))
              ∙ sym (ap (λ p. cond p (names_against a b) 0) e ∙ against b e ∙ (λ t. cond (is_some (here t) && is_some (f t)) (i + 1) i))

      count-ends : slice_get r i ≡ None → count_from g i (node i) None ≡ greatest (map (exactly i) others)
      count-ends here =
          ap (λ p. cond p i 0) (known.beside.held (at_node (node i)) ∙ shown-any _ (λ c o. is_some o) i within (λ c m o. any-at m c o)
          ∙ in-group _ (λ b. apart_at i b) (λ b. by (same_looks (take i r) (take i b.looks)) (slice_get b.looks i)
          ∙ sym (differs-at r b.looks i ∙ ap (λ o. same_looks (take i r) (take i b.looks) && not (option_eq same_look o (slice_get b.looks i))) here)))
          ∙ sym (greatest-ended i (λ b. apart_at i b) others)
          ∙ greatest-same _ (exactly i) (λ b. asked b (apart_at i b) refl) others
        where
          any-at : (m : Node) (c : Bool) (o : Option Look) → is_shown (at_node (node i)) (shown_from c m o) ≡ (same_node (node i) m && is_some o)
          any-at m c None = sym (and-false (same_node (node i) m))
          any-at m c (Some y) = at-any (node i) m y c (Some y)

          by : (s : Bool) (o : Option Look) → (s && is_some o) ≡ (s && not (option_eq same_look None o))
          by s None = refl
          by s (Some y) = refl

          asked : (b : Reach) (p : Bool) → apart_at i b ≡ p → cond (apart_at i b) i 0 ≡ cond (apart_at i b) (names_against a b) 0
          asked b false e = (λ t. cond (e t) i 0) ∙ sym (ap (λ p. cond p (names_against a b) 0) e)
          asked b true e = (λ t. cond (e t) i 0) ∙ sym (ap (λ p. cond p (names_against a b) 0) e ∙ against b e ∙ (λ t. cond (is_some (here t) && is_some (slice_get b.looks i)) (i + 1) i))

      count-here : (o : Option Look) → slice_get r i ≡ o → count_from g i (node i) (slice_get r i) ≡ greatest (map (exactly i) others)
      count-here None e = ap (count_from g i (node i)) e ∙ count-ends e
      count-here (Some x) e = ap (count_from g i (node i)) e ∙ count-goes x e

    -- over all places it needs what it needs against each
    all-places : (b : Reach) → greatest (map (λ i. cond (apart_at i b) (names_against a b) 0) (range_with_len 0 (length r + 1))) ≡ names_against a b
    all-places b = by (first_difference r b.looks) refl
      where
        by : (d : Option ℕ) → first_difference r b.looks ≡ d → greatest (map (λ i. cond (apart_at i b) (names_against a b) 0) (range_with_len 0 (length r + 1))) ≡ names_against a b
        by None e =
            greatest-same _ (λ i. 0) (λ i. ap (λ d. cond (is_place i d) (names_against a b) 0) e) (range_with_len 0 (length r + 1))
            ∙ greatest-zero (range_with_len 0 (length r + 1))
            ∙ sym (ap (λ d. option_map_or (λ k. cond (both_go_on k a b) (k + 1) k) d 0) e)
        by (Some d) e =
            let most = within-both r b.looks d e in
            greatest-same _ (λ i. cond (nat_eq d i) (names_against a b) 0) (λ i. ap (λ t. cond (is_place i t) (names_against a b) 0) e) (range_with_len 0 (length r + 1))
            ∙ greatest-at d (names_against a b) 0 (length r + 1) (omega arith) (omega (arith, most))

    pub count-needed : (needs_on g (way_of steps a)).count ≡ names_needed reaches a
    count-needed =
        ap greatest (enumerated-range (count_at g) (stop_at steps group r) 0 (length r + 1)
        ∙ map-range-same _ (λ i. greatest (map (exactly i) others)) 0 (length r + 1) (λ i l u. count-here i (omega arith) (slice_get r i) refl))
        ∙ greatest-swap (λ i b. cond (apart_at i b) (names_against a b) 0) (range_with_len 0 (length r + 1)) others
        ∙ greatest-same _ (names_against a) all-places others

    module _ (i : ℕ) (x : Look) (here : slice_get r i ≡ Some x) (within : i ≤ length r) where
      -- another shows there a name that passes
      abbrev shows : (Look → Bool) → Reach → Bool
      shows V b = apart_at i b && option_map_or V (slice_get b.looks i) false

      in-form : (V : Look → Bool) → ((y : Look) → V y ≡ true → same_look x y ≡ false) → c ≡ true
          → list_any (λ b. in_one_group (Some group) b.group && passes (λ d o. d && option_map_or V o false) i b) reaches ≡ list_any (shows V) others
      in-form V apart cited =
          any-same-all (λ b. in_one_group (Some group) b.group ≡ true → b.by_cite ≡ c) _ (λ b. in_one_group (Some group) b.group && shows V b) (λ b h. by b h (in_one_group (Some group) b.group) refl) reaches alike
          ∙ sym (any-filter (shows V) (λ b. in_one_group (Some group) b.group) reaches)
        where
          test : (s : Bool) (o : Option Look) → (s && option_map_or V o false) ≡ ((s && not (option_eq same_look (Some x) o)) && option_map_or V o false)
          test true None = refl
          test false o = refl
          test true (Some y) = passing (V y) refl
            where
              passing : (v : Bool) → V y ≡ v → V y ≡ (not (same_look x y) && V y)
              passing true e = sym (ap (λ t. not t && V y) (apart y e))
              passing false e = e ∙ sym (ap (λ t. not (same_look x y) && t) e ∙ and-false (not (same_look x y)))

          by : (b : Reach) → (in_one_group (Some group) b.group ≡ true → b.by_cite ≡ c) → (t : Bool) → in_one_group (Some group) b.group ≡ t
              → (in_one_group (Some group) b.group && passes (λ d o. d && option_map_or V o false) i b) ≡ (in_one_group (Some group) b.group && shows V b)
          by b h false e = (λ t. e t && passes (λ d o. d && option_map_or V o false) i b) ∙ sym (λ t. e t && shows V b)
          by b h true e =
              ap (λ d. in_one_group (Some group) b.group && (same_looks (take i r) (take i b.looks) && (d && option_map_or V (slice_get b.looks i) false))) (h e ∙ cited)
              ∙ ap (λ t. in_one_group (Some group) b.group && t)
              (test (same_looks (take i r) (take i b.looks)) (slice_get b.looks i)
              ∙ ap (λ t. t && option_map_or V (slice_get b.looks i) false) (sym (differ i within x here b)))

      namesake : (y : Look) → is_namesake x y ≡ true → same_look x y ≡ false
      namesake y e = by (bytes_eq x.name y.name) (same_look x y) refl e
        where
          by : (f s : Bool) → same_look x y ≡ s → (f && not s) ≡ true → same_look x y ≡ false
          by f false p q = p
          by true true p q = cc
          by false true p q = cc

      namesake-too : (y : Look) → (is_namesake x y && same_initials x y) ≡ true → same_look x y ≡ false
      namesake-too y e = namesake y (first (is_namesake x y) (same_initials x y) e)
        where
          first : (p q : Bool) → (p && q) ≡ true → p ≡ true
          first true q e = refl
          first false q e = e

      form-cited : c ≡ true → rival_form g.beside (node i) x ≡ greatest_form (map (form_against i a) others)
      form-cited cited =
          (λ t. form_by (has_given x) (family t) (initials t))
          ∙ sym (greatest-form-asked (has_given x) (shows (is_namesake x)) (shows (λ y. is_namesake x y && same_initials x y)) (λ b. implied (apart_at i b) (slice_get b.looks i)) others)
          ∙ sym (ap greatest_form (same-forms others))
        where
          family : is_other_held x (held_for g.beside (by_family (node i) x)) ≡ list_any (shows (is_namesake x)) others
          family =
              known.beside.others (by_family (node i) x) x
              ∙ shown-any _ (λ d o. d && option_map_or (is_namesake x) o false) i within (λ d m o. at-family (node i) m x d o)
              ∙ in-form (is_namesake x) namesake cited

          initials : is_other_held x (held_for g.beside (by_initials (node i) x)) ≡ list_any (shows (λ y. is_namesake x y && same_initials x y)) others
          initials =
              known.beside.others (by_initials (node i) x) x
              ∙ shown-any _ (λ d o. d && option_map_or (λ y. is_namesake x y && same_initials x y) o false) i within (λ d m o. at-initials (node i) m x d o)
              ∙ in-form (λ y. is_namesake x y && same_initials x y) namesake-too cited

          implied : (p : Bool) (o : Option Look) → (p && option_map_or (λ y. is_namesake x y && same_initials x y) o false) ≡ true → (p && option_map_or (is_namesake x) o false) ≡ true
          implied true None e = e
          implied false o e = e
          implied true (Some y) e = by (is_namesake x y) (same_initials x y) e
            where
              by : (p q : Bool) → (p && q) ≡ true → p ≡ true
              by true q e = refl
              by false q e = e

          beside : (p : Bool) (o : Option Look)
              → cond (true && p) (form_beside (Some x) o) DisambiguatedNameForm.Short
              ≡ form_by (has_given x) (p && option_map_or (is_namesake x) o false) (p && option_map_or (λ y. is_namesake x y && same_initials x y) o false)
          beside false o = short (has_given x)
            where
              short : (given : Bool) → DisambiguatedNameForm.Short ≡ form_by given false false
              short true = refl
              short false = refl
          beside true None = short (has_given x)
            where
              short : (given : Bool) → DisambiguatedNameForm.Short ≡ form_by given false false
              short true = refl
              short false = refl
          beside true (Some y) = needed-two x y

          one : (b : Reach) → form_against i a b ≡ form_by (has_given x) (shows (is_namesake x) b) (shows (λ y. is_namesake x y && same_initials x y) b)
          one b =
              (λ t. cond (cited t && apart_at i b) (form_beside (here t) (slice_get b.looks i)) DisambiguatedNameForm.Short) ∙ beside (apart_at i b) (slice_get b.looks i)

          same-forms : (bs : List Reach) → map (form_against i a) bs
              ≡ map (λ b. form_by (has_given x) (shows (is_namesake x) b) (shows (λ y. is_namesake x y && same_initials x y) b)) bs
          same-forms [] = refl
          same-forms (b ∷ bs) = λ t. one b t ∷ same-forms bs t

      form-uncited : c ≡ false → DisambiguatedNameForm.Short ≡ greatest_form (map (form_against i a) others)
      form-uncited plain = sym (ap greatest_form (all-short others) ∙ greatest-short others)
        where
          all-short : (bs : List Reach) → map (form_against i a) bs ≡ map (λ b. DisambiguatedNameForm.Short) bs
          all-short [] = refl
          all-short (b ∷ bs) = λ t. cond (plain t && apart_at i b) (form_beside (slice_get r i) (slice_get b.looks i)) DisambiguatedNameForm.Short ∷ all-short bs t

      form-here : (d : Bool) → c ≡ d → forms_from g c (node i) (Some x) ≡ form_needed reaches a i ∷ []
      form-here true e = ap (λ d. cond d (rival_form g.beside (node i) x) DisambiguatedNameForm.Short ∷ []) e ∙ ap (λ f. f ∷ []) (form-cited e)
      form-here false e = ap (λ d. cond d (rival_form g.beside (node i) x) DisambiguatedNameForm.Short ∷ []) e ∙ ap (λ f. f ∷ []) (form-uncited e)

    form-at : (i : ℕ) → i < length r → forms_from g c (node i) (slice_get r i) ≡ form_needed reaches a i ∷ []
    form-at i h =
        let x = at r i h in
        ap (forms_from g c (node i)) x.there ∙ form-here i x.member x.there (omega arith) c refl

    pub forms-needed : (needs_on g (way_of steps a)).forms ≡ map (form_needed reaches a) (range_with_len 0 (length r))
    forms-needed =
        flat_map-map (forms_at g c) (stop_at steps group r) (range_with_len 0 (length r + 1))
        ∙ ap (λ n. flat_map (λ i. forms_at g c (stop_at steps group r i)) (range_with_len 0 n)) (add-one (length r))
        ∙ flat-range (λ i. forms_at g c (stop_at steps group r i)) (form_needed reaches a) 0 (length r) (λ i l u. form-at i (omega arith))
        (λ i e. ap (forms_from g c (node i)) (slice_get_past r i (omega arith)))

    -- so does a way that is asked for all of its stops
    pub needs-found : needs_on g (way_of steps a) ≡ needs reaches a
    needs-found = λ t. record { count = count-needed t; forms = forms-needed t }
