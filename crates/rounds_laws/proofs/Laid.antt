-- Cites that are laid one behind another, block after block.
use Rattle.std.proofs.Common.{◌≡◌, ℕ, zero, suc, ◌+◌, ◌≤◌, Bool, true, false, cond, ◌||◌, List, [], ◌∷◌, ◌++◌, Option, Some, None, map, refl, ap, sym, subst, ◌∙◌, true≢false, arith, add-one}
use Rattle.std.specs.Prelude.{filter, is_some, option_and_then, option_map, slice_get}
use Rattle.std.specs.List.{enumerate_from, flat_map}
use Rattle.std.proofs.lemmas.Bool.{or_left, or_right}
use Rattle.rounds_grouping.specs.NumberLaws.{override_at}
use Rattle.driver_entries.specs.Entries.{is_in}
use Rattle.driver_entries.specs.Laws.{NoTwoEqual}
use Rattle.driver_entries.proofs.Distinct.{is_in-distinct}
use Rattle.driver_entries.proofs.Once.{NoTwoEqual-distinct}
use Rattle.rounds_grouping.specs.BlockKeys.{BlockKey, alone, key_of, named, same_key}
use Rattle.rounds_grouping.specs.Blocks.{block, block_index, block_keys, in_block, with_block}
use Rattle.rounds_grouping.proofs.KeyLaws.{equal, key_laws}
use Rattle.driver_passes.specs.Renders.{ItemRender}
use Rattle.value_trees.specs.Tree.{find_elem, has_names}
use Rattle.value_trees.specs.declared.elem.Elem.{Elem}
use Rattle.rounds_laws.specs.BlockLaws.{NextIsOfBlock, block_at, names_at}

none-next : {X : Type 0} (xs : List X) (k : ℕ) → slice_get xs k ≡ None → slice_get xs (suc k) ≡ None
none-next [] k h = refl
none-next (x ∷ xs) zero h = cc
none-next (x ∷ xs) (suc k) h = none-next xs k h

-- the names of a block
abbrev names_in : BlockKey → Option Elem
names_in (named n) = Some n
names_in (alone k) = None

key-named : (key : BlockKey) (n : Elem) → names_in key ≡ Some n → key ≡ named n
key-named (named m) n e = let f : m ≡ n = cc in ap named f
key-named (alone k) n e = cc

-- some member, and those behind it
pub record NonEmpty {X : Type 0} (xs : List X) : Type 0 where
  pub first : X
  pub rest : List X
  pub is : xs ≡ first ∷ rest

module _ {E P : Type 0} where
  abbrev names : ItemRender E P → Option Elem
  names c = find_elem has_names c.rendered

  names-of-key : (k : ℕ) (c : ItemRender E P) → names c ≡ names_in (key_of k c)
  names-of-key k c = by (find_elem has_names c.rendered)
    where
      by : (o : Option Elem) → o ≡ names_in (elim o [ None ↦ alone k | Some found ↦ named found ])
      by None = refl
      by (Some n) = refl

  place-alone : (k : ℕ) (c : ItemRender E P) (j : ℕ) → key_of k c ≡ alone j → k ≡ j
  place-alone k c j = by (find_elem has_names c.rendered)
    where
      by : (o : Option Elem) → elim o [ None ↦ alone k | Some found ↦ named found ] ≡ alone j → k ≡ j
      by None e = cc
      by (Some n) e = cc

  -- the members of a block, at places from this one on
  abbrev IsOf : BlockKey → ℕ → List (ℕ × ItemRender E P) → Type 0
  IsOf key low [] = Unit {0}
  IsOf key low (w ∷ ws) = (key_of w.0 w.1 ≡ key) × (low ≤ w.0) × IsOf key (w.0 + 1) ws

  is-of : (key : BlockKey) (low b : ℕ) (xs : List (ItemRender E P)) → low ≤ b → IsOf key low (filter (λ p. same_key key (key_of p.0 p.1)) (enumerate_from b xs))
  is-of key low b [] h = tt
  is-of key low b (x ∷ xs) h = by (same_key key (key_of b x)) refl (is-of key (b + 1) (b + 1) xs (omega arith)) (is-of key low (b + 1) xs (omega (arith, h)))
    where
      rest : List (ℕ × ItemRender E P)
      rest = filter (λ p. same_key key (key_of p.0 p.1)) (enumerate_from (b + 1) xs)

      by : (t : Bool) → same_key key (key_of b x) ≡ t → IsOf key (b + 1) rest → IsOf key low rest → IsOf key low (cond t ((b, x) ∷ rest) rest)
      by true e more other = (sym (equal key (key_of b x) e), h, more)
      by false e more other = other

  found : (key : BlockKey) (ws : List (ℕ × ItemRender E P)) → is_in same_key key (map (λ p. key_of p.0 p.1) ws) ≡ true → NonEmpty (filter (λ p. same_key key (key_of p.0 p.1)) ws)
  found key [] h = absurd (true≢false (sym h))
  found key (w ∷ ws) h = by (same_key key (key_of w.0 w.1)) h (found key ws)
    where
      rest : List (ℕ × ItemRender E P)
      rest = filter (λ p. same_key key (key_of p.0 p.1)) ws

      by : (t : Bool) → t || is_in same_key key (map (λ p. key_of p.0 p.1) ws) ≡ true → (is_in same_key key (map (λ p. key_of p.0 p.1) ws) ≡ true → NonEmpty rest) → NonEmpty (cond t (w ∷ rest) rest)
      by true h more = record { first = w; rest = rest; is = refl }
      by false h more = more h

module _ {E P : Type 0} (delimiter : Option (List ℕ)) where
  -- how a cite stands behind the one before it, if there is one
  pub record Follows (previous : Option (ItemRender E P)) (c : ItemRender E P) : Type 0 where
    pub same : (n : Elem) → option_and_then names previous ≡ Some n → names c ≡ Some n → (c.delimiter_override ≡ delimiter) × (Some c.group ≡ option_map (λ d. d.group) previous)
    pub other : ((n : Elem) → option_and_then names previous ≡ Some n → names c ≡ Some n → ⊥) → c.delimiter_override ≡ None
    pub index : is_some c.group ≡ is_some (names c)

  -- each behind the one before
  abbrev pub Laid : Option (ItemRender E P) → List (ItemRender E P) → Type 0
  Laid previous [] = Unit {0}
  Laid previous (c ∷ cs) = Follows previous c × Laid (Some c) cs

  abbrev last_of : Option (ItemRender E P) → List (ItemRender E P) → Option (ItemRender E P)
  last_of previous [] = previous
  last_of previous (c ∷ cs) = last_of (Some c) cs

  laid-append : (previous : Option (ItemRender E P)) (xs ys : List (ItemRender E P)) → Laid previous xs → Laid (last_of previous xs) ys → Laid previous (xs ++ ys)
  laid-append previous [] ys l m = m
  laid-append previous (x ∷ xs) ys l m = (l.0, laid-append (Some x) xs ys l.1 m)

  next-at : (previous : Option (ItemRender E P)) (xs : List (ItemRender E P)) → Laid previous xs → (k : ℕ) (x y : ItemRender E P) → slice_get xs k ≡ Some x → slice_get xs (suc k) ≡ Some y → Follows (Some x) y
  next-at previous [] l k x y p q = cc
  next-at previous (a ∷ []) l zero x y p q = cc
  next-at previous (a ∷ b ∷ xs) l zero x y p q =
      let e : a ≡ x = cc in
      let f : b ≡ y = cc in
      subst (λ z. Follows (Some z) y) e (subst (λ z. Follows (Some a) z) f l.1.0)
  next-at previous (a ∷ xs) l (suc k) x y p q = next-at (Some a) xs l.1 k x y p q

  indexed : (previous : Option (ItemRender E P)) (xs : List (ItemRender E P)) → Laid previous xs → (k : ℕ) → is_some (block_at xs k) ≡ is_some (names_at xs k)
  indexed previous [] l k = refl
  indexed previous (x ∷ xs) l zero = l.0.index
  indexed previous (x ∷ xs) l (suc k) = indexed (Some x) xs l.1 k

  module _ (xs : List (ItemRender E P)) (l : Laid None xs) where
    pub laid-first : override_at xs 0 ≡ None
    laid-first = by xs l
      where
        by : (xs : List (ItemRender E P)) → Laid None xs → override_at xs 0 ≡ None
        by [] l = refl
        by (x ∷ xs) l = l.0.other (λ n e f. cc)

    pub laid-index : (k : ℕ) → is_some (block_at xs k) ≡ is_some (names_at xs k)
    laid-index = indexed None xs l

    pub laid-same : (k : ℕ) → NextIsOfBlock xs k → (override_at xs (k + 1) ≡ delimiter) × (block_at xs (k + 1) ≡ block_at xs k)
    laid-same k h = by (slice_get xs k) refl (slice_get xs (suc k)) refl
      where
        by : (o : Option (ItemRender E P)) → slice_get xs k ≡ o → (q : Option (ItemRender E P)) → slice_get xs (suc k) ≡ q → (override_at xs (k + 1) ≡ delimiter) × (block_at xs (k + 1) ≡ block_at xs k)
        by None e q f = let isnt : None ≡ Some h.names = sym (ap (option_and_then names) e) ∙ h.here in cc
        by (Some x) e None f = let isnt : None ≡ Some h.names = sym (ap (option_and_then names) f) ∙ sym (ap (names_at xs) (add-one k)) ∙ h.next in cc
        by (Some x) e (Some y) f =
            let s = (next-at None xs l k x y e f).same h.names (sym (ap (option_and_then names) e) ∙ h.here) (sym (ap (option_and_then names) f) ∙ sym (ap (names_at xs) (add-one k)) ∙ h.next) in
            let group : y.group ≡ x.group = let g : Some y.group ≡ Some x.group = s.1 in cc in (
              ap (override_at xs) (add-one k) ∙ ap (option_and_then (λ c. c.delimiter_override)) f ∙ s.0,
              ap (block_at xs) (add-one k) ∙ ap (option_and_then (λ c. c.group)) f ∙ group ∙ sym (ap (option_and_then (λ c. c.group)) e),
            )

    pub laid-other : (k : ℕ) → ¬ NextIsOfBlock xs k → override_at xs (k + 1) ≡ None
    laid-other k isnt = ap (override_at xs) (add-one k) ∙ by (slice_get xs k) refl (slice_get xs (suc k)) refl
      where
        by : (o : Option (ItemRender E P)) → slice_get xs k ≡ o → (q : Option (ItemRender E P)) → slice_get xs (suc k) ≡ q → override_at xs (suc k) ≡ None
        by o e None f = ap (option_and_then (λ c. c.delimiter_override)) f
        by None e (Some y) f = let none : Some y ≡ None = sym f ∙ none-next xs k e in cc
        by (Some x) e (Some y) f =
            ap (option_and_then (λ c. c.delimiter_override)) f
            ∙ (next-at None xs l k x y e f).other (λ n p q. isnt (record { names = n; here = ap (option_and_then names) e ∙ p; next = ap (names_at xs) (add-one k) ∙ ap (option_and_then names) f ∙ q }))

  module _ (cites : List (ItemRender E P)) where
    abbrev index : BlockKey → Option ℕ
    index = block_index cites

    abbrev pub laid_block : BlockKey → List (ItemRender E P)
    laid_block key = in_block delimiter (index key) (map (λ p. p.1) (block cites key))

    index-is : (key : BlockKey) → is_some (index key) ≡ is_some (names_in key)
    index-is (named n) = refl
    index-is (alone k) = refl

    -- keys of which no two are equal, and each has a block
    abbrev pub AreKept : List BlockKey → Type 0
    AreKept [] = Unit {0}
    AreKept (k ∷ ks) = NonEmpty (block cites k) × (is_in same_key k ks ≡ false) × AreKept ks

    kept-of : (ks : List BlockKey) → NoTwoEqual same_key ks → ((k : BlockKey) → is_in same_key k ks ≡ true → NonEmpty (block cites k)) → AreKept ks
    kept-of [] once h = tt
    kept-of (k ∷ ks) once h = (
      h k (or_left (same_key k k) (is_in same_key k ks) (key_laws.refl k)),
      once.0,
      kept-of ks once.1 (λ l e. h l (or_right (same_key l k) (is_in same_key l ks) e)),
    )

    pub kept : AreKept (block_keys cites)
    kept =
        let keys : List BlockKey = map (λ p. key_of p.0 p.1) (enumerate_from 0 cites) in
        kept-of (block_keys cites) (NoTwoEqual-distinct same_key key_laws keys)
        (λ k e. found k (enumerate_from 0 cites) (sym (is_in-distinct same_key key_laws k keys) ∙ e))

    -- the first of a block stands behind cites of others
    first-laid : (previous : Option (ItemRender E P)) (key : BlockKey) (w : ℕ × ItemRender E P) → key_of w.0 w.1 ≡ key
        → ((n : Elem) → option_and_then names previous ≡ Some n → key ≡ named n → ⊥) → Follows previous (with_block None (index key) w.1)
    first-laid previous key w of fresh = record {
      same = λ n e f. absurd (fresh n e (key-named key n (sym has ∙ f)));
      other = λ isnt. refl;
      index = index-is key ∙ ap is_some (sym has);
    }
      where
        has : names w.1 ≡ names_in key
        has = names-of-key w.0 w.1 ∙ ap names_in of

    -- the others of a block with names
    rest-laid : (n : Elem) (low : ℕ) (p : ItemRender E P) (ws : List (ℕ × ItemRender E P)) → names p ≡ Some n → p.group ≡ index (named n) → IsOf (named n) low ws
        → Laid (Some p) (map (with_block delimiter (index (named n))) (map (λ w. w.1) ws))
    rest-laid n low p [] has group of = tt
    rest-laid n low p (w ∷ ws) has group of =
        let own : names w.1 ≡ Some n = names-of-key w.0 w.1 ∙ ap names_in of.0 in (
          record {
            same = λ m e f. (refl, ap Some (sym group));
            other = λ isnt. absurd (isnt n has own);
            index = ap is_some (sym own);
          },
          rest-laid n (w.0 + 1) (with_block delimiter (index (named n)) w.1) ws own refl of.2,
        )

    rest-last : (n : Elem) (low : ℕ) (p : ItemRender E P) (ws : List (ℕ × ItemRender E P)) → names p ≡ Some n → IsOf (named n) low ws
        → option_and_then names (last_of (Some p) (map (with_block delimiter (index (named n))) (map (λ w. w.1) ws))) ≡ Some n
    rest-last n low p [] has of = has
    rest-last n low p (w ∷ ws) has of = rest-last n (w.0 + 1) (with_block delimiter (index (named n)) w.1) ws (names-of-key w.0 w.1 ∙ ap names_in of.0) of.2

    -- a whole block
    record IsBlockLaid (previous : Option (ItemRender E P)) (key : BlockKey) (cs : List (ItemRender E P)) : Type 0 where
      laid : Laid previous cs
      last : option_and_then names (last_of previous cs) ≡ names_in key

    block-laid : (previous : Option (ItemRender E P)) (key : BlockKey) (w : ℕ × ItemRender E P) (ws : List (ℕ × ItemRender E P)) → IsOf key 0 (w ∷ ws)
        → ((n : Elem) → option_and_then names previous ≡ Some n → key ≡ named n → ⊥) → IsBlockLaid previous key (in_block delimiter (index key) (w.1 ∷ map (λ p. p.1) ws))
    block-laid previous (named n) w ws of fresh =
        let own : names w.1 ≡ Some n = names-of-key w.0 w.1 ∙ ap names_in of.0 in
        let first : ItemRender E P = with_block None (index (named n)) w.1 in
        record {
          laid = (first-laid previous (named n) w of.0 fresh, rest-laid n (w.0 + 1) first ws own refl of.2);
          last = rest-last n (w.0 + 1) first ws own of.2;
        }
    block-laid previous (alone j) w [] of fresh = record {
      laid = (first-laid previous (alone j) w of.0 fresh, tt);
      last = names-of-key w.0 w.1 ∙ ap names_in of.0;
    }
    block-laid previous (alone j) w (v ∷ vs) of fresh =
        let here : w.0 ≡ j = place-alone w.0 w.1 j of.0 in
        let there : v.0 ≡ j = place-alone v.0 v.1 j of.2.0 in
        let behind = of.2.1 in
        absurd (omega (arith, here, there, behind))

    pub blocks-laid : (previous : Option (ItemRender E P)) (ks : List BlockKey) → AreKept ks
        → ((n : Elem) → option_and_then names previous ≡ Some n → is_in same_key (named n) ks ≡ false) → Laid previous (flat_map laid_block ks)
    blocks-laid previous [] are fresh = tt
    blocks-laid previous (k ∷ ks) are fresh =
        laid-append previous (laid_block k) (flat_map laid_block ks) (subst (Laid previous) (sym whole) b.laid) (blocks-laid (last_of previous (laid_block k)) ks are.2 later)
      where
        whole : laid_block k ≡ in_block delimiter (index k) (are.0.first.1 ∷ map (λ p. p.1) are.0.rest)
        whole = ap (λ ws. in_block delimiter (index k) (map (λ p. p.1) ws)) are.0.is

        apart : (n : Elem) → option_and_then names previous ≡ Some n → k ≡ named n → ⊥
        apart n e is =
            true≢false (sym (or_left (same_key (named n) k) (is_in same_key (named n) ks) (subst (λ key. same_key key k ≡ true) is (key_laws.refl k))) ∙ fresh n e)

        b : IsBlockLaid previous k (in_block delimiter (index k) (are.0.first.1 ∷ map (λ p. p.1) are.0.rest))
        b = block-laid previous k are.0.first are.0.rest (subst (IsOf k 0) are.0.is (is-of k 0 0 cites (omega arith))) apart

        later : (n : Elem) → option_and_then names (last_of previous (laid_block k)) ≡ Some n → is_in same_key (named n) ks ≡ false
        later n e =
            let is : k ≡ named n = key-named k n (sym b.last ∙ sym (ap (λ cs. option_and_then names (last_of previous cs)) whole) ∙ e) in
            subst (λ key. is_in same_key key ks ≡ false) is are.1
