-- The keys of members, which they share where they read alike by one person more.
use Rattle.std.proofs.Common.{◌≡◌, ℕ, ◌+◌, ◌<◌, Bool, true, ◌&&◌, Option, Some, List, [], ◌∷◌, ◌++◌, get_or, length, map, replicate, subst, take, arith, refl, ap, sym, ◌∙◌}
use Rattle.std.specs.Prelude.{All, option_map, slice_get, nat_eq}
use Rattle.std.specs.List.{zip}
use Rattle.std.specs.Option.{option_eq}
use Rattle.value_sources.specs.EqualEntries.{persons_find}
use Rattle.value_sources.specs.Finds.{Finds, both, and-true, options_find}
use Rattle.std.specs.Cmp.{nat_eq_equiv}
use Rattle.std.proofs.lemmas.Bool.{eqb-true}
use Rattle.std.proofs.Math.ListN.{length-map}
use Rattle.std.proofs.lemmas.List.{map-append, take_more}
use Rattle.std.proofs.lemmas.List.Elements.{All-map}
use Rattle.std.proofs.lemmas.Option.{slice_get-get_or, slice_get-map}
use Rattle.std.proofs.lemmas.Slice.Zip.{length-zip}
use Rattle.value_styles.specs.declared.style.DisambiguationRule.{DisambiguationRule}
use Rattle.rounds_names.specs.Classes.{AreClasses, alike_by, kept_at}
use Rattle.rounds_names.specs.Persons.{same_person}
use Rattle.rounds_names.specs.contracts.classes.ClassKeyPartialEq.TheImpl as key_eq
use Rattle.rounds_names.specs.declared.classes.ClassKey.{ClassKey}
use Rattle.rounds_names.specs.declared.named_cite.NamedCite.{NamedCite}
use Rattle.rounds_names.proofs.Alike.{alike-more}
use Rattle.rounds_names.proofs.Zipped.{mapped-at, twice, zip-mapped, zip-own}
use Rattle.rounds_names.proofs.Numbers.{AreNumbers, is_listed, number, number-within, numbers-more, numbers-tell, with_key}
use Rattle.rounds_names.proofs.Marking.{same-default, zip-at, zip-long}

abbrev pub same_key : ClassKey → ClassKey → Bool
same_key = (key_eq.ghosts).eq

-- the key of a member with the number of its class
abbrev pub key_of : Option DisambiguationRule → ℕ → NamedCite × ℕ → ClassKey
key_of rule i p = record { class = p.1; person = kept_at rule i p.0.persons }

pub keys_find : Finds same_key
keys_find = record {
  equal = λ a b e. let p = both _ _ e in let class = eqb-true a.class b.class p.0 in let person = (options_find persons_find).equal a.person b.person p.1 in
      λ i. record { class = class i; person = person i };
  self = λ a. and-true _ _ (nat_eq_equiv.refl a.class) ((options_find persons_find).self a.person);
}

-- of members in classes, the keys are the same exactly where one person more reads alike
pub keys-tell : (rule : Option DisambiguationRule) (i : ℕ) (p q : NamedCite × ℕ) → nat_eq p.1 q.1 ≡ alike_by rule i p.0 q.0
    → same_key (key_of rule i p) (key_of rule i q) ≡ alike_by rule (i + 1) p.0 q.0
keys-tell rule i p q h =
    ap (λ b. b && option_eq same_person (kept_at rule i p.0.persons) (kept_at rule i q.0.persons)) h ∙ sym (alike-more rule i p.0.persons q.0.persons)

module _ (rule : Option DisambiguationRule) (i : ℕ) (group : List NamedCite) (cs : List ℕ) where
  abbrev members : List (NamedCite × ℕ)
  members = zip group cs

  -- one key more
  pub keys-more : (k : ℕ) (x : NamedCite) (c n : ℕ) (key : ClassKey) (set new : List ClassKey) (found all : List ℕ) → k < length group → length cs ≡ length group
      → x ≡ get_or group k x → c ≡ get_or cs k 0 → key ≡ key_of rule i (x, c) → n ≡ number same_key set key → new ≡ with_key same_key set key → all ≡ found ++ n ∷ []
      → AreNumbers same_key set (map (key_of rule i) (take k members)) found → AreNumbers same_key new (map (key_of rule i) (take (k + 1) members)) all
  keys-more k x c n key set new found all h long at_x at_c own number_is new_is all_is so_far =
      let within : k < length members = zip-long group cs k h long in
      let here : (x, c) ≡ get_or members k (x, c) = zip-at group cs k x c h long at_x (at_c ∙ same-default cs k 0 c (omega (arith, h, long))) in
      let next : map (key_of rule i) (take (k + 1) members) ≡ map (key_of rule i) (take k members) ++ key ∷ [] =
      ap (map (key_of rule i)) (take_more members k (x, c) within ∙ ap (λ p. take k members ++ p ∷ []) (sym here))
      ∙ map-append (key_of rule i) (take k members) ((x, c) ∷ []) ∙ ap (λ y. map (key_of rule i) (take k members) ++ y ∷ []) (sym own) in
      let made : AreNumbers same_key (with_key same_key set key) (map (key_of rule i) (take k members) ++ key ∷ []) (found ++ number same_key set key ∷ []) =
      numbers-more same_key keys_find set (map (key_of rule i) (take k members)) found key so_far in
      subst (λ l. AreNumbers same_key new (map (key_of rule i) (take (k + 1) members)) l) (sym (all_is ∙ ap (λ m. found ++ m ∷ []) number_is))
      (subst (λ l. AreNumbers same_key new l (found ++ number same_key set key ∷ [])) (sym next)
      (subst (λ l. AreNumbers same_key l (map (key_of rule i) (take k members) ++ key ∷ []) (found ++ number same_key set key ∷ [])) (sym new_is) made))

  module _ (set : List ClassKey) (found : List ℕ) (before : AreClasses rule group i cs) (now : AreNumbers same_key set (map (key_of rule i) members) found) where
    zipped : zip group found ≡ map (λ p. (p.0, number same_key set (key_of rule i p))) members
    zipped = ap (zip group) (now.numbers ∙ twice (number same_key set) (key_of rule i) members) ∙ zip-mapped group cs (λ p. number same_key set (key_of rule i p)) before.long

    key-listed : (a : ℕ) (p : NamedCite × ℕ) → slice_get members a ≡ Some p → is_listed same_key set (key_of rule i p) ≡ true
    key-listed a p e = now.listed a (key_of rule i p) (slice_get-map (key_of rule i) members a ∙ ap (option_map (key_of rule i)) e)

    tell : (a b : ℕ) (u v : NamedCite × ℕ) → slice_get members a ≡ Some u → slice_get members b ≡ Some v
        → nat_eq (number same_key set (key_of rule i u)) (number same_key set (key_of rule i v)) ≡ alike_by rule (i + 1) u.0 v.0
    tell a b u v e g =
        numbers-tell same_key keys_find set (key_of rule i u) (key_of rule i v) (key-listed a u e) (key-listed b v g)
        ∙ keys-tell rule i u v (before.same a b u v e g)

    keys-long : length (map (key_of rule i) members) ≡ length group
    keys-long = length-map members (key_of rule i) ∙ (let n = length-zip group cs in let m = before.long in omega arith)

    -- the numbers of all keys are classes by one person more
    pub next-classes : AreClasses rule group (i + 1) found
    next-classes = record {
      long = ap length now.numbers ∙ length-map (map (key_of rule i) members) (number same_key set) ∙ keys-long;
      below = subst (All (λ c. c < length group)) (sym now.numbers)
          (All-map (λ c. c < length group) (number same_key set) (map (key_of rule i) members)
          (λ k d h.
          let few = now.few in
          let long = keys-long in
          let own = number-within same_key keys_find set (get_or (map (key_of rule i) members) k d)
          (now.listed k (get_or (map (key_of rule i) members) k d) (slice_get-get_or (map (key_of rule i) members) k d h)) in
          omega (arith, own, few, long)));
      same = λ a b p q g h.
          by a b p q (mapped-at _ members a p (ap (λ l. slice_get l a) (sym zipped) ∙ g)) (mapped-at _ members b q (ap (λ l. slice_get l b) (sym zipped) ∙ h));
    }
      where
        by : (a b : ℕ) (p q : NamedCite × ℕ)
            → ((u : NamedCite × ℕ) × (slice_get members a ≡ Some u) × ((u.0, number same_key set (key_of rule i u)) ≡ p))
            → ((v : NamedCite × ℕ) × (slice_get members b ≡ Some v) × ((v.0, number same_key set (key_of rule i v)) ≡ q))
            → nat_eq p.1 q.1 ≡ alike_by rule (i + 1) p.0 q.0
        by a b p q u v =
            (λ j. nat_eq (sym u.2 j).1 (sym v.2 j).1) ∙ tell a b u.0 v.0 u.1 v.1 ∙ (λ j. alike_by rule (i + 1) (u.2 j).0 (v.2 j).0)

-- before any person all are alike
pub first-classes : (rule : Option DisambiguationRule) (group : List NamedCite) (cs : List ℕ) → cs ≡ replicate (length group) 0 → AreClasses rule group 0 cs
first-classes rule group cs e = record {
  long = ap length all ∙ length-map group (λ x. 0);
  below = subst (All (λ c. c < length group)) (sym all) (All-map (λ c. c < length group) (λ x. 0) group (λ k d h. omega (arith, h)));
  same = λ a b p q g h. by a b p q (mapped-at (λ x. (x, 0)) group a p (ap (λ l. slice_get l a) (sym zipped) ∙ g)) (mapped-at (λ x. (x, 0)) group b q (ap (λ l. slice_get l b) (sym zipped) ∙ h));
}
  where
    constant : (xs : List NamedCite) → replicate {A = ℕ} (length xs) 0 ≡ map (λ x. 0) xs
    constant [] = refl
    constant (x ∷ xs) = ap (λ l. 0 ∷ l) (constant xs)

    all : cs ≡ map (λ x. 0) group
    all = e ∙ constant group

    zipped : zip group cs ≡ map (λ x. (x, 0)) group
    zipped = ap (zip group) all ∙ zip-own (λ x. 0) group

    by : (a b : ℕ) (p q : NamedCite × ℕ) → ((u : NamedCite) × (slice_get group a ≡ Some u) × ((u, 0) ≡ p)) → ((v : NamedCite) × (slice_get group b ≡ Some v) × ((v, 0) ≡ q))
        → nat_eq p.1 q.1 ≡ alike_by rule (0) p.0 q.0
    by a b p q u v = λ j. nat_eq (sym u.2 j).1 (sym v.2 j).1
