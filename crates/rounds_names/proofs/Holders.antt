-- Those who are held for one name, as one more comes in.
use mathlib.Core.Bool.{or-true, or-false}
use Rattle.std.proofs.Common.{◌≡◌, ◌+◌, ◌<◌, ℕ, append-nil, append_assoc, get_or, length, take, Bool, true, false, cond, not, ◌&&◌, ◌||◌, None, Some, slice_get, List, [], ◌∷◌, ◌++◌, refl, ap, sym, subst, ◌∙◌, arith}
use Rattle.std.specs.Prelude.{Vec}
use Rattle.std.specs.BTreeMap.{BTreeMap, get, is_at}
use Rattle.std.specs.Map.{lookup}
use Rattle.std.specs.Option.{option_map_or}
use Rattle.std.specs.List.{flat_map}
use Rattle.std.specs.declared.alloc.Global.{Global}
use Rattle.std.proofs.lemmas.Grind.{flat_map-append}
use Rattle.std.proofs.lemmas.List.{take_more}
use Rattle.std.proofs.lemmas.List.Folds.{list_any-append, list_any_at}
use Rattle.std.proofs.lemmas.Option.{get_or_from_slice_get}
use Rattle.value_sources.specs.EqualEntries.{persons_find}
use Rattle.value_sources.specs.Finds.{Finds, and-true, both, options_find, texts_find}
use Rattle.value_sources.specs.declared.entry.Person.{Person}
use Rattle.driver_passes.specs.Renders.{Place}
use Rattle.rounds_names.specs.ByName.{AreByName, Grows, IsTold, holders, is_other, is_other_held, is_other_named, name_cmp, names_of, same_name, shown_by_all, shown_by}
use Rattle.rounds_names.specs.Persons.{same_person}
use Rattle.rounds_names.specs.Steps.{same_place}
use Rattle.rounds_names.specs.declared.by_name.Holder.{Holder}
use Rattle.rounds_names.specs.declared.by_name.SharedName.{SharedName}
use Rattle.rounds_names.specs.declared.named_cite.NamedCite.{NamedCite}
use Rattle.rounds_names.proofs.Apart.{places_find}

names_find : Finds same_name
names_find = record {
  equal = λ a b e. let p = both _ _ e in
      λ i. record { name = texts_find.equal a.name b.name p.0 i; initials = (options_find texts_find).equal a.initials b.initials p.1 i };
  self = λ a. and-true _ _ (texts_find.self a.name) ((options_find texts_find).self a.initials);
}

names-differ : (a b : SharedName) → same_name a b ≡ false → same_name b a ≡ false
names-differ a b e = by (same_name b a) refl
  where
    by : (c : Bool) → same_name b a ≡ c → c ≡ false
    by true h = let same : b ≡ a = names_find.equal b a h in sym (names_find.self b) ∙ ap (λ n. same_name n b) same ∙ e
    by false h = refl

module _ (hs : List Holder) (k : ℕ) (h : Holder) (within : k < length hs) (here : h ≡ get_or hs k h) where
  -- a holder answers for all others who stand elsewhere
  answers : (p : Person) (x : Place) → same_person p h.person ≡ false → same_place x h.place ≡ false → is_other_held p x hs ≡ true
  answers p x s t = list_any_at (is_other p x) hs k h within (ap (is_other p x) (sym here) ∙ (λ i. not (s i) && not (t i)))

  -- elsewhere it is told of whichever person
  told-elsewhere : (x : Place) (q : Person) → same_place x h.place ≡ false → (same_person h.person q || is_other_held h.person x hs) ≡ true
      → (p : Person) → same_person p q ≡ false → is_other_held p x hs ≡ true
  told-elsewhere x q t e p apart = by (same_person p h.person) refl
    where
      by : (b : Bool) → same_person p h.person ≡ b → is_other_held p x hs ≡ true
      by true s =
          let same : p ≡ h.person = persons_find.equal p h.person s in
          let there : same_person h.person q ≡ false = ap (λ r. same_person r q) (sym same) ∙ apart in
          subst (λ r. is_other_held r x hs ≡ true) (sym same) (ap (λ b. b || is_other_held h.person x hs) (sym there) ∙ e)
      by false s = answers p x s t

  module _ (x : Place) (q : Person) (t : same_place x h.place ≡ false) where
    pub told-same : same_person h.person q ≡ true → (p : Person) → same_person p q ≡ false → is_other_held p x hs ≡ true
    told-same e = told-elsewhere x q t (ap (λ b. b || is_other_held h.person x hs) e)

    pub told-other : is_other_held h.person x hs ≡ true → (p : Person) → same_person p q ≡ false → is_other_held p x hs ≡ true
    told-other e = told-elsewhere x q t (ap (λ b. same_person h.person q || b) e ∙ or-true (same_person h.person q))

module _ (hs : List Holder) (h : Holder) (first : slice_get hs 0 ≡ Some h) where
  within-first : 0 < length hs
  within-first = by hs first
    where
      by : (xs : List Holder) → slice_get xs 0 ≡ Some h → 0 < length xs
      by [] e = cc
      by (x ∷ xs) e = omega arith

  first-answers : (p : Person) (x : Place) → same_person p h.person ≡ false → same_place x h.place ≡ false → is_other_held p x hs ≡ true
  first-answers = answers hs 0 h within-first (sym (get_or_from_slice_get hs 0 h h first))

  -- what the first holder doesn't answer is told of its person, and at its place
  pub told : (q : Person) (place : Place)
      → (same_person h.person q ≡ false → (x : Place) → same_place x place ≡ false → is_other_held h.person x hs ≡ true)
      → (same_place h.place place ≡ false → (p : Person) → same_person p q ≡ false → is_other_held p h.place hs ≡ true)
      → IsTold q place hs
  told q place without elsewhere = λ p x s t. by p x s t (same_person p h.person) (same_place x h.place) refl refl
    where
      by : (p : Person) (x : Place) → same_person p q ≡ false → same_place x place ≡ false
          → (b c : Bool) → same_person p h.person ≡ b → same_place x h.place ≡ c → is_other_held p x hs ≡ true
      by p x s t true c e f =
          let same : p ≡ h.person = persons_find.equal p h.person e in
          subst (λ r. is_other_held r x hs ≡ true) (sym same) (without (ap (λ r. same_person r q) (sym same) ∙ s) x t)
      by p x s t false true e f =
          let same : x ≡ h.place = places_find.equal x h.place f in
          subst (λ r. is_other_held p r hs ≡ true) (sym same) (elsewhere (ap (λ r. same_place r place) (sym same) ∙ t) p s)
      by p x s t false false e f = first-answers p x e f

module _ (q : Person) (place : Place) (hs : List Holder) where
  abbrev one : Holder
  one = record { person = q; place = place }

  pub grows-told : IsTold q place hs → Grows q place hs hs
  grows-told h = λ p x. by p x (same_person p q) (same_place x place) refl refl
    where
      by : (p : Person) (x : Place) (b c : Bool) → same_person p q ≡ b → same_place x place ≡ c → is_other_held p x hs ≡ (is_other_held p x hs || is_other p x one)
      by p x true c e f = sym (ap (λ d. is_other_held p x hs || (not d && not (same_place x place))) e ∙ or-false (is_other_held p x hs))
      by p x false true e f = sym ((λ i. is_other_held p x hs || (not (e i) && not (f i))) ∙ or-false (is_other_held p x hs))
      by p x false false e f = h p x e f ∙ sym (ap (λ d. d || is_other p x one) (h p x e f))

module _ (q : Person) (place : Place) (key : SharedName) (old new : BTreeMap SharedName (Vec Holder Global)) (hs : List Holder) where
  -- one person more, by a name
  pub by-name-more : Grows q place (holders old key) hs → ((j : SharedName) → holders new j ≡ cond (same_name key j) hs (holders old j))
      → (so_far : List (SharedName × Holder)) → AreByName old so_far → AreByName new (so_far ++ (key, record { person = q; place = place }) ∷ [])
  by-name-more grows is so_far h = record { tells = λ name p x. by name p x (same_name key name) refl }
    where
      by : (name : SharedName) (p : Person) (x : Place) (b : Bool) → same_name key name ≡ b
          → is_other_held p x (holders new name) ≡ is_other_named name p x (so_far ++ (key, record { person = q; place = place }) ∷ [])
      by name p x b e =
          ap (is_other_held p x) (is name ∙ ap (λ c. cond c hs (holders old name)) e)
          ∙ after b e
          ∙ sym (list_any-append _ so_far ((key, record { person = q; place = place }) ∷ []))
        where
          added : Bool
          added = is_other p x (record { person = q; place = place })

          after : (c : Bool) → same_name key name ≡ c
              → is_other_held p x (cond c hs (holders old name)) ≡ (is_other_named name p x so_far || ((same_name name key && added) || false))
          after true s =
              let same : key ≡ name = names_find.equal key name s in
              let own : same_name name key ≡ true = ap (λ n. same_name n key) (sym same) ∙ names_find.self key in
              grows p x ∙ (λ i. is_other_held p x (holders old (same i)) || added)
              ∙ ap (λ c. c || added) (h.tells name p x)
              ∙ ap (λ c. is_other_named name p x so_far || c) (sym (or-false _ ∙ ap (λ c. c && added) own))
          after false s =
              h.tells name p x
              ∙ sym (ap (λ c. is_other_named name p x so_far || ((c && added) || false)) (names-differ key name s) ∙ or-false _)

-- holders that were taken out and put back as these
pub put-back : (new mid old : BTreeMap SharedName (Vec Holder Global)) (name : SharedName) (v : Vec Holder Global)
    → ((q : SharedName) → get name_cmp new q ≡ cond (same_name name q) (Some v) (get name_cmp mid q))
    → ((q : SharedName) → holders mid q ≡ cond (same_name name q) [] (holders old q))
    → (q : SharedName) → holders new q ≡ cond (same_name name q) v.items (holders old q)
put-back new mid old name v at rest q = ap (λ o. option_map_or (λ w. w.items) o []) (at q) ∙ by (same_name name q) (rest q)
  where
    by : (b : Bool) → holders mid q ≡ cond b [] (holders old q) → option_map_or (λ w. w.items) (cond b (Some v) (get name_cmp mid q)) [] ≡ cond b v.items (holders old q)
    by true e = refl
    by false e = e

-- a name whose holders were taken out
pub taken-out : (new old : BTreeMap SharedName (Vec Holder Global)) (name : SharedName)
    → ((q : SharedName) → get name_cmp new q ≡ cond (same_name name q) None (get name_cmp old q))
    → (q : SharedName) → holders new q ≡ cond (same_name name q) [] (holders old q)
taken-out new old name at q = ap (λ o. option_map_or (λ w. w.items) o []) (at q) ∙ by (same_name name q)
  where
    by : (b : Bool) → option_map_or (λ w. w.items) (cond b None (get name_cmp old q)) [] ≡ cond b [] (holders old q)
    by true = refl
    by false = refl

pub none-by-name : (m : BTreeMap SharedName (Vec Holder Global)) → m.entries ≡ [] → AreByName m []
none-by-name m e = record { tells = λ name p place. ap (λ es. is_other_held p place (option_map_or (λ w. w.items) (lookup (is_at (name_cmp name)) es) [])) e }

-- the persons of one more member
pub shown-next : (group : List NamedCite) (k : ℕ) (x : NamedCite) → k < length group → x ≡ get_or group k x → shown_by_all (take k group) ++ shown_by x ≡ shown_by_all (take (k + 1) group)
shown-next group k x within here =
    ap (λ l. shown_by_all (take k group) ++ l) (sym (append-nil (shown_by x))) ∙ sym (flat_map-append shown_by (take k group) (x ∷ []))
    ∙ ap shown_by_all (ap (λ y. take k group ++ y ∷ []) here ∙ sym (take_more group k x within))

-- one more person of a member
pub persons-next : (so_far : List (SharedName × Holder)) (place : Place) (ps : List Person) (k : ℕ) (p : Person) → k < length ps → p ≡ get_or ps k p
    → (so_far ++ flat_map (names_of place) (take k ps)) ++ names_of place p ≡ so_far ++ flat_map (names_of place) (take (k + 1) ps)
persons-next so_far place ps k p within here =
    append_assoc so_far (flat_map (names_of place) (take k ps)) (names_of place p)
    ∙ ap (λ l. so_far ++ l) (sym (flat_map-append (names_of place) (take k ps) (p ∷ [])) ∙ ap (flat_map (names_of place)) (ap (λ y. take k ps ++ y ∷ []) here ∙ sym (take_more ps k p within)))
