-- What is known of the mentions of a text, as one more comes in.
use mathlib.Core.Bool.{or-false, or-true}
use Rattle.std.proofs.Common.{◌≡◌, ℕ, ◌+◌, Bool, true, false, cond, not, ◌&&◌, ◌||◌, Some, None, Option, List, [], ◌∷◌, ◌++◌, length, refl, ap, sym, ◌∙◌, true≢false, arith}
use Rattle.std.specs.Prelude.{bytes_eq, filter, find, nat_eq, option_map}
use Rattle.std.specs.BTreeMap.{BTreeMap, is_at}
use Rattle.std.specs.Cmp.Lexicographic.{slice_cmp}
use Rattle.std.specs.List.{enumerate_from, list_any}
use Rattle.std.specs.Map.{lookup}
use Rattle.std.specs.Option.{option_or}
use Rattle.std.specs.Ordering.{nat_cmp}
use Rattle.std.specs.Cmp.{nat_eq_equiv}
use Rattle.std.proofs.lemmas.Bool.{eqb-true}
use Rattle.std.proofs.lemmas.List.Folds.{Any-from_list_any, find-append, list_any-append, list_any_at}
use Rattle.value_sources.specs.Finds.{and-true, both, texts_find}
use Rattle.mentions_groups.specs.Classes.{AreClassesOf, class_at, class_with, does_occur, group_found, is_other, several_in}
use Rattle.mentions_groups.specs.Groups.{first_among, first_with, group_of, has_text, is_asked, is_rival, leader, occurring, text_of}
use Rattle.mentions_groups.specs.declared.classes.Class.{Class}
use Rattle.mentions_groups.specs.declared.mention.Mention.{Mention}

-- the first with a text, once one more is there
first-push : (ps : List (ℕ × Mention)) (k : ℕ) (m : Mention) (t : List ℕ) → first_among (ps ++ (k, m) ∷ []) t ≡ option_or (first_among ps t) (cond (bytes_eq t m.text) (Some k) None)
first-push ps k m t =
    ap (option_map (λ p. p.0)) (find-append (λ p. bytes_eq t p.1.text) ps ((k, m) ∷ [])) ∙ by (find (λ p. bytes_eq t p.1.text) ps) (bytes_eq t m.text)
  where
    by : (o : Option (ℕ × Mention)) (b : Bool) → option_map (λ p. p.0) (option_or o (cond b (Some (k, m)) None)) ≡ option_or (option_map (λ p. p.0) o) (cond b (Some k) None)
    by (Some p) b = refl
    by None false = refl
    by None true = refl

texts-differ : (s t : List ℕ) → bytes_eq s t ≡ false → bytes_eq t s ≡ false
texts-differ s t e = by (bytes_eq t s) refl
  where
    by : (b : Bool) → bytes_eq t s ≡ b → b ≡ false
    by false p = refl
    by true p =
        let same : t ≡ s = texts_find.equal t s p in
        absurd (true≢false (sym (texts_find.self s) ∙ ap (bytes_eq s) (sym same) ∙ e))

first-kept : (k entry : ℕ) (o : Option Class) → Some (class_with k entry o).first ≡ option_or (option_map (λ c. c.first) o) (Some k)
first-kept k entry None = refl
first-kept k entry (Some c) = refl

other-grows : (k e entry : ℕ) (o : Option Class) → is_other e (Some (class_with k entry o)) ≡ (is_other e o || not (nat_eq e entry))
other-grows k e entry None = ap not (nat_eq_equiv.symm entry e)
other-grows k e entry (Some c) = by c.several (nat_eq c.entry e) refl
  where
    by : (s b : Bool) → nat_eq c.entry e ≡ b → ((s || not (nat_eq c.entry entry)) || not (nat_eq c.entry e)) ≡ ((s || not (nat_eq c.entry e)) || not (nat_eq e entry))
    by true b p = refl
    by false false p =
        ap (λ d. not (nat_eq c.entry entry) || not d) p ∙ or-true (not (nat_eq c.entry entry)) ∙ sym (ap (λ d. not d || not (nat_eq e entry)) p)
    by false true p =
        let same : c.entry ≡ e = eqb-true c.entry e p in
        ap (λ d. not (nat_eq c.entry entry) || not d) p ∙ or-false (not (nat_eq c.entry entry)) ∙ ap (λ x. not (nat_eq x entry)) same
        ∙ sym (ap (λ d. not d || not (nat_eq e entry)) p)

module _ (old new : BTreeMap (List ℕ) Class) (k : ℕ) (m : Mention)
    (at : (t : List ℕ) → class_at new t ≡ cond (bytes_eq m.text t) (Some (class_with k m.entry (class_at old m.text))) (class_at old t)) where
  pub one-more : (before : List (ℕ × Mention)) → AreClassesOf old before → AreClassesOf new (before ++ (k, m) ∷ [])
  one-more before h = record {
    first = λ t. ap (option_map (λ c. c.first)) (at t) ∙ first t (bytes_eq m.text t) refl ∙ sym (first-push before k m t);
    other = λ t e. ap (is_other e) (at t) ∙ other t e (bytes_eq m.text t) refl ∙ sym (list_any-append _ before ((k, m) ∷ []));
  }
    where
      first : (t : List ℕ) (b : Bool) → bytes_eq m.text t ≡ b
          → option_map (λ c. c.first) (cond b (Some (class_with k m.entry (class_at old m.text))) (class_at old t))
          ≡ option_or (first_among before t) (cond (bytes_eq t m.text) (Some k) None)
      first t true p =
          let same : m.text ≡ t = texts_find.equal m.text t p in
          let own : bytes_eq t m.text ≡ true = ap (λ s. bytes_eq s m.text) (sym same) ∙ texts_find.self m.text in
          first-kept k m.entry (class_at old m.text)
          ∙ (λ i. option_or (option_map (λ c. c.first) (class_at old (same i))) (Some k))
          ∙ (λ i. option_or (h.first t i) (cond (sym own i) (Some k) None))
      first t false p =
          h.first t ∙ none (first_among before t) ∙ ap (λ b. option_or (first_among before t) (cond b (Some k) None)) (sym (texts-differ m.text t p))
        where
          none : (o : Option ℕ) → o ≡ option_or o None
          none None = refl
          none (Some x) = refl

      other : (t : List ℕ) (e : ℕ) (b : Bool) → bytes_eq m.text t ≡ b
          → is_other e (cond b (Some (class_with k m.entry (class_at old m.text))) (class_at old t))
          ≡ (list_any (λ p. bytes_eq t p.1.text && not (nat_eq e p.1.entry)) before || ((bytes_eq t m.text && not (nat_eq e m.entry)) || false))
      other t e true p =
          let same : m.text ≡ t = texts_find.equal m.text t p in
          let own : bytes_eq t m.text ≡ true = ap (λ s. bytes_eq s m.text) (sym same) ∙ texts_find.self m.text in
          other-grows k e m.entry (class_at old m.text)
          ∙ (λ i. is_other e (class_at old (same i)) || not (nat_eq e m.entry))
          ∙ (λ i. h.other t e i || not (nat_eq e m.entry))
          ∙ ap (λ c. list_any (λ p. bytes_eq t p.1.text && not (nat_eq e p.1.entry)) before || c) (sym (or-false _ ∙ ap (λ c. c && not (nat_eq e m.entry)) own))
      other t e false p =
          h.other t e
          ∙ sym (ap (λ c. list_any (λ p. bytes_eq t p.1.text && not (nat_eq e p.1.entry)) before || ((c && not (nat_eq e m.entry)) || false)) (texts-differ m.text t p) ∙ or-false _)

pub none-yet : (c : BTreeMap (List ℕ) Class) → c.entries ≡ [] → AreClassesOf c []
none-yet c e = record {
  first = λ t. ap (λ es. option_map (λ x. x.first) (lookup (is_at (slice_cmp nat_cmp t)) es)) e;
  other = λ t n. ap (λ es. is_other n (lookup (is_at (slice_cmp nat_cmp t)) es)) e;
}

-- of mentions with their indices
any-indexed : (f : Mention → Bool) (n : ℕ) (ms : List Mention) → list_any (λ p. f p.1) (enumerate_from n ms) ≡ list_any f ms
any-indexed f n [] = refl
any-indexed f n (m ∷ ms) = ap (λ b. f m || b) (any-indexed f (n + 1) ms)

any-occurring : (f : Mention → Bool) (n : ℕ) (ms : List Mention) → list_any (λ p. f p.1) (filter does_occur (enumerate_from n ms)) ≡ list_any f (occurring ms)
any-occurring f n [] = refl
any-occurring f n (m ∷ ms) = by m.occurs (any-occurring f (n + 1) ms)
  where
    by : (b : Bool) → list_any (λ p. f p.1) (filter does_occur (enumerate_from (n + 1) ms)) ≡ list_any f (occurring ms)
        → list_any (λ p. f p.1) (cond b ((n, m) ∷ filter does_occur (enumerate_from (n + 1) ms)) (filter does_occur (enumerate_from (n + 1) ms))) ≡ list_any f (cond b (m ∷ occurring ms) (occurring ms))
    by true rest = ap (λ b. f m || b) rest
    by false rest = rest

-- the group of a mention that has a text
pub group-is : (c o : BTreeMap (List ℕ) Class) (ms : List Mention) (m : Mention) → AreClassesOf c (enumerate_from 0 ms) → AreClassesOf o (filter does_occur (enumerate_from 0 ms))
    → has_text m ≡ true → group_found c o m ≡ group_of ms m
group-is c o ms m h g e =
    (λ i. cond ((h.other m.text m.entry ∙ any-indexed (is_rival m) 0 ms) i) (option_or (g.first m.text i) (h.first m.text i)) None)
    ∙ ap (λ b. cond (b && list_any (is_rival m) ms) (leader ms m.text) None) (sym e)

-- what it reads as
pub text-is : (c : BTreeMap (List ℕ) Class) (ms : List Mention) (m : Mention) → AreClassesOf c (enumerate_from 0 ms) → has_text m ≡ true → option_map (λ x. x.first) (class_at c m.text) ≡ text_of ms m
text-is c ms m h e = h.first m.text ∙ sym (ap (λ b. cond b (first_with ms m.text) None) e)

-- ---- whether mentions of several entries have a text

module _ (t : List ℕ) (xs : List Mention) where
  abbrev has_other : ℕ → Mention → Bool
  has_other e x = bytes_eq t x.text && not (nat_eq e x.entry)

  abbrev has_rival : Mention → Bool
  has_rival x = bytes_eq t x.text && list_any (is_rival x) xs

  rivals-there : (x : Mention) → bytes_eq t x.text ≡ true → list_any (is_rival x) xs ≡ list_any (has_other x.entry) xs
  rivals-there x same = λ i. list_any (λ y. bytes_eq (sym (texts_find.equal t x.text same) i) y.text && not (nat_eq x.entry y.entry)) xs

  -- one that has a rival shows that another entry than its own is there
  module _ (o : Option Class) (known : (e : ℕ) → is_other e o ≡ list_any (has_other e) xs) where
    from-rival : (x : Mention) → has_rival x ≡ true → is_other x.entry o ≡ true
    from-rival x h = let parts = both (bytes_eq t x.text) (list_any (is_rival x) xs) h in known x.entry ∙ sym (rivals-there x parts.0) ∙ parts.1

    to-rival : (x : Mention) → bytes_eq t x.text ≡ true → is_other x.entry o ≡ true → has_rival x ≡ true
    to-rival x same h = and-true (bytes_eq t x.text) (list_any (is_rival x) xs) same (rivals-there x same ∙ sym (known x.entry) ∙ h)

  pub several-is : (o : Option Class) → ((e : ℕ) → is_other e o ≡ list_any (has_other e) xs) → several_in o ≡ list_any has_rival xs
  several-is None known = sym (nothing (list_any has_rival xs) refl)
    where
      nothing : (b : Bool) → list_any has_rival xs ≡ b → b ≡ false
      nothing false e = refl
      nothing true e = let a = Any-from_list_any has_rival xs e in absurd (true≢false (sym (from-rival None known a.1 a.4)))
  several-is (Some c) known = by c.several refl
    where
      by : (s : Bool) → c.several ≡ s → s ≡ list_any has_rival xs
      by true e =
          let a = Any-from_list_any (has_other c.entry) xs (sym (known c.entry) ∙ ap (λ s. s || not (nat_eq c.entry c.entry)) e) in
          let parts = both (bytes_eq t a.1.text) (not (nat_eq c.entry a.1.entry)) a.4 in
          sym (list_any_at has_rival xs a.0 a.1 a.2 (ap has_rival a.3 ∙ to-rival (Some c) known a.1 parts.0 (ap (λ s. s || not (nat_eq c.entry a.1.entry)) e)))
      by false e = sym (nothing (list_any has_rival xs) refl)
        where
          nothing : (b : Bool) → list_any has_rival xs ≡ b → b ≡ false
          nothing false p = refl
          nothing true p =
              let a = Any-from_list_any has_rival xs p in
              let parts = both (bytes_eq t a.1.text) (list_any (is_rival a.1) xs) a.4 in
              let apart : not (nat_eq c.entry a.1.entry) ≡ true = ap (λ s. s || not (nat_eq c.entry a.1.entry)) (sym e) ∙ from-rival (Some c) known a.1 a.4 in
              let own : list_any (has_other c.entry) xs ≡ false = sym (known c.entry) ∙ (λ i. e i || not (nat_eq_equiv.refl c.entry i)) in
              let there : list_any (has_other c.entry) xs ≡ true =
              list_any_at (has_other c.entry) xs a.0 a.1 a.2 (ap (has_other c.entry) a.3 ∙ and-true (bytes_eq t a.1.text) (not (nat_eq c.entry a.1.entry)) parts.0 apart) in
              absurd (true≢false (sym there ∙ own))

-- whether the group of a mention with a text is asked to differ
pub asked-is : (o : BTreeMap (List ℕ) Class) (ms : List Mention) (m : Mention) → AreClassesOf o (filter does_occur (enumerate_from 0 ms))
    → (has_text m && several_in (class_at o m.text)) ≡ is_asked ms m
asked-is o ms m g =
    ap (λ b. has_text m && b)
    (several-is m.text (occurring ms) (class_at o m.text) (λ e. g.other m.text e ∙ any-occurring (λ x. bytes_eq m.text x.text && not (nat_eq e x.entry)) 0 ms))
