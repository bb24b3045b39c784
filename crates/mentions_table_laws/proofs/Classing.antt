-- Entries that are asked to differ, and their classes.
use Rattle.std.proofs.Common.{◌≡◌, ◌≢◌, ◌⊎◌, inl, inr, ℕ, ◌+◌, ◌<◌, ◌≤◌, zero, suc, Bool, true, false, cond, not, ◌&&◌, ◌||◌, Some, None, Option, List, [], ◌∷◌, filter, get_or, length, map, take, refl, ap, sym, ◌∙◌, arith, true≢false}
use Rattle.std.specs.Prelude.{◌==◌, bytes_eq, find, is_some, nat_eq, option_map, slice_get}
use Rattle.std.specs.List.{enumerate_from, list_any, range_with_len}
use Rattle.std.specs.Option.{option_and_then}
use Rattle.std.proofs.lemmas.Bool.{and_parts, cases_order, eq-eqb, eqb-true, ne_eqb, not_from_false, eqb-false, not-true}
use Rattle.std.proofs.lemmas.List.{take_all}
use Rattle.std.proofs.lemmas.List.Folds.{Any-from_list_any, list_any_at}
use Rattle.std.proofs.lemmas.Option.{get_or_from_slice_get, none-some, same_Some, slice_get-get_or, slice_get-map, slice_get_within}
use Rattle.value_sources.specs.Finds.{texts_find}
use Rattle.mentions_names.specs.Telling.{in_one_group}
use Rattle.mentions_groups.specs.Groups.{first_among, first_with, group_of, has_text, is_ambiguous, leader, text_of}
use Rattle.mentions_groups.specs.Suffixes.{class_of, entry_class, entry_classes, gets_suffixes, is_entry_asked, is_in_class, is_mistaken_for, laters}
use Rattle.mentions_groups.specs.declared.mention.Mention.{Mention}
use Rattle.mentions_table_laws.specs.SuffixLaws.{EntryClass, ReadAlike, members_of}
use Rattle.mentions_table_laws.proofs.Choosing.{some-text}
use Rattle.mentions_table_laws.proofs.Listing.{counts-rise, range-at, some-kept, was-kept}

pub in-class : (class : ℕ) (o : Option ℕ) → in_one_group (Some class) o ≡ true → o ≡ Some class
in-class class None h = absurd (true≢false (sym h))
in-class class (Some g) h = ap Some (sym (eqb-true class g h))

pub own-class : (g : ℕ) → in_one_group (Some g) (Some g) ≡ true
own-class g = eq-eqb g g refl

-- two that are in one group are in some
record InOne (o p : Option ℕ) : Type 0 where
  group : ℕ
  of_one : o ≡ Some group
  of_other : p ≡ Some group

in-one : (o p : Option ℕ) → in_one_group o p ≡ true → InOne o p
in-one None p h = absurd (true≢false (sym h))
in-one (Some g) p h = record { group = g; of_one = refl; of_other = in-class g p h }

-- the class of one that is in none gets no suffixes
pub none-gets : (es : List EntryClass) → gets_suffixes es None ≡ false
none-gets [] = refl
none-gets (e ∷ es) = by e.adds_suffix (none-gets es)
  where
    by : (b : Bool) → list_any (λ e. e.adds_suffix && is_in_class None e) es ≡ false → ((b && false) || list_any (λ e. e.adds_suffix && is_in_class None e) es) ≡ false
    by true h = h
    by false h = h

pub two-pass : {X : Type 0} (xs : List X) (p : X → Bool) (i j : ℕ) (d : X) → i < j → j < length xs → p (get_or xs i d) ≡ true → p (get_or xs j d) ≡ true → 2 ≤ length (filter p xs)
two-pass xs p i j d h l e f =
    let one = counts-rise p xs i j d h (omega arith) e in
    let other = counts-rise p xs j (length xs) d l l f in
    let all : length (filter p (take (length xs) xs)) ≡ length (filter p xs) = ap (λ ms. length (filter p ms)) (take_all (length xs) xs (omega arith)) in
    omega (arith, one, other, all)

two-pass-at : {X : Type 0} (xs : List X) (p : X → Bool) (i j : ℕ) (x y : X) → slice_get xs i ≡ Some x → slice_get xs j ≡ Some y → p x ≡ true → p y ≡ true → i ≢ j → 2 ≤ length (filter p xs)
two-pass-at xs p i j x y at_x at_y of_x of_y apart = by (cases_order i j)
  where
    k : i < length xs
    k = slice_get_within xs i x at_x

    l : j < length xs
    l = slice_get_within xs j y at_y

    passes : p (get_or xs i x) ≡ true
    passes = ap p (get_or_from_slice_get xs i x x at_x) ∙ of_x

    passes-too : p (get_or xs j x) ≡ true
    passes-too = ap p (get_or_from_slice_get xs j y x at_y) ∙ of_y

    by : (i ≡ j) ⊎ ((i < j) ⊎ (j < i)) → 2 ≤ length (filter p xs)
    by (inl e) = absurd (apart e)
    by (inr (inl h)) = two-pass xs p i j x h l passes passes-too
    by (inr (inr h)) = two-pass xs p j i x h k passes-too passes

-- ---- what mentions read as

module _ (t : List ℕ) where
  behind-place : (n : ℕ) (ms : List Mention) (i : ℕ) → first_among (enumerate_from n ms) t ≡ Some i → n ≤ i
  behind-place n [] i e = absurd (none-some i e)
  behind-place n (m ∷ ms) i e = by (bytes_eq t m.text) e (behind-place (n + 1) ms i)
    where
      by : (b : Bool) → option_map (λ p. p.0) (cond b (Some (n, m)) (find (λ p. bytes_eq t p.1.text) (enumerate_from (n + 1) ms))) ≡ Some i
          → (first_among (enumerate_from (n + 1) ms) t ≡ Some i → n + 1 ≤ i) → n ≤ i
      by true e rest = let same = same_Some n i e in omega (arith, same)
      by false e rest = let more = rest e in omega (arith, more)

  pub found-there : (n : ℕ) (ms : List Mention) (k : ℕ) (m : Mention) → slice_get ms k ≡ Some m → m.text ≡ t → is_some (first_among (enumerate_from n ms) t) ≡ true
  found-there n [] k m h e = absurd (none-some m h)
  found-there n (x ∷ ms) zero m h e =
      ap (λ b. is_some (option_map (λ p. p.0) (cond b (Some (n, x)) (find (λ p. bytes_eq t p.1.text) (enumerate_from (n + 1) ms)))))
      (ap (bytes_eq t) (ap (λ (y : Mention). y.text) (same_Some x m h) ∙ e) ∙ texts_find.self t)
  found-there n (x ∷ ms) (suc k) m h e = by (bytes_eq t x.text) (found-there (n + 1) ms k m h e)
    where
      by : (b : Bool) → is_some (first_among (enumerate_from (n + 1) ms) t) ≡ true
          → is_some (option_map (λ p. p.0) (cond b (Some (n, x)) (find (λ p. bytes_eq t p.1.text) (enumerate_from (n + 1) ms)))) ≡ true
      by true rest = refl
      by false rest = rest

-- of two texts the first mentions are one alone where they are equal
same-first : (t u : List ℕ) (n : ℕ) (ms : List Mention) (i : ℕ) → first_among (enumerate_from n ms) t ≡ Some i → first_among (enumerate_from n ms) u ≡ Some i → t ≡ u
same-first t u n [] i e f = absurd (none-some i e)
same-first t u n (m ∷ ms) i e f = by (bytes_eq t m.text) (bytes_eq u m.text) refl refl e f (same-first t u (n + 1) ms i)
  where
    at : Bool → List ℕ → Option ℕ
    at b s = option_map (λ p. p.0) (cond b (Some (n, m)) (find (λ p. bytes_eq s p.1.text) (enumerate_from (n + 1) ms)))

    by : (b c : Bool) → bytes_eq t m.text ≡ b → bytes_eq u m.text ≡ c → at b t ≡ Some i → at c u ≡ Some i
        → (first_among (enumerate_from (n + 1) ms) t ≡ Some i → first_among (enumerate_from (n + 1) ms) u ≡ Some i → t ≡ u) → t ≡ u
    by true true p q e f rest = texts_find.equal t m.text p ∙ sym (texts_find.equal u m.text q)
    by true false p q e f rest = let same = same_Some n i e in let more = behind-place u (n + 1) ms i f in absurd (omega (arith, same, more))
    by false true p q e f rest = let same = same_Some n i f in let more = behind-place t (n + 1) ms i e in absurd (omega (arith, same, more))
    by false false p q e f rest = rest e f

module _ (mentions : List Mention) where
  pub in-none : (m : Mention) → is_ambiguous mentions m ≡ false → group_of mentions m ≡ None
  in-none m h = ap (λ b. cond b (leader mentions m.text) None) h

  -- two mentions that read as one have one text
  pub same-text : (m x : Mention) (t : ℕ) → text_of mentions m ≡ Some t → text_of mentions x ≡ Some t → m.text ≡ x.text
  same-text m x t e f = by (has_text m) (has_text x) e f
    where
      by : (b c : Bool) → cond b (first_with mentions m.text) None ≡ Some t → cond c (first_with mentions x.text) None ≡ Some t → m.text ≡ x.text
      by true true e f = same-first m.text x.text 0 mentions t e f
      by false c e f = absurd (none-some t e)
      by true false e f = absurd (none-some t f)

  pub text-known : (m : Mention) (t : ℕ) → text_of mentions m ≡ Some t → has_text m ≡ true
  text-known m t e = by (has_text m) e
    where
      by : (b : Bool) → cond b (first_with mentions m.text) None ≡ Some t → b ≡ true
      by true e = refl
      by false e = absurd (none-some t e)

  pub text-there : (m : Mention) → has_text m ≡ true → m.text ≢ []
  text-there m h none = true≢false (sym h ∙ ap (λ t. not (length t == 0)) none)

  -- what a member with a text reads as
  record Reads (m : Mention) : Type 0 where
    text : ℕ
    is : text_of mentions m ≡ Some text

  reads : (k : ℕ) (m : Mention) → slice_get mentions k ≡ Some m → m.text ≢ [] → Reads m
  reads k m h text = by (first_with mentions m.text) refl (found-there m.text 0 mentions k m h refl)
    where
      by : (o : Option ℕ) → first_with mentions m.text ≡ o → is_some o ≡ true → Reads m
      by None e f = absurd (true≢false (sym f))
      by (Some t) e f = record { text = t; is = ap (λ b. cond b (first_with mentions m.text) None) (some-text m.text text) ∙ e }

  -- ---- one mention that reads like another

  -- an entry that is asked to differ, by a mention of it and one of another entry
  pub record IsMistaken (entry : ℕ) : Type 0 where
    pub one : Mention
    pub other : Mention
    pub at_one : ℕ
    pub at_other : ℕ
    pub is_one : slice_get mentions at_one ≡ Some one
    pub is_other : slice_get mentions at_other ≡ Some other
    pub own : entry ≡ one.entry
    pub occurs : one.occurs ≡ true
    pub occurs_too : other.occurs ≡ true
    pub text : ℕ
    pub text_one : text_of mentions one ≡ Some text
    pub text_other : text_of mentions other ≡ Some text
    pub class : ℕ
    pub class_one : class_of mentions entry ≡ Some class
    pub class_other : class_of mentions other.entry ≡ Some class
    pub apart : one.entry ≢ other.entry

  pub mistaken : (entry : ℕ) → is_entry_asked mentions entry ≡ true → IsMistaken entry
  mistaken entry h =
      let m = Any-from_list_any (λ y. nat_eq entry y.entry && (y.occurs && list_any (is_mistaken_for mentions y) mentions)) mentions h in
      let p = and_parts (nat_eq entry m.1.entry) (m.1.occurs && list_any (is_mistaken_for mentions m.1) mentions) m.4 in
      let q = and_parts m.1.occurs (list_any (is_mistaken_for mentions m.1) mentions) p.1 in
      let x = Any-from_list_any (is_mistaken_for mentions m.1) mentions q.1 in
      let alike = in_one_group (text_of mentions m.1) (text_of mentions x.1) in
      let of_class = in_one_group (class_of mentions m.1.entry) (class_of mentions x.1.entry) in
      let r = and_parts x.1.occurs ((alike && of_class) && not (nat_eq m.1.entry x.1.entry)) x.4 in
      let s = and_parts (alike && of_class) (not (nat_eq m.1.entry x.1.entry)) r.1 in
      let u = and_parts alike of_class s.0 in
      let texts = in-one (text_of mentions m.1) (text_of mentions x.1) u.0 in
      let classes = in-one (class_of mentions m.1.entry) (class_of mentions x.1.entry) u.1 in
      let own : entry ≡ m.1.entry = eqb-true entry m.1.entry p.0 in
      record {
        one = m.1;
        other = x.1;
        at_one = m.0;
        at_other = x.0;
        is_one = slice_get-get_or mentions m.0 m.1 m.2 ∙ ap Some m.3;
        is_other = slice_get-get_or mentions x.0 x.1 x.2 ∙ ap Some x.3;
        own = own;
        occurs = q.0;
        occurs_too = r.0;
        text = texts.group;
        text_one = texts.of_one;
        text_other = texts.of_other;
        class = classes.group;
        class_one = ap (class_of mentions) own ∙ classes.of_one;
        class_other = classes.of_other;
        apart = eqb-false m.1.entry x.1.entry (not-true (nat_eq m.1.entry x.1.entry) s.1);
      }

  pub as-mistaken : (entry : ℕ) → IsMistaken entry → is_entry_asked mentions entry ≡ true
  as-mistaken entry r =
      let m = r.one in
      let x = r.other in
      let class_m : class_of mentions m.entry ≡ Some r.class = ap (class_of mentions) (sym r.own) ∙ r.class_one in
      let differ : not (nat_eq m.entry x.entry) ≡ true = not_from_false (nat_eq m.entry x.entry) (ne_eqb m.entry x.entry r.apart) in
      let is_it : is_mistaken_for mentions m x ≡ true =
      (λ i. r.occurs_too i && ((in_one_group (r.text_one i) (r.text_other i) && in_one_group (class_m i) (r.class_other i)) && differ i))
      ∙ (λ i. (own-class r.text i && own-class r.class i) && true) in
      let some : list_any (is_mistaken_for mentions m) mentions ≡ true =
      list_any_at (is_mistaken_for mentions m) mentions r.at_other x (slice_get_within mentions r.at_other x r.is_other)
      (ap (is_mistaken_for mentions m) (get_or_from_slice_get mentions r.at_other x x r.is_other) ∙ is_it) in
      list_any_at (λ y. nat_eq entry y.entry && (y.occurs && list_any (is_mistaken_for mentions y) mentions)) mentions r.at_one m (slice_get_within mentions r.at_one m r.is_one)
      (ap (λ (y : Mention). nat_eq entry y.entry && (y.occurs && list_any (is_mistaken_for mentions y) mentions)) (get_or_from_slice_get mentions r.at_one m m r.is_one)
      ∙ (λ i. eq-eqb entry m.entry r.own i && (r.occurs i && some i)))

  -- then so is the other entry
  abbrev pub turned : (entry : ℕ) (r : IsMistaken entry) → IsMistaken r.other.entry
  turned entry r = record {
    one = r.other;
    other = r.one;
    at_one = r.at_other;
    at_other = r.at_one;
    is_one = r.is_other;
    is_other = r.is_one;
    own = refl;
    occurs = r.occurs_too;
    occurs_too = r.occurs;
    text = r.text;
    text_one = r.text_other;
    text_other = r.text_one;
    class = r.class;
    class_one = r.class_other;
    class_other = ap (class_of mentions) (sym r.own) ∙ r.class_one;
    apart = λ e. r.apart (sym e);
  }

  module _ (n : ℕ) (each : map (λ m. m.entry) (laters mentions) ≡ range_with_len 0 n) where
    pub entry-at : (e : ℕ) (m : Mention) → slice_get (laters mentions) e ≡ Some m → m.entry ≡ e
    entry-at e m h =
        range-at 0 n e m.entry (sym (ap (λ l. slice_get l e) each) ∙ slice_get-map (λ (x : Mention). x.entry) (laters mentions) e ∙ ap (option_map (λ (x : Mention). x.entry)) h) ∙ zero-plus e
      where
        zero-plus : (a : ℕ) → 0 + a ≡ a
        zero-plus a = omega arith

    pub class-at : (e : ℕ) (m : Mention) → slice_get (laters mentions) e ≡ Some m → class_of mentions e ≡ text_of mentions m
    class-at e m h = ap (option_and_then (text_of mentions)) h

    pub entry-there : (e : ℕ) (m : Mention) → slice_get (laters mentions) e ≡ Some m → slice_get (entry_classes mentions) e ≡ Some (entry_class mentions m)
    entry-there e m h = slice_get-map (entry_class mentions) (laters mentions) e ∙ ap (option_map (entry_class mentions)) h

    -- an entry of a class: one that is asked to differ
    pub record IsIn (class e : ℕ) : Type 0 where
      pub later : Mention
      pub there : slice_get (laters mentions) e ≡ Some later
      pub asked : IsMistaken e
      pub same : asked.class ≡ class

    pub of-class : (e class : ℕ) (x : EntryClass) → slice_get (entry_classes mentions) e ≡ Some x → x.class ≡ Some class → IsIn class e
    of-class e class x h c = by (slice_get (laters mentions) e) refl
      where
        by : (o : Option Mention) → slice_get (laters mentions) e ≡ o → IsIn class e
        by None f = absurd (none-some x (sym (ap (option_map (entry_class mentions)) f) ∙ sym (slice_get-map (entry_class mentions) (laters mentions) e) ∙ h))
        by (Some l) f =
            let is : entry_class mentions l ≡ x = same_Some (entry_class mentions l) x (sym (entry-there e l f) ∙ h) in
            let own = entry-at e l f in
            from l f (is_entry_asked mentions l.entry) refl (ap (λ (y : EntryClass). y.class) is ∙ c) own
          where
            from : (l : Mention) → slice_get (laters mentions) e ≡ Some l → (b : Bool) → is_entry_asked mentions l.entry ≡ b → cond b (class_of mentions l.entry) None ≡ Some class → l.entry ≡ e → IsIn class e
            from l f false p q own = absurd (none-some class q)
            from l f true p q own =
                let r = mistaken e (ap (is_entry_asked mentions) (sym own) ∙ p) in
                record { later = l; there = f; asked = r; same = same_Some r.class class (sym r.class_one ∙ ap (class_of mentions) (sym own) ∙ q) }

    pub has-class : (e : ℕ) (l : Mention) → slice_get (laters mentions) e ≡ Some l → (r : IsMistaken e) → (entry_class mentions l).class ≡ Some r.class
    has-class e l h r =
        let own = entry-at e l h in
        ap (λ b. cond b (class_of mentions l.entry) None) (ap (is_entry_asked mentions) own ∙ as-mistaken e r) ∙ ap (class_of mentions) own ∙ r.class_one

    -- an entry with a class has a later mention
    pub record HasLater (e : ℕ) : Type 0 where
      pub later : Mention
      pub there : slice_get (laters mentions) e ≡ Some later

    pub has-later : (e class : ℕ) → class_of mentions e ≡ Some class → HasLater e
    has-later e class h = by (slice_get (laters mentions) e) refl
      where
        by : (o : Option Mention) → slice_get (laters mentions) e ≡ o → HasLater e
        by None f = absurd (none-some class (sym (ap (option_and_then (text_of mentions)) f) ∙ h))
        by (Some l) f = record { later = l; there = f }

    -- a class has two entries at least
    pub two-at-least : (class : ℕ) → members_of mentions class ≢ [] → 2 ≤ length (members_of mentions class)
    two-at-least class some =
        let es = entry_classes mentions in
        let inside = is_in_class (Some class) in
        let a = Any-from_list_any inside es (some-kept inside es some) in
        let at_a = slice_get-get_or es a.0 a.1 a.2 ∙ ap Some a.3 in
        let it = of-class a.0 class a.1 at_a (in-class class a.1.class a.4) in
        let r = it.asked in
        let back = turned a.0 r in
        let l = has-later r.other.entry r.class r.class_other in
        let at_x = entry-there r.other.entry l.later l.there in
        let its : is_in_class (Some class) (entry_class mentions l.later) ≡ true =
        ap (in_one_group (Some class)) (has-class r.other.entry l.later l.there back ∙ ap Some it.same) ∙ own-class class in
        two-pass-at es inside a.0 r.other.entry a.1 (entry_class mentions l.later) at_a at_x a.4 its (λ e. r.apart (sym r.own ∙ e))

    -- two entries whose later mentions occur and read alike are of one class
    pub record OfOneClass (e d : ℕ) (r : ReadAlike mentions e d) : Type 0 where
      pub class : ℕ
      pub of_one : (entry_class mentions r.one).class ≡ Some class
      pub of_other : (entry_class mentions r.other).class ≡ Some class

    pub of-one-class : (e d : ℕ) (r : ReadAlike mentions e d) → OfOneClass e d r
    of-one-class e d r =
        let a = was-kept (λ (m : Mention). not m.is_first) mentions e r.one r.is_one in
        let b = was-kept (λ (m : Mention). not m.is_first) mentions d r.other r.is_other in
        let one = reads a.place r.one a.there r.has_text in
        let other : text_of mentions r.other ≡ Some one.text = ap (λ t. cond (not (length t == 0)) (first_with mentions t) None) (sym r.same_text) ∙ one.is in
        let own = entry-at e r.one r.is_one in
        let its = entry-at d r.other r.is_other in
        let asked : IsMistaken e = record {
          one = r.one;
          other = r.other;
          at_one = a.place;
          at_other = b.place;
          is_one = a.there;
          is_other = b.there;
          own = sym own;
          occurs = r.one_occurs;
          occurs_too = r.other_occurs;
          text = one.text;
          text_one = one.is;
          text_other = other;
          class = one.text;
          class_one = class-at e r.one r.is_one ∙ one.is;
          class_other = ap (class_of mentions) its ∙ class-at d r.other r.is_other ∙ other;
          apart = λ same. r.apart (sym own ∙ same ∙ its);
        } in
        let back : IsMistaken d = record {
          one = r.other;
          other = r.one;
          at_one = b.place;
          at_other = a.place;
          is_one = b.there;
          is_other = a.there;
          own = sym its;
          occurs = r.other_occurs;
          occurs_too = r.one_occurs;
          text = one.text;
          text_one = other;
          text_other = one.is;
          class = one.text;
          class_one = class-at d r.other r.is_other ∙ other;
          class_other = ap (class_of mentions) own ∙ class-at e r.one r.is_one ∙ one.is;
          apart = λ same. r.apart (sym own ∙ sym same ∙ its);
        } in
        record { class = one.text; of_one = has-class e r.one r.is_one asked; of_other = has-class d r.other r.is_other back }
