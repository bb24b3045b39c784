-- The suffixes of a class count its entries.
use Rattle.std.proofs.Common.{◌≡◌, ◌≢◌, ◌⊎◌, ℕ, ◌+◌, ◌<◌, Bool, true, false, cond, ◌&&◌, ◌||◌, Some, None, Option, List, [], ◌∷◌, ◌++◌, filter, length, map, take, refl, ap, sym, ◌∙◌, arith, inl, inr, append_assoc}
use Rattle.std.specs.Prelude.{option_and_then, option_map, slice_get}
use Rattle.std.specs.List.{enumerate_from, range_with_len, zip}
use Rattle.std.proofs.lemmas.Bool.{and_from, cases_order, or_cases}
use Rattle.std.proofs.lemmas.List.{length_push, length-map, take_at}
use Rattle.std.proofs.lemmas.List.Elements.{filter-append}
use Rattle.std.proofs.lemmas.List.FromFn.{length-enumerate_from, length-range_with_len}
use Rattle.std.proofs.lemmas.List.Folds.{list_any_at}
use Rattle.std.proofs.lemmas.Option.{get_or_from_slice_get, none-some, slice_get-map, slice_get_within}
use Rattle.mentions_names.specs.Telling.{in_one_group}
use Rattle.mentions_groups.specs.Suffixes.{entry_class, entry_classes, gets_suffixes, is_in_class, laters, suffix_of, suffixes}
use Rattle.mentions_groups.specs.declared.mention.Mention.{Mention}
use Rattle.mentions_table_laws.specs.SuffixLaws.{EntryClass, HasReason, HaveOtherSuffixes, NoneInVain, NothingIsLeft, ReadAlike, SuffixesCount, suffix_at}
use Rattle.mentions_table_laws.proofs.Classing.{OfOneClass, entry-there, has-class, has-later, in-class, none-gets, of-class, of-one-class, own-class, same-text, text-known, text-there, turned, two-at-least}
use Rattle.mentions_table_laws.proofs.Listing.{counts-rise, enumerated-at}

module _ (es : List EntryClass) where
  suffix-with : (k : ℕ) (m : EntryClass) (o : Option ℕ) → m.class ≡ o → gets_suffixes es o ≡ true
      → suffix_of es (k, m) ≡ Some (length (filter (is_in_class o) (take k es)))
  suffix-with k m o e gets =
      ap (λ c. cond (gets_suffixes es c) (Some (length (filter (is_in_class c) (take k es)))) None) e
      ∙ ap (λ b. cond b (Some (length (filter (is_in_class o) (take k es)))) None) gets

  pub suffix-without : (k : ℕ) (m : EntryClass) (o : Option ℕ) → m.class ≡ o → gets_suffixes es o ≡ false → suffix_of es (k, m) ≡ None
  suffix-without k m o e gets =
      ap (λ c. cond (gets_suffixes es c) (Some (length (filter (is_in_class c) (take k es)))) None) e
      ∙ ap (λ b. cond b (Some (length (filter (is_in_class o) (take k es)))) None) gets

  module _ (class : ℕ) where
    abbrev inside : EntryClass → Bool
    inside = is_in_class (Some class)

    -- the suffixes of the entries of a class from some place on
    abbrev behind : ℕ → List EntryClass → List (EntryClass × Option ℕ)
    behind k rest = filter (λ p. is_in_class (Some class) p.0) (zip rest (map (suffix_of es) (enumerate_from k rest)))

    counted-from : gets_suffixes es (Some class) ≡ true → (before rest : List EntryClass) (k n : ℕ) → before ++ rest ≡ es → length before ≡ k
        → length (filter (is_in_class (Some class)) before) ≡ n
        → map (λ p. p.1) (behind k rest) ≡ map Some (range_with_len n (length (filter (is_in_class (Some class)) rest)))
    counted-from gets before [] k n whole long count = refl
    counted-from gets before (m ∷ rest) k n whole long count =
        by (inside m) refl (λ c h. counted-from gets (before ++ m ∷ []) rest (k + 1) c (append_assoc before (m ∷ []) rest ∙ whole) more h)
      where
        more : length (before ++ m ∷ []) ≡ k + 1
        more = length_push before m ∙ ap (λ l. l + 1) long

        kept : filter inside (before ++ m ∷ []) ≡ filter inside before ++ cond (inside m) (m ∷ []) []
        kept = filter-append inside before (m ∷ [])

        until : take k es ≡ before
        until = ap (take k) (sym whole) ∙ take_at before (m ∷ rest) k long

        by : (b : Bool) → inside m ≡ b
            → ((c : ℕ) → length (filter inside (before ++ m ∷ [])) ≡ c → map (λ p. p.1) (behind (k + 1) rest) ≡ map Some (range_with_len c (length (filter inside rest))))
            → map (λ p. p.1) (cond b ((m, suffix_of es (k, m)) ∷ behind (k + 1) rest) (behind (k + 1) rest))
            ≡ map Some (range_with_len n (length (cond b (m ∷ filter inside rest) (filter inside rest))))
        by true e later =
            let own = suffix-with k m (Some class) (in-class class m.class e) gets in
            let at : suffix_of es (k, m) ≡ Some n = own ∙ ap (λ ms. Some (length (filter inside ms))) until ∙ ap Some count in
            let next : length (filter inside (before ++ m ∷ [])) ≡ n + 1 =
            ap length (kept ∙ ap (λ b. filter inside before ++ cond b (m ∷ []) []) e) ∙ length_push (filter inside before) m ∙ ap (λ c. c + 1) count in
            λ i. at i ∷ later (n + 1) next i
        by false e later =
            later n (ap length (kept ∙ ap (λ b. filter inside before ++ cond b (m ∷ []) []) e ∙ append-none (filter inside before)) ∙ count)
          where
            append-none : (ms : List EntryClass) → ms ++ [] ≡ ms
            append-none [] = refl
            append-none (x ∷ xs) = ap (λ l. x ∷ l) (append-none xs)

    none-from : gets_suffixes es (Some class) ≡ false → (rest : List EntryClass) (k : ℕ)
        → map (λ p. p.1) (behind k rest) ≡ map (λ m. None) (filter (is_in_class (Some class)) rest)
    none-from gets [] k = refl
    none-from gets (m ∷ rest) k = by (inside m) refl (none-from gets rest (k + 1))
      where
        by : (b : Bool) → inside m ≡ b → map (λ p. p.1) (behind (k + 1) rest) ≡ map (λ m. None) (filter inside rest)
            → map (λ p. p.1) (cond b ((m, suffix_of es (k, m)) ∷ behind (k + 1) rest) (behind (k + 1) rest))
            ≡ map (λ m. None) (cond b (m ∷ filter inside rest) (filter inside rest))
        by true e later =
            let at = suffix-without k m (Some class) (in-class class m.class e) gets in
            λ i. at i ∷ later i
        by false e later = later

module _ (mentions : List Mention) where
  abbrev es : List EntryClass
  es = entry_classes mentions

  module _ (n : ℕ) (entries : map (λ m. m.entry) (laters mentions) ≡ range_with_len 0 n) where
    pub as-many : length (suffixes mentions) ≡ n
    as-many =
        length-map (enumerate_from 0 es) (suffix_of es) ∙ length-enumerate_from 0 es ∙ length-map (laters mentions) (entry_class mentions)
        ∙ sym (length-map (laters mentions) (λ m. m.entry)) ∙ ap length entries ∙ length-range_with_len 0 n

    pub suffixes-count : SuffixesCount mentions (suffixes mentions)
    suffixes-count = record {
      entries = entries ∙ ap (range_with_len 0) (sym as-many);
      in_order = λ class gets. counted-from es class gets [] es 0 0 refl refl refl;
      no_others = λ class gets. none-from es class gets es 0;
      two_at_least = two-at-least mentions n entries;
    }

    pub suffix-there : (e : ℕ) (x : EntryClass) → slice_get es e ≡ Some x → suffix_at (suffixes mentions) e ≡ suffix_of es (e, x)
    suffix-there e x h =
        ap (option_and_then (λ s. s)) (slice_get-map (suffix_of es) (enumerate_from 0 es) e
        ∙ ap (option_map (suffix_of es)) (enumerated-at 0 es e ∙ ap (option_map (λ y. (0 + e, y))) h))
        ∙ ap (λ k. suffix_of es (k, x)) (zero-plus e)
      where
        zero-plus : (a : ℕ) → 0 + a ≡ a
        zero-plus a = omega arith

    module _ (class : ℕ) (gets : gets_suffixes es (Some class) ≡ true) where
      abbrev before : ℕ → ℕ
      before k = length (filter (is_in_class (Some class)) (take k es))

      before-rises : (i j : ℕ) (x : EntryClass) → slice_get es i ≡ Some x → x.class ≡ Some class → i < j → before i < before j
      before-rises i j x there own h =
          counts-rise (is_in_class (Some class)) es i j x h (slice_get_within es i x there)
          (ap (is_in_class (Some class)) (get_or_from_slice_get es i x x there) ∙ ap (in_one_group (Some class)) own ∙ own-class class)

      -- two entries of a class that gets suffixes have suffixes that differ
      others-differ : (e d : ℕ) (x y : EntryClass) → slice_get es e ≡ Some x → slice_get es d ≡ Some y → x.class ≡ Some class → y.class ≡ Some class → e ≢ d
          → HaveOtherSuffixes (suffixes mentions) e d
      others-differ e d x y at_x at_y of_x of_y apart = record {
        one = before e;
        other = before d;
        is_one = suffix-there e x at_x ∙ suffix-with es e x (Some class) of_x gets;
        is_other = suffix-there d y at_y ∙ suffix-with es d y (Some class) of_y gets;
        apart = by (cases_order e d);
      }
        where
          by : (e ≡ d) ⊎ ((e < d) ⊎ (d < e)) → before e ≢ before d
          by (inl same) = absurd (apart same)
          by (inr (inl h)) = λ same. let less = before-rises e d x at_x of_x h in omega (arith, less, same)
          by (inr (inr h)) = λ same. let less = before-rises d e y at_y of_y h in omega (arith, less, same)

    module _ (e d : ℕ) (r : ReadAlike mentions e d) (adds : r.one.adds_suffix || r.other.adds_suffix ≡ true) where
      both : OfOneClass mentions n entries e d r
      both = of-one-class mentions n entries e d r

      at_one : slice_get es e ≡ Some (entry_class mentions r.one)
      at_one = entry-there mentions n entries e r.one r.is_one

      at_other : slice_get es d ≡ Some (entry_class mentions r.other)
      at_other = entry-there mentions n entries d r.other r.is_other

      adds-at : (i : ℕ) (x : EntryClass) → slice_get es i ≡ Some x → x.class ≡ Some both.class → x.adds_suffix ≡ true → gets_suffixes es (Some both.class) ≡ true
      adds-at i x there own h =
          list_any_at (λ y. y.adds_suffix && is_in_class (Some both.class) y) es i x (slice_get_within es i x there)
          (ap (λ y. y.adds_suffix && is_in_class (Some both.class) y) (get_or_from_slice_get es i x x there)
          ∙ and_from x.adds_suffix (is_in_class (Some both.class) x) h (ap (in_one_group (Some both.class)) own ∙ own-class both.class))

      gets : gets_suffixes es (Some both.class) ≡ true
      gets = by (or_cases r.one.adds_suffix r.other.adds_suffix adds)
        where
          by : (r.one.adds_suffix ≡ true) ⊎ (r.other.adds_suffix ≡ true) → gets_suffixes es (Some both.class) ≡ true
          by (inl h) = adds-at e (entry_class mentions r.one) at_one both.of_one h
          by (inr h) = adds-at d (entry_class mentions r.other) at_other both.of_other h

      other-suffixes : HaveOtherSuffixes (suffixes mentions) e d
      other-suffixes = others-differ both.class gets e d (entry_class mentions r.one) (entry_class mentions r.other) at_one at_other both.of_one both.of_other r.apart

    pub nothing-is-left : NothingIsLeft mentions (suffixes mentions)
    nothing-is-left = record {
      one_class = λ e d r.
          let both = of-one-class mentions n entries e d r in
          (λ i. in_one_group (both.of_one i) (both.of_other i)) ∙ own-class both.class;
      told_apart = other-suffixes;
    }

    -- an entry with a suffix is in a class that gets suffixes
    reason : (e number class : ℕ) (x : EntryClass) → slice_get es e ≡ Some x → x.class ≡ Some class → gets_suffixes es (Some class) ≡ true → HasReason mentions (suffixes mentions) e
    reason e number class x at_x of_x adds =
        let it = of-class mentions n entries e class x at_x of_x in
        let r = it.asked in
        let l = has-later mentions n entries r.other.entry r.class r.class_other in
        let at_y = entry-there mentions n entries r.other.entry l.later l.there in
        let of_y = has-class mentions n entries r.other.entry l.later l.there (turned mentions e r) ∙ ap Some it.same in
        record {
          other = r.other.entry;
          alike = record {
            one = r.one;
            other = r.other;
            at_one = r.at_one;
            at_other = r.at_other;
            is_one = r.is_one;
            is_other = r.is_other;
            one_entry = sym r.own;
            other_entry = refl;
            one_occurs = r.occurs;
            other_occurs = r.occurs_too;
            has_text = text-there mentions r.one (text-known mentions r.one r.text r.text_one);
            same_text = same-text mentions r.one r.other r.text r.text_one r.text_other;
          };
          differ = others-differ class adds e r.other.entry x (entry_class mentions l.later) at_x at_y of_x of_y (λ same. r.apart (sym r.own ∙ same));
        }

    pub none-in-vain : NoneInVain mentions (suffixes mentions)
    none-in-vain e number h = by (slice_get es e) refl
      where
        by : (o : Option EntryClass) → slice_get es e ≡ o → HasReason mentions (suffixes mentions) e
        by None f =
            absurd (none-some number (sym (ap (option_and_then (λ s. s)) (slice_get-map (suffix_of es) (enumerate_from 0 es) e
            ∙ ap (option_map (suffix_of es)) (enumerated-at 0 es e ∙ ap (option_map (λ y. (0 + e, y))) f))) ∙ h))
        by (Some x) f = in-some x.class refl (sym (suffix-there e x f) ∙ h)
          where
            given : (b : Bool) (k : ℕ) → cond b (Some k) None ≡ Some number → b ≡ true
            given true k g = refl
            given false k g = absurd (none-some number g)

            in-some : (o : Option ℕ) → x.class ≡ o → suffix_of es (e, x) ≡ Some number → HasReason mentions (suffixes mentions) e
            in-some None p g = absurd (none-some number (sym (suffix-without es e x None p (none-gets es)) ∙ g))
            in-some (Some class) p g =
                reason e number class x f p
                (ap (gets_suffixes es) (sym p) ∙ given (gets_suffixes es x.class) (length (filter (is_in_class x.class) (take e es))) g)
