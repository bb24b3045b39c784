-- What is known of the mentions of a reading, as one more comes in, and what follows for one of them.
use mathlib.Core.Bool.{and-false, or-false, or-true}
use Rattle.std.proofs.Common.{◌≡◌, ℕ, Bool, true, false, cond, not, ◌&&◌, ◌||◌, Some, None, Option, List, [], ◌∷◌, ◌++◌, refl, ap, sym, ◌∙◌, true≢false}
use Rattle.std.specs.Prelude.{nat_eq}
use Rattle.std.specs.BTreeMap.{BTreeMap, is_at}
use Rattle.std.specs.Cmp.{nat_eq_equiv, unsigned_Decides}
use Rattle.std.specs.List.{list_any}
use Rattle.std.specs.Map.{lookup}
use Rattle.std.proofs.lemmas.Bool.{eqb-true}
use Rattle.std.proofs.lemmas.List.Folds.{list_any-append}
use Rattle.std.proofs.lemmas.Option.{none-some, same_Some}
use Rattle.value_sources.specs.Finds.{Finds, and-true, both}
use Rattle.mentions_names.specs.Telling.{in_one_group}
use Rattle.mentions_groups.specs.Groups.{text_of}
use Rattle.mentions_groups.specs.Readings.{AreReadingsOf, entries_at, entries_with, is_other_at, is_reading, reading_by, reading_of, same_reading}
use Rattle.mentions_groups.specs.Suffixes.{class_of, is_mistaken_for}
use Rattle.mentions_groups.specs.contracts.readings.ReadingOrd.TheImpl as reading_ord
use Rattle.mentions_groups.specs.declared.mention.Mention.{Mention}
use Rattle.mentions_groups.specs.declared.readings.Entries.{Entries}
use Rattle.mentions_groups.specs.declared.readings.Reading.{Reading}

readings_find : Finds same_reading
readings_find = record {
  equal = λ a b e. let p = both _ _ e in
      λ i. record { text = (unsigned_Decides a.text b.text).0 p.0 i; class = (unsigned_Decides a.class b.class).0 p.1 i };
  self = λ a. and-true _ _ ((unsigned_Decides a.text a.text).1 refl) ((unsigned_Decides a.class a.class).1 refl);
}

readings-differ : (r q : Reading) → same_reading r q ≡ false → same_reading q r ≡ false
readings-differ r q e = by (same_reading q r) refl
  where
    by : (b : Bool) → same_reading q r ≡ b → b ≡ false
    by false p = refl
    by true p =
        let same : q ≡ r = readings_find.equal q r p in
        absurd (true≢false (sym (readings_find.self r) ∙ ap (same_reading r) (sym same) ∙ e))

other-grows : (e entry : ℕ) (o : Option Entries) → is_other_at e (Some (entries_with entry o)) ≡ (is_other_at e o || not (nat_eq e entry))
other-grows e entry None = ap not (nat_eq_equiv.symm entry e)
other-grows e entry (Some c) = by c.several (nat_eq c.entry e) refl
  where
    by : (s b : Bool) → nat_eq c.entry e ≡ b → ((s || not (nat_eq c.entry entry)) || not (nat_eq c.entry e)) ≡ ((s || not (nat_eq c.entry e)) || not (nat_eq e entry))
    by true b p = refl
    by false false p =
        ap (λ d. not (nat_eq c.entry entry) || not d) p ∙ or-true (not (nat_eq c.entry entry)) ∙ sym (ap (λ d. not d || not (nat_eq e entry)) p)
    by false true p =
        let same : c.entry ≡ e = eqb-true c.entry e p in
        ap (λ d. not (nat_eq c.entry entry) || not d) p ∙ or-false (not (nat_eq c.entry entry)) ∙ ap (λ x. not (nat_eq x entry)) same
        ∙ sym (ap (λ d. not d || not (nat_eq e entry)) p)

pub none-yet : (mentions : List Mention) (readings : BTreeMap Reading Entries) → readings.entries ≡ [] → AreReadingsOf mentions readings []
none-yet mentions readings e = λ r entry. ap (λ es. is_other_at entry (lookup (is_at ((reading_ord.ghosts).cmp r)) es)) e

module _ (mentions : List Mention) (m : Mention) where
  abbrev shows : Reading → ℕ → Mention → Bool
  shows q e n = n.occurs && (is_reading q (reading_of mentions n) && not (nat_eq e n.entry))

  -- one that adds nothing
  module _ (readings : BTreeMap Reading Entries) (before : List Mention) (h : AreReadingsOf mentions readings before) where
    stays : ((q : Reading) (e : ℕ) → shows q e m ≡ false) → AreReadingsOf mentions readings (before ++ m ∷ [])
    stays none = λ q e.
        h q e ∙ sym (or-false (list_any (shows q e) before)) ∙ ap (λ b. list_any (shows q e) before || b) (sym (or-false (shows q e m) ∙ none q e))
        ∙ sym (list_any-append (shows q e) before (m ∷ []))

    pub hidden : m.occurs ≡ false → AreReadingsOf mentions readings (before ++ m ∷ [])
    hidden f = stays (λ q e. ap (λ b. b && (is_reading q (reading_of mentions m) && not (nat_eq e m.entry))) f)

    pub unread : None ≡ reading_of mentions m → AreReadingsOf mentions readings (before ++ m ∷ [])
    unread f = stays (λ q e. ap (λ o. m.occurs && (is_reading q o && not (nat_eq e m.entry))) (sym f) ∙ and-false m.occurs)

  -- and one that does
  pub one-more : (old new : BTreeMap Reading Entries) (r : Reading) → Some r ≡ reading_of mentions m → m.occurs ≡ true
      → ((q : Reading) → entries_at new q ≡ cond (same_reading r q) (Some (entries_with m.entry (entries_at old r))) (entries_at old q))
      → (before : List Mention) → AreReadingsOf mentions old before → AreReadingsOf mentions new (before ++ m ∷ [])
  one-more old new r is there at before h = λ q e.
      ap (is_other_at e) (at q) ∙ other q e (same_reading r q) refl ∙ ap (λ b. list_any (shows q e) before || (b || false)) (own q e)
      ∙ sym (list_any-append (shows q e) before (m ∷ []))
    where
      own : (q : Reading) (e : ℕ) → (same_reading q r && not (nat_eq e m.entry)) ≡ shows q e m
      own q e = λ i. sym there i && (is_reading q (is i) && not (nat_eq e m.entry))

      other : (q : Reading) (e : ℕ) (b : Bool) → same_reading r q ≡ b
          → is_other_at e (cond b (Some (entries_with m.entry (entries_at old r))) (entries_at old q))
          ≡ (list_any (shows q e) before || ((same_reading q r && not (nat_eq e m.entry)) || false))
      other q e true p =
          let same : r ≡ q = readings_find.equal r q p in
          let self : same_reading q r ≡ true = ap (λ s. same_reading s r) (sym same) ∙ readings_find.self r in
          other-grows e m.entry (entries_at old r)
          ∙ (λ i. is_other_at e (entries_at old (same i)) || not (nat_eq e m.entry))
          ∙ (λ i. h q e i || not (nat_eq e m.entry))
          ∙ ap (λ c. list_any (shows q e) before || c) (sym (or-false _ ∙ ap (λ c. c && not (nat_eq e m.entry)) self))
      other q e false p =
          h q e ∙ sym (ap (λ c. list_any (shows q e) before || ((c && not (nat_eq e m.entry)) || false)) (readings-differ r q p) ∙ or-false _)

alike : (a b c d : Option ℕ) (r : Reading) → Some r ≡ reading_by a b → is_reading r (reading_by c d) ≡ (in_one_group a c && in_one_group b d)
alike None b c d r e = absurd (none-some r (sym e))
alike (Some t) None c d r e = absurd (none-some r (sym e))
alike (Some t) (Some k) None d r e = refl
alike (Some t) (Some k) (Some u) None r e = sym (and-false (nat_eq t u))
alike (Some t) (Some k) (Some u) (Some l) r e = ap (λ q. same_reading q (record { text = u; class = l })) (same_Some r (record { text = t; class = k }) e)

unlike : (a b c d : Option ℕ) → None ≡ reading_by a b → (in_one_group a c && in_one_group b d) ≡ false
unlike None b c d e = refl
unlike (Some t) None c d e = and-false (in_one_group (Some t) c)
unlike (Some t) (Some k) c d e = absurd (none-some (record { text = t; class = k }) e)

module _ (mentions : List Mention) (m : Mention) where
  pub mistaken : (readings : BTreeMap Reading Entries) (r : Reading) → Some r ≡ reading_of mentions m → AreReadingsOf mentions readings mentions
      → is_other_at m.entry (entries_at readings r) ≡ list_any (is_mistaken_for mentions m) mentions
  mistaken readings r is h =
      h r m.entry
      ∙ (λ i. list_any (λ n. n.occurs && (alike (text_of mentions m) (class_of mentions m.entry) (text_of mentions n) (class_of mentions n.entry) r is i && not (nat_eq m.entry n.entry))) mentions)

  pub for-none : None ≡ reading_of mentions m → false ≡ list_any (is_mistaken_for mentions m) mentions
  for-none is = sym (from mentions)
    where
      one : (n : Mention) → is_mistaken_for mentions m n ≡ false
      one n =
          ap (λ b. n.occurs && (b && not (nat_eq m.entry n.entry))) (unlike (text_of mentions m) (class_of mentions m.entry) (text_of mentions n) (class_of mentions n.entry) is) ∙ and-false n.occurs

      from : (xs : List Mention) → list_any (is_mistaken_for mentions m) xs ≡ false
      from [] = refl
      from (x ∷ xs) = λ i. one x i || from xs i
