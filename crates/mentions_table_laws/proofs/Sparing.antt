-- Only the ambiguous are told apart.
use Rattle.std.proofs.Common.{◌≡◌, ℕ, ◌+◌, ◌<◌, Bool, true, false, cond, Some, None, Option, List, [], ◌∷◌, filter, get_or, map, refl, ap, sym, subst, ◌∙◌, arith, true≢false}
use Rattle.std.specs.Prelude.{All, option_and_then, option_map, slice_get, unwrap_or}
use Rattle.std.specs.List.{enumerate_from, list_any, range_with_len, zip}
use Rattle.std.proofs.lemmas.Bool.{and_from, and_right, le-ltb}
use Rattle.std.proofs.lemmas.List.Elements.{All-map}
use Rattle.std.proofs.lemmas.List.Folds.{list_any_at}
use Rattle.std.proofs.lemmas.List.FromFn.{get_or-enumerate_from, length-enumerate_from}
use Rattle.std.proofs.lemmas.Option.{get_or_from_slice_get, slice_get-map, slice_get_within}
use Rattle.value_sources.specs.Forms.{Forms}
use Rattle.value_sources.specs.Finds.{Finds, lists_find}
use Rattle.value_sources.specs.declared.names.DisambiguatedNameForm.{DisambiguatedNameForm}
use Rattle.value_styles.specs.declared.style.DisambiguationRule.{DisambiguationRule}
use Rattle.mentions_names.specs.ByDocument.{document_form, form_by_rule}
use Rattle.mentions_names.specs.Forms.{base, greater, greatest_form, raised, raised_form, raised_forms, same_form, same_forms}
use Rattle.mentions_names.specs.Persons.{own_forms}
use Rattle.mentions_names.specs.Reaches.{first_member, reach, reach_by}
use Rattle.mentions_names.specs.Telling.{form_against, form_needed, greatest, group_of as reaches_in_group, in_one_group, names_against, names_needed}
use Rattle.mentions_names.specs.Told.{asking, least_form, told_by_names}
use Rattle.mentions_names.specs.declared.mention.MentionedName.{MentionedName}
use Rattle.mentions_names.specs.declared.mention.NamedMention.{NamedMention}
use Rattle.mentions_names.specs.declared.reach.Reach.{Reach}
use Rattle.mentions_groups.specs.Groups.{has_text, is_ambiguous, is_asked, is_rival}
use Rattle.mentions_groups.specs.Suffixes.{class_of, entry_class, entry_classes, is_entry_asked, laters, suffix_of, suffixes}
use Rattle.mentions_groups.specs.declared.mention.Mention.{Mention}
use Rattle.mentions_groups.specs.declared.state.MentionState.{MentionState}
use Rattle.mentions_groups.specs.declared.written.Written.{Written}
use Rattle.mentions_tables.specs.Asked.{untold}
use Rattle.mentions_tables.specs.Tables.{first_table, mention_in, mentions_in, named, second_table, with_names}
use Rattle.mentions_tables.specs.declared.subject.Subject.{Subject}
use Rattle.mentions_table_laws.specs.Ambiguous.{IsInNoGroup, OnlyAmbiguous, StaysShort, adds_by_document}
use Rattle.mentions_table_laws.specs.Pairs.{AreMentionsInPairs}
use Rattle.mentions_table_laws.specs.SuffixLaws.{EntryClass, suffix_at}
use Rattle.mentions_table_laws.proofs.Choosing.{not-asked, rivals}
use Rattle.mentions_table_laws.proofs.Classing.{entry-at, entry-there, in-none, mistaken, none-gets, same-text, text-known}
use Rattle.mentions_table_laws.proofs.Counted.{suffix-there, suffix-without}
use Rattle.mentions_table_laws.proofs.Fuller.{some_names}
use Rattle.list_lemmas.proofs.Members.{zip-map}
use Rattle.mentions_table_laws.proofs.Listing.{all-every, all-under, enumerated-at}
use Rattle.mentions_table_laws.proofs.Paired.{entries-in-order}
use Rattle.mentions_table_laws.proofs.Settled.{read-by, settled}

-- ---- a mention in no group has no names but for given names by the document

pub forms_find : Finds same_form
forms_find = record { equal = equal; self = self }
  where
    equal : (a b : DisambiguatedNameForm) → same_form a b ≡ true → a ≡ b
    equal DisambiguatedNameForm.Count DisambiguatedNameForm.Count e = refl
    equal DisambiguatedNameForm.Short DisambiguatedNameForm.Short e = refl
    equal DisambiguatedNameForm.LongInitialized DisambiguatedNameForm.LongInitialized e = refl
    equal DisambiguatedNameForm.LongFull DisambiguatedNameForm.LongFull e = refl
    equal _ _ e = absurd (true≢false (sym e))

    self : (a : DisambiguatedNameForm) → same_form a a ≡ true
    self DisambiguatedNameForm.Count = refl
    self DisambiguatedNameForm.Short = refl
    self DisambiguatedNameForm.LongInitialized = refl
    self DisambiguatedNameForm.LongFull = refl

form-stays : (b : DisambiguatedNameForm) (i : ℕ) (own : DisambiguatedNameForm) → raised_form b 0 i DisambiguatedNameForm.Short own ≡ own
form-stays b i DisambiguatedNameForm.Count = ap (λ t. cond t (greater DisambiguatedNameForm.Short b) DisambiguatedNameForm.Count) (le-ltb i 0 (omega arith))
form-stays b i DisambiguatedNameForm.Short = refl
form-stays b i DisambiguatedNameForm.LongInitialized = refl
form-stays b i DisambiguatedNameForm.LongFull = refl

forms-stay : (b : DisambiguatedNameForm) (count : ℕ) (least : ℕ → DisambiguatedNameForm) → count ≡ 0 → ((i : ℕ) → least i ≡ DisambiguatedNameForm.Short) → (n : ℕ) (own : Forms)
    → map (λ p. raised_form b count p.0 (least p.0) p.1) (enumerate_from n own) ≡ own
forms-stay b count least none short n [] = refl
forms-stay b count least none short n (o ∷ os) =
    λ i. ((λ i. raised_form b (none i) n (short n i) o) ∙ form-stays b n o) i ∷ forms-stay b count least none short (n + 1) os i

not-raised : (own : Forms) (count : ℕ) (least : ℕ → DisambiguatedNameForm) → count ≡ 0 → ((i : ℕ) → least i ≡ DisambiguatedNameForm.Short) → raised own count least ≡ None
not-raised own count least none short =
    ap (λ b. cond b None (some_names (raised_forms own count least)))
    (ap (λ fs. same_forms fs own) (forms-stay (base own) count least none short 0 own) ∙ (lists_find forms_find).self own)

module _ (ms : List NamedMention) (m : NamedMention) where
  reach-group : (reach ms m).group ≡ m.group
  reach-group = by (first_member ms m)
    where
      by : (o : Option NamedMention) → (reach_by ms m o).group ≡ m.group
      by None = refl
      by (Some f) = refl

  alone : (bs : List Reach) → filter (λ b. in_one_group None b.group) bs ≡ []
  alone [] = refl
  alone (b ∷ bs) = alone bs

  pub none-told : m.group ≡ None → StaysShort ms m → told_by_names ms m ≡ None
  none-told e short = not-raised (own_forms m.names) (names_needed reaches a) (least_form ms m) none least
    where
      reaches : List Reach
      reaches = asking ms

      a : Reach
      a = reach ms m

      nobody : reaches_in_group reaches a ≡ []
      nobody = ap (λ g. filter (λ b. in_one_group g b.group) reaches) (reach-group ∙ e) ∙ alone reaches

      none : names_needed reaches a ≡ 0
      none = ap (λ bs. greatest (map (names_against a) bs)) nobody

      by-document : (i : ℕ) (o : Option MentionedName) → slice_get m.names i ≡ o
          → unwrap_or (option_map (document_form ms m.rule i) o) DisambiguatedNameForm.Short ≡ DisambiguatedNameForm.Short
      by-document i None there = refl
      by-document i (Some x) there =
          let within = slice_get_within m.names i x there in
          let at : get_or (enumerate_from 0 m.names) i (0, x) ≡ (i, x) =
          get_or-enumerate_from 0 m.names i (0, x) within ∙ (λ t. (zero-plus i t, get_or_from_slice_get m.names i x x there t)) in
          subst (λ p. document_form ms m.rule p.0 p.1 ≡ DisambiguatedNameForm.Short) at
          (short i (0, x) (subst (λ n. i < n) (sym (length-enumerate_from 0 m.names)) within))
        where
          zero-plus : (n : ℕ) → 0 + n ≡ n
          zero-plus n = omega arith

      least : (i : ℕ) → least_form ms m i ≡ DisambiguatedNameForm.Short
      least i =
          (λ t. greater (by-document i (slice_get m.names i) refl t) (form_needed reaches a i))
          ∙ ap (λ bs. greater DisambiguatedNameForm.Short (greatest_form (map (form_against i a) bs))) nobody

short-by-rule : (rule : Option DisambiguationRule) (i : ℕ) (all first : DisambiguatedNameForm) → adds_by_document rule ≡ false
    → form_by_rule rule i all first ≡ DisambiguatedNameForm.Short
short-by-rule None i all first e = refl
short-by-rule (Some DisambiguationRule.ByCite) i all first e = refl
short-by-rule (Some DisambiguationRule.AllNames) i all first e = absurd (true≢false e)
short-by-rule (Some DisambiguationRule.AllNamesWithInitials) i all first e = absurd (true≢false e)
short-by-rule (Some DisambiguationRule.PrimaryName) i all first e = absurd (true≢false e)
short-by-rule (Some DisambiguationRule.PrimaryNameWithInitials) i all first e = absurd (true≢false e)

pub stays-short : (ms : List NamedMention) (m : NamedMention) → adds_by_document m.rule ≡ false → StaysShort ms m
stays-short ms m e =
    all-every (λ p. document_form ms m.rule p.0 p.1 ≡ DisambiguatedNameForm.Short) (λ p. short-by-rule m.rule p.0 _ _ e) (enumerate_from 0 m.names)

-- ---- of all mentions

module _ {M : Type 0} (write : M → MentionState → Written) (subjects : List (Subject M)) where
  -- what no mention of an entry reads as in a table
  apart-in : (state : Subject M → MentionState) (entry : ℕ) → IsInNoGroup (mentions_in write subjects (map state subjects)) entry
      → All (λ s. s.entry ≡ entry → is_ambiguous (mentions_in write subjects (map state subjects)) (mention_in write s (state s)) ≡ false) subjects
  apart-in state entry h =
      let mentions = mentions_in write subjects (map state subjects) in
      all-under (λ m. m.entry ≡ entry → is_ambiguous mentions m ≡ false) (λ s. mention_in write s (state s)) subjects
      (subst (All (λ m. m.entry ≡ entry → is_ambiguous mentions m ≡ false)) (read-by write subjects state) h)

  -- what holds of the mentions of an entry
  of-entry : (entry : ℕ) (P : Subject M × MentionState → Type 0) → All (λ s. s.entry ≡ entry → P (s, settled write subjects s)) subjects
      → All (λ p. p.0.entry ≡ entry → P p) (zip subjects (map (settled write subjects) subjects))
  of-entry entry P h =
      subst (All (λ p. p.0.entry ≡ entry → P p)) (sym (zip-map (settled write subjects) subjects))
      (All-map (λ p. p.0.entry ≡ entry → P p) (λ s. (s, settled write subjects s)) subjects h)

  no-names : (entry : ℕ) → IsInNoGroup (mentions_in write subjects (first_table subjects)) entry
      → All (λ p. p.0.entry ≡ entry → StaysShort (map (named write subjects) subjects) (named write subjects p.0) → p.1.names ≡ None) (zip subjects (map (settled write subjects) subjects))
  no-names entry h =
      let ms = map (named write subjects) subjects in
      let mentions = mentions_in write subjects (first_table subjects) in
      of-entry entry (λ p. StaysShort ms (named write subjects p.0) → p.1.names ≡ None)
      (λ k d l own short. none-told ms (named write subjects (get_or subjects k d)) (in-none mentions (mention_in write (get_or subjects k d) untold) (apart-in (λ s. untold) entry h k d l own)) short)

  no-choice : (entry : ℕ) → IsInNoGroup (mentions_in write subjects (second_table write subjects)) entry
      → All (λ p. p.0.entry ≡ entry → p.1.chosen ≡ false) (zip subjects (map (settled write subjects) subjects))
  no-choice entry h =
      of-entry entry (λ p. p.1.chosen ≡ false)
      (λ k d l own. and_right (write (get_or subjects k d).mention untold).tested
      (is_asked (mentions_in write subjects (second_table write subjects)) (mention_in write (get_or subjects k d) (with_names write subjects (get_or subjects k d))))
      (not-asked (mentions_in write subjects (second_table write subjects)) (mention_in write (get_or subjects k d) (with_names write subjects (get_or subjects k d)))
      (apart-in (with_names write subjects) entry h k d l own)))

  abbrev last_read : List Mention
  last_read = mentions_in write subjects (map (settled write subjects) subjects)

  module _ (entries : ℕ) (pairs : AreMentionsInPairs entries subjects) where
    one-each : map (λ m. m.entry) (laters last_read) ≡ range_with_len 0 entries
    one-each = entries-in-order write (settled write subjects) entries subjects pairs

    -- an entry in no group isn't asked to differ
    spared : (entry : ℕ) → IsInNoGroup last_read entry → is_entry_asked last_read entry ≡ false
    spared entry h = by (is_entry_asked last_read entry) refl
      where
        by : (b : Bool) → is_entry_asked last_read entry ≡ b → b ≡ false
        by false e = refl
        by true e =
            let r = mistaken last_read entry e in
            let m = r.one in
            let within = slice_get_within last_read r.at_other r.other r.is_other in
            let rival : is_rival m r.other ≡ true = rivals m r.other (sym (same-text last_read m r.other r.text r.text_one r.text_other)) (λ same. r.apart (sym same)) in
            let there : is_ambiguous last_read m ≡ true =
            and_from (has_text m) (list_any (is_rival m) last_read) (text-known last_read m r.text r.text_one)
            (list_any_at (is_rival m) last_read r.at_other r.other within (ap (is_rival m) (get_or_from_slice_get last_read r.at_other r.other r.other r.is_other) ∙ rival)) in
            let alone : is_ambiguous last_read m ≡ false =
            subst (λ (x : Mention). x.entry ≡ entry → is_ambiguous last_read x ≡ false) (get_or_from_slice_get last_read r.at_one m m r.is_one)
            (h r.at_one m (slice_get_within last_read r.at_one m r.is_one)) (sym r.own) in
            absurd (true≢false (sym there ∙ alone))

    no-suffix : (entry : ℕ) → IsInNoGroup last_read entry → suffix_at (suffixes last_read) entry ≡ None
    no-suffix entry h = by (slice_get (laters last_read) entry) refl
      where
        es : List EntryClass
        es = entry_classes last_read

        by : (o : Option Mention) → slice_get (laters last_read) entry ≡ o → suffix_at (suffixes last_read) entry ≡ None
        by None e =
            ap (option_and_then (λ s. s)) (slice_get-map (suffix_of es) (enumerate_from 0 es) entry
            ∙ ap (option_map (suffix_of es)) (enumerated-at 0 es entry ∙ ap (option_map (λ x. (0 + entry, x))) (slice_get-map (entry_class last_read) (laters last_read) entry ∙ ap (option_map (entry_class last_read)) e)))
        by (Some m) e =
            let none : (entry_class last_read m).class ≡ None =
            ap (λ b. cond b (class_of last_read m.entry) None) (ap (is_entry_asked last_read) (entry-at last_read entries one-each entry m e) ∙ spared entry h) in
            suffix-there last_read entries one-each entry (entry_class last_read m) (entry-there last_read entries one-each entry m e)
            ∙ suffix-without es entry (entry_class last_read m) None none (none-gets es)

    pub only-ambiguous : OnlyAmbiguous write subjects (second_table write subjects) (map (settled write subjects) subjects)
        (suffixes (mentions_in write subjects (map (settled write subjects) subjects)))
    only-ambiguous = record {
      no_names = no-names;
      by_rule = stays-short;
      no_choice = no-choice;
      no_suffix = no-suffix;
    }
