-- Names are added only as styles say.
use Rattle.std.proofs.Common.{◌≡◌, ℕ, zero, suc, ◌+◌, ◌≤◌, Bool, true, false, cond, not, ◌&&◌, nat_lt, Option, Some, None, List, [], ◌∷◌, length, map, refl, ap, sym, subst, ◌∙◌, arith, true≢false}
use Rattle.std.specs.Prelude.{All, if◌then◌else◌, nat_eq, option_map, slice_get, take, unwrap_or}
use Rattle.std.specs.List.{enumerate_from, fold, position_or_len}
use Rattle.std.specs.Option.{option_eq, option_map_or}
use Rattle.std.proofs.Math.ListN.{length-map}
use Rattle.std.proofs.lemmas.Bool.Decides.{nat_tests}
use Rattle.std.proofs.lemmas.List.Elements.{All-map}
use Rattle.std.proofs.lemmas.List.FromFn.{length-enumerate_from}
use Rattle.std.proofs.lemmas.Option.{none-some, same_Some, slice_get-map}
use Rattle.value_sources.specs.Forms.{Forms}
use Rattle.value_sources.specs.Ordered.{extent}
use Rattle.value_sources.specs.declared.names.DisambiguatedNameForm.{DisambiguatedNameForm}
use Rattle.mentions_names.specs.ByDocument.{document_form}
use Rattle.mentions_names.specs.Forms.{base, greater, only_counts, raised_form, shown, written}
use Rattle.mentions_names.specs.Looks.{same_look}
use Rattle.mentions_names.specs.Persons.{own_forms}
use Rattle.mentions_names.specs.Reaches.{can_be_shown, first_member, is_by_cite, reach, reach_by}
use Rattle.mentions_names.specs.Telling.{both_go_on, first_difference, form_against, form_beside, form_needed, group_of, names_against, names_needed}
use Rattle.mentions_names.specs.Told.{asking, least_form, told_by_names}
use Rattle.mentions_names.specs.declared.look.Look.{Look}
use Rattle.mentions_names.specs.declared.mention.MentionedName.{MentionedName}
use Rattle.mentions_names.specs.declared.mention.NamedMention.{NamedMention}
use Rattle.mentions_names.specs.declared.reach.Reach.{Reach}
use Rattle.mentions_groups.specs.declared.state.MentionState.{MentionState}
use Rattle.mentions_groups.specs.declared.written.Written.{Written}
use Rattle.mentions_tables.specs.Tables.{named, third_table}
use Rattle.mentions_tables.specs.declared.subject.Subject.{Subject}
use Rattle.mentions_table_laws.proofs.Appearing.{base-written, form-at, forms-are, greatest-within, raised-left}
use Rattle.list_lemmas.proofs.Members.{zip-map}
use Rattle.mentions_table_laws.proofs.Listing.{all-every}
use Rattle.mentions_table_laws.proofs.Settled.{settled, third-table}
use Rattle.mentions_laws.specs.Adding.{AddsAsStylesSay, HasForm, NamesAreAsStylesSay, group_adds_given_names, group_adds_names}

-- ---- how many names are needed

diff-within : (rs ss : List Look) (i : ℕ) → first_difference rs ss ≡ Some i → i ≤ length rs
diff-within [] [] i h = absurd (none-some i h)
diff-within [] (s ∷ ss) i h = let same : 0 ≡ i = same_Some 0 i h in omega (arith, same)
diff-within (r ∷ rs) [] i h = let same : 0 ≡ i = same_Some 0 i h in omega (arith, same)
diff-within (r ∷ rs) (s ∷ ss) i h = by (same_look r s) (first_difference rs ss) refl h (diff-within rs ss)
  where
    by : (b : Bool) (o : Option ℕ) → first_difference rs ss ≡ o → (if b then option_map (λ i. i + 1) o else Some 0) ≡ Some i → ((j : ℕ) → first_difference rs ss ≡ Some j → j ≤ length rs) → i ≤ length (r ∷ rs)
    by true None e q more = absurd (none-some i q)
    by true (Some j) e q more =
        let same : j + 1 ≡ i = same_Some (j + 1) i q in
        let within : j ≤ length rs = more j e in
        omega (arith, same, within)
    by false o e q more = let same : 0 ≡ i = same_Some 0 i q in omega (arith, same)

against-within : (a b : Reach) → names_against a b ≤ length a.looks
against-within a b = by (first_difference a.looks b.looks) refl
  where
    at : (i : ℕ) (c d : Bool) → nat_lt i (length a.looks) ≡ c → i ≤ length a.looks → (if c && d then i + 1 else i) ≤ length a.looks
    at i true true e le = grind (arith, nat_tests)
    at i true false e le = le
    at i false d e le = le

    by : (o : Option ℕ) → first_difference a.looks b.looks ≡ o → option_map_or (λ i. if both_go_on i a b then i + 1 else i) o 0 ≤ length a.looks
    by None e = omega arith
    by (Some i) e = at i (nat_lt i (length a.looks)) (nat_lt i (length b.looks)) refl (diff-within a.looks b.looks i e)

needed-within : (reaches : List Reach) (a : Reach) → names_needed reaches a ≤ length a.looks
needed-within reaches a = greatest-within (names_against a) (length a.looks) (against-within a) (group_of reaches a)

taken-within : {X : Type 0} (n : ℕ) (xs : List X) → length (take n xs) ≤ n
taken-within zero [] = omega arith
taken-within zero (x ∷ xs) = omega arith
taken-within (suc n) [] = omega arith
taken-within (suc n) (x ∷ xs) = let more = taken-within n xs in omega (arith, more)

-- a style shows no name by itself from the first on that it leaves out
left-out : (own : Forms) (i : ℕ) (o : DisambiguatedNameForm) → slice_get own i ≡ Some o → only_counts o ≡ true → shown own ≤ i
left-out [] i o h e = absurd (none-some o h)
left-out (f ∷ own) zero o h e = ap-le (ap only_counts (same_Some f o h) ∙ e)
  where
    ap-le : only_counts f ≡ true → position_or_len only_counts (f ∷ own) ≤ zero
    ap-le t = subst (λ b. cond (not b) (1 + position_or_len only_counts own) 0 ≤ zero) (sym t) (omega arith)
left-out (f ∷ own) (suc i) o h e = by (only_counts f) (left-out own i o h e)
  where
    by : (b : Bool) → position_or_len only_counts own ≤ i → cond (not b) (1 + position_or_len only_counts own) 0 ≤ suc i
    by true le = omega arith
    by false le = omega (arith, le)

module _ (mentions : List NamedMention) (m : NamedMention) where
  -- where the group's style adds no names
  looks-shown : group_adds_names mentions m ≡ false → length (reach mentions m).looks ≤ shown (own_forms m.names)
  looks-shown off = by (first_member mentions m) refl
    where
      within : (adds : Bool) → adds ≡ false → length (can_be_shown adds m.names) ≤ shown (own_forms m.names)
      within true e = absurd (true≢false e)
      within false e = taken-within (shown (own_forms m.names)) m.names

      by : (o : Option NamedMention) → first_member mentions m ≡ o → length (reach_by mentions m o).looks ≤ shown (own_forms m.names)
      by None e = omega arith
      by (Some f) e =
          let adds : f.adds_names ≡ false = sym (ap (λ o. option_map_or (λ (f : NamedMention). f.adds_names) o false) e) ∙ off in
          let long = length-map (enumerate_from 0 (can_be_shown f.adds_names m.names)) _ ∙ length-enumerate_from 0 (can_be_shown f.adds_names m.names) in
          subst (λ n. n ≤ shown (own_forms m.names)) (sym long) (within f.adds_names adds)

  -- where it adds no given names cite by cite
  not-by-cite : group_adds_given_names mentions m ≡ false → (reach mentions m).by_cite ≡ false
  not-by-cite off = by (first_member mentions m) refl
    where
      by : (o : Option NamedMention) → first_member mentions m ≡ o → (reach_by mentions m o).by_cite ≡ false
      by None e = refl
      by (Some f) e = sym (ap (λ o. option_map_or (λ (f : NamedMention). is_by_cite f.rule) o false) e) ∙ off

  short-against : (a : Reach) → a.by_cite ≡ false → (i : ℕ) (b : Reach) → form_against i a b ≡ DisambiguatedNameForm.Short
  short-against a off i b =
      ap (λ c. if c && option_eq nat_eq (first_difference a.looks b.looks) (Some i) then form_beside (slice_get a.looks i) (slice_get b.looks i) else DisambiguatedNameForm.Short) off

  all-short : (a : Reach) → a.by_cite ≡ false → (i : ℕ) (bs : List Reach) → fold greater DisambiguatedNameForm.Short (map (form_against i a) bs) ≡ DisambiguatedNameForm.Short
  all-short a off i [] = refl
  all-short a off i (b ∷ bs) = ap (λ f. fold greater (greater DisambiguatedNameForm.Short f) (map (form_against i a) bs)) (short-against a off i b) ∙ all-short a off i bs

  own-there : (i : ℕ) (name : MentionedName) → slice_get m.names i ≡ Some name → slice_get (own_forms m.names) i ≡ Some name.own
  own-there i name h = slice_get-map (λ n. n.own) m.names i ∙ ap (option_map (λ n. n.own)) h

  abbrev count : ℕ
  count = names_needed (asking mentions) (reach mentions m)

  form-is : (i : ℕ) (name : MentionedName) (form : DisambiguatedNameForm) → HasForm mentions m (told_by_names mentions m) i name form
      → raised_form (base (own_forms m.names)) count i (least_form mentions m i) name.own ≡ form
  form-is i name form h =
      same_Some _ form (sym (form-at (own_forms m.names) count (least_form mentions m) i name.own (own-there i name h.is_name))
      ∙ sym (ap (λ fs. slice_get fs i) (forms-are (own_forms m.names) count (least_form mentions m))) ∙ h.is_form)

  short-least : (b : DisambiguatedNameForm) (n i : ℕ) (own : DisambiguatedNameForm) → 1 ≤ extent b → only_counts (raised_form b n i DisambiguatedNameForm.Short own) ≡ false
      → raised_form b n i DisambiguatedNameForm.Short own ≡ written b own
  short-least b n i DisambiguatedNameForm.Short le h = refl
  short-least b n i DisambiguatedNameForm.LongInitialized le h = refl
  short-least b n i DisambiguatedNameForm.LongFull le h = refl
  short-least b n i DisambiguatedNameForm.Count le h = by (nat_lt i n) h
    where
      above : (b : DisambiguatedNameForm) → 1 ≤ extent b → greater DisambiguatedNameForm.Short b ≡ b
      above DisambiguatedNameForm.Count l = absurd (omega (arith, l))
      above DisambiguatedNameForm.Short l = refl
      above DisambiguatedNameForm.LongInitialized l = refl
      above DisambiguatedNameForm.LongFull l = refl

      by : (t : Bool) → only_counts (if t then greater DisambiguatedNameForm.Short b else DisambiguatedNameForm.Count) ≡ false
          → (if t then greater DisambiguatedNameForm.Short b else DisambiguatedNameForm.Count) ≡ b
      by true q = above b le
      by false q = absurd (true≢false q)

  pub adds-as-said : AddsAsStylesSay mentions m (told_by_names mentions m)
  adds-as-said = record {
    no_names = λ off i name form h out.
        let within : count ≤ length (reach mentions m).looks = needed-within (asking mentions) (reach mentions m) in
        let looks : length (reach mentions m).looks ≤ shown (own_forms m.names) = looks-shown off in
        let past : shown (own_forms m.names) ≤ i = left-out (own_forms m.names) i name.own (own-there i name h.is_name) out in
        sym (ap only_counts (form-is i name form h)) ∙ raised-left (base (own_forms m.names)) count i (least_form mentions m i) name.own out (omega (arith, within, looks, past));
    no_given_names = λ off i name form h short seen.
        let document : unwrap_or (option_map (document_form mentions m.rule i) (slice_get m.names i)) DisambiguatedNameForm.Short ≡ DisambiguatedNameForm.Short =
        ap (λ o. unwrap_or (option_map (document_form mentions m.rule i) o) DisambiguatedNameForm.Short) h.is_name ∙ short in
        let need : form_needed (asking mentions) (reach mentions m) i ≡ DisambiguatedNameForm.Short =
        all-short (reach mentions m) (not-by-cite off) i (group_of (asking mentions) (reach mentions m)) in
        let least : least_form mentions m i ≡ DisambiguatedNameForm.Short = λ t. greater (document t) (need t) in
        let is = ap (λ l. raised_form (base (own_forms m.names)) count i l name.own) (sym least) ∙ form-is i name form h in
        sym is ∙ short-least (base (own_forms m.names)) count i name.own (base-written (own_forms m.names)) (ap only_counts is ∙ seen);
  }

pub as-styles-say : {M : Type 0} (write : M → MentionState → Written) (subjects : List (Subject M)) → NamesAreAsStylesSay write subjects (third_table write subjects)
as-styles-say write subjects =
    subst (NamesAreAsStylesSay write subjects) (sym (third-table write subjects))
    (subst (All (λ p. AddsAsStylesSay (map (named write subjects) subjects) (named write subjects p.0) p.1.names)) (sym (zip-map (settled write subjects) subjects))
    (All-map (λ p. AddsAsStylesSay (map (named write subjects) subjects) (named write subjects p.0) p.1.names) (λ s. (s, settled write subjects s)) subjects
    (all-every (λ s. AddsAsStylesSay (map (named write subjects) subjects) (named write subjects s) (settled write subjects s).names)
    (λ s. adds-as-said (map (named write subjects) subjects) (named write subjects s)) subjects)))
