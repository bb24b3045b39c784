-- Names that can tell mentions apart do.
use Rattle.std.proofs.Common.{◌≡◌, ◌≢◌, ◌⊎◌, ℕ, ◌+◌, ◌<◌, ◌≤◌, Bool, true, false, cond, not, ◌&&◌, Some, None, Option, List, [], ◌∷◌, get_or, length, map, take, refl, ap, sym, subst, ◌∙◌, arith, inl, inr, ltb, true≢false, length-take}
use Rattle.std.specs.Prelude.{AllPairs, option_map, slice_get, unwrap_or}
use Rattle.std.specs.List.{enumerate_from, list_any}
use Rattle.std.specs.Option.{option_and_then, option_eq, option_map_or}
use Rattle.std.proofs.lemmas.Bool.{and_from, and_parts, cases_Bool, eq-eqb, lt-ltb, ltb-true, not-true}
use Rattle.std.proofs.lemmas.List.{get_or-map, length-map}
use Rattle.std.proofs.lemmas.List.FromFn.{length-enumerate_from}
use Rattle.std.proofs.lemmas.Option.{none-some, same_Some, slice_get-get_or, slice_get-map, slice_get_past, slice_get_within}
use Rattle.value_sources.specs.Forms.{Forms}
use Rattle.value_sources.specs.Ordered.{extent}
use Rattle.value_sources.specs.declared.entry.Person.{Person}
use Rattle.value_sources.specs.declared.names.DisambiguatedNameForm.{DisambiguatedNameForm}
use Rattle.mentions_names.specs.ByDocument.{document_form}
use Rattle.mentions_names.specs.Forms.{base, greater, greatest_form, only_counts, raised_form, raised_forms, shown, written}
use Rattle.mentions_names.specs.Looks.{full_look, look, needed, same_look}
use Rattle.mentions_names.specs.Persons.{own_forms}
use Rattle.mentions_names.specs.Reaches.{can_be_shown, first_member, is_by_cite, reach, reach_by, reach_form}
use Rattle.mentions_names.specs.Telling.{both_go_on, first_difference, form_against, form_beside, form_needed, group_of, in_one_group, names_against, names_needed}
use Rattle.mentions_names.specs.Told.{asking, least_form, told_by_names}
use Rattle.mentions_names.specs.declared.look.Look.{Look}
use Rattle.mentions_names.specs.declared.mention.MentionedName.{MentionedName}
use Rattle.mentions_names.specs.declared.mention.NamedMention.{NamedMention}
use Rattle.mentions_names.specs.declared.reach.Reach.{Reach}
use Rattle.mentions_names.proofs.Counting.{greatest-short}
use Rattle.mentions_names.proofs.Deciding.{looks_find}
use Rattle.mentions_names.proofs.Differing.{differs-at, is_place, within-both}
use Rattle.mentions_names.proofs.Leading.{same_looks}
use Rattle.mentions_groups.specs.declared.state.MentionState.{MentionState}
use Rattle.mentions_groups.specs.declared.written.Written.{Written}
use Rattle.mentions_tables.specs.Tables.{named}
use Rattle.mentions_tables.specs.declared.subject.Subject.{Subject}
use Rattle.mentions_table_laws.specs.Shown.{NamesCanTell, NamesTell, ShowsLeading, names_as_shown, shown_by, shown_names}
use Rattle.mentions_table_laws.proofs.Apart.{unlike}
use Rattle.mentions_table_laws.proofs.Appearing.{all-shown, base-written, form-at, form-member, forms-are, forms-from, greatest-member, greatest-within, none-left-out, own-written, raised-first, raised-left, raised-shown, raised-written, short-adds-nothing, shown-at, shown-within, shown_in}
use Rattle.mentions_table_laws.proofs.Fuller.{greater-extent}
use Rattle.list_lemmas.proofs.Members.{zip-map}
use Rattle.mentions_table_laws.proofs.Listing.{KeptAt, kept-at}
use Rattle.mentions_table_laws.proofs.Placing.{MadeAt, among-first, before-position, behind-drop, difference-symm, ends-there, made-at, no-difference, one-group, position-within}
use Rattle.mentions_table_laws.proofs.Settled.{settled}

-- how many names one mention needs is at most all
against-within : (a b : Reach) → names_against a b ≤ length a.looks
against-within a b = by (first_difference a.looks b.looks) refl
  where
    by : (o : Option ℕ) → first_difference a.looks b.looks ≡ o → option_map_or (λ i. cond (both_go_on i a b) (i + 1) i) o 0 ≤ length a.looks
    by None e = omega arith
    by (Some i) e = on (both_go_on i a b) refl
      where
        on : (t : Bool) → both_go_on i a b ≡ t → cond t (i + 1) i ≤ length a.looks
        on true f = let h = ltb-true i (length a.looks) (and_parts (ltb i (length a.looks)) (ltb i (length b.looks)) f).0 in omega (arith, h)
        on false f = within-both a.looks b.looks i e

module _ (ms : List NamedMention) where
  abbrev reaches : List Reach
  reaches = asking ms

  reach-occurs : (m : NamedMention) → (reach ms m).occurs ≡ m.occurs
  reach-occurs m = by (first_member ms m)
    where
      by : (o : Option NamedMention) → (reach_by ms m o).occurs ≡ m.occurs
      by None = refl
      by (Some f) = refl

  reach-at : (k : ℕ) (m : NamedMention) → slice_get ms k ≡ Some m → m.occurs ≡ true → KeptAt (λ b. b.occurs) (map (reach ms) ms) (reach ms m)
  reach-at k m there occurs =
      kept-at (λ b. b.occurs) (map (reach ms) ms) k (reach ms m) (slice_get-map (reach ms) ms k ∙ ap (option_map (reach ms)) there) (reach-occurs m ∙ occurs)

  reach-group : (m : NamedMention) → (reach ms m).group ≡ m.group
  reach-group m = by (first_member ms m)
    where
      by : (o : Option NamedMention) → (reach_by ms m o).group ≡ m.group
      by None = refl
      by (Some f) = refl

  -- how its names are shown
  abbrev count_of : NamedMention → ℕ
  count_of m = names_needed reaches (reach ms m)

  abbrev forms_of : NamedMention → Forms
  forms_of m = raised_forms (own_forms m.names) (count_of m) (least_form ms m)

  as-raised : (m : NamedMention) → shown_names m.names (told_by_names ms m) ≡ shown_by m.names (forms_of m)
  as-raised m = ap (shown_by m.names) (forms-are (own_forms m.names) (count_of m) (least_form ms m))

  forms-long : (m : NamedMention) → length (forms_of m) ≡ length m.names
  forms-long m =
      length-map (enumerate_from 0 (own_forms m.names)) (λ p. raised_form (base (own_forms m.names)) (count_of m) p.0 (least_form ms m p.0) p.1)
      ∙ length-enumerate_from 0 (own_forms m.names) ∙ length-map m.names (λ n. n.own)

  own-at : (m : NamedMention) (i : ℕ) (name : MentionedName) → slice_get m.names i ≡ Some name → slice_get (own_forms m.names) i ≡ Some name.own
  own-at m i name there = slice_get-map (λ n. n.own) m.names i ∙ ap (option_map (λ n. n.own)) there

  -- the first names, as many as are needed, are shown
  first-shown : (m : NamedMention) (j : ℕ) (form : DisambiguatedNameForm) → j < count_of m → slice_get (forms_of m) j ≡ Some form → only_counts form ≡ false
  first-shown m j form h there =
      let own = own_forms m.names in
      let at = forms-from own (count_of m) (least_form ms m) j form there in
      ap only_counts (sym at.is_raised) ∙ raised-first (base own) (count_of m) j (least_form ms m j) at.own (base-written own) h

  -- and those that the style shows by itself
  own-shown : (m : NamedMention) (j : ℕ) (form : DisambiguatedNameForm) → j < shown (own_forms m.names) → slice_get (forms_of m) j ≡ Some form → only_counts form ≡ false
  own-shown m j form h there =
      let own = own_forms m.names in
      let at = forms-from own (count_of m) (least_form ms m) j form there in
      ap only_counts (sym at.is_raised)
      ∙ raised-written (base own) (count_of m) j (least_form ms m j) at.own (before-position only_counts own j at.own at.there h)

  -- past these none is, in a style that leaves out none but the last
  others-left : (m : NamedMention) → ShowsLeading (own_forms m.names) → (j : ℕ) (form : DisambiguatedNameForm) → shown (own_forms m.names) ≤ j → count_of m ≤ j
      → slice_get (forms_of m) j ≡ Some form → only_counts form ≡ true
  others-left m leading j form h l there =
      let own = own_forms m.names in
      let at = forms-from own (count_of m) (least_form ms m) j form there in
      ap only_counts (sym at.is_raised)
      ∙ raised-left (base own) (count_of m) j (least_form ms m j) at.own
      (behind-drop (λ f. only_counts f ≡ true) (shown own) own leading j at.own h at.there) l

  count-within : (m : NamedMention) → count_of m ≤ length (reach ms m).looks
  count-within m = greatest-within (names_against (reach ms m)) (length (reach ms m).looks) (against-within (reach ms m)) (group_of reaches (reach ms m))

  module _ (f : NamedMention) where
    -- the look of a name in its greatest form
    abbrev reached : NamedMention → ℕ × MentionedName → Look
    reached m p = look (reach_form (is_by_cite f.rule) (base (own_forms m.names)) (document_form ms m.rule p.0 p.1) p.1.own) p.1.person

    looks-are : (m : NamedMention) → first_member ms m ≡ Some f → (reach ms m).looks ≡ map (reached m) (enumerate_from 0 (can_be_shown f.adds_names m.names))
    looks-are m first = ap (λ o. (reach_by ms m o).looks) first

    cite-is : (m : NamedMention) → first_member ms m ≡ Some f → (reach ms m).by_cite ≡ is_by_cite f.rule
    cite-is m first = ap (λ o. (reach_by ms m o).by_cite) first

    looks-long : (m : NamedMention) → first_member ms m ≡ Some f → length (reach ms m).looks ≡ length (can_be_shown f.adds_names m.names)
    looks-long m first =
        ap length (looks-are m first) ∙ length-map (enumerate_from 0 (can_be_shown f.adds_names m.names)) (reached m)
        ∙ length-enumerate_from 0 (can_be_shown f.adds_names m.names)

    among-names : (adds : Bool) (names : List MentionedName) (i : ℕ) (name : MentionedName) → slice_get (can_be_shown adds names) i ≡ Some name → slice_get names i ≡ Some name
    among-names true names i name e = e
    among-names false names i name e = among-first (shown (own_forms names)) names i name e

    record NameAt (m : NamedMention) (i : ℕ) (r : Look) : Type 0 where
      name : MentionedName
      there : slice_get m.names i ≡ Some name
      is_reached : reached m (i, name) ≡ r

    name-at : (m : NamedMention) → first_member ms m ≡ Some f → (i : ℕ) (r : Look) → slice_get (reach ms m).looks i ≡ Some r → NameAt m i r
    name-at m first i r h =
        let at : MadeAt (reached m) (can_be_shown f.adds_names m.names) i r =
        made-at (reached m) (can_be_shown f.adds_names m.names) i r (ap (λ l. slice_get l i) (sym (looks-are m first)) ∙ h) in
        record { name = at.member; there = among-names f.adds_names m.names i at.member at.there; is_reached = at.is_made }

    -- a name at the first difference, as it is shown
    record AppearsAt (m : NamedMention) (i : ℕ) (r s : Look) : Type 0 where
      person : Person
      form : DisambiguatedNameForm
      is_shown : slice_get (shown_in m.names (forms_of m)) i ≡ Some (look form person)
      as_reached : is_by_cite f.rule ≡ false → look form person ≡ r
      in_full : is_by_cite f.rule ≡ true → r ≡ full_look person
      enough : is_by_cite f.rule ≡ true → extent (needed r (r ∷ s ∷ [])) ≤ extent form

    -- of two members of a group whose reaches first differ at i
    module _ (m x : NamedMention) (l : ℕ) (first : first_member ms m ≡ Some f) (at_x : slice_get ms l ≡ Some x) (there : x.occurs ≡ true) (group : in_one_group m.group x.group ≡ true)
        (i : ℕ) (differ : first_difference (reach ms m).looks (reach ms x).looks ≡ Some i) where
      abbrev a : Reach
      a = reach ms m

      abbrev c : Reach
      c = reach ms x

      together : in_one_group (reach ms m).group (reach ms x).group ≡ true
      together = (λ t. in_one_group (reach-group m t) (reach-group x t)) ∙ group

      needs-against : names_against (reach ms m) (reach ms x) ≤ count_of m
      needs-against = greatest-member (names_against a) (λ b. in_one_group a.group b.group) reaches (reach-at l x at_x there).place c (reach-at l x at_x there).there together

      against-is : names_against (reach ms m) (reach ms x) ≡ cond (both_go_on i (reach ms m) (reach ms x)) (i + 1) i
      against-is = ap (λ o. option_map_or (λ i. cond (both_go_on i a c) (i + 1) i) o 0) differ

      -- those before are shown
      needs-before : i ≤ count_of m
      needs-before = by (both_go_on i a c) against-is
        where
          by : (t : Bool) → names_against a c ≡ cond t (i + 1) i → i ≤ count_of m
          by true e = omega (arith, e, needs-against)
          by false e = omega (arith, e, needs-against)

      module _ (r s : Look) (is_r : slice_get (reach ms m).looks i ≡ Some r) (is_s : slice_get (reach ms x).looks i ≡ Some s) where
        needs-it : i < count_of m
        needs-it =
            let go : both_go_on i a c ≡ true =
            and_from (ltb i (length a.looks)) (ltb i (length c.looks)) (lt-ltb i (length a.looks) (slice_get_within a.looks i r is_r)) (lt-ltb i (length c.looks) (slice_get_within c.looks i s is_s)) in
            let e = against-is ∙ ap (λ t. cond t (i + 1) i) go in
            omega (arith, e, needs-against)

        -- what a group that adds no given names cite by cite needs
        needs-short : is_by_cite f.rule ≡ false → form_needed reaches (reach ms m) i ≡ DisambiguatedNameForm.Short
        needs-short uncited = ap greatest_form (all-short (group_of reaches a)) ∙ greatest-short (group_of reaches a)
          where
            all-short : (bs : List Reach) → map (form_against i a) bs ≡ map (λ b. DisambiguatedNameForm.Short) bs
            all-short [] = refl
            all-short (b ∷ bs) =
                λ t. cond ((cite-is m first ∙ uncited) t && is_place i (first_difference a.looks b.looks)) (form_beside (slice_get a.looks i) (slice_get b.looks i)) DisambiguatedNameForm.Short ∷ all-short bs t

        needs-enough : is_by_cite f.rule ≡ true → extent (needed r (r ∷ s ∷ [])) ≤ extent (form_needed reaches (reach ms m) i)
        needs-enough cited =
            let most = form-member (form_against i a) (λ b. in_one_group a.group b.group) DisambiguatedNameForm.Short reaches (reach-at l x at_x there).place c (reach-at l x at_x there).there together in
            let place : is_place i (first_difference a.looks c.looks) ≡ true = ap (is_place i) differ ∙ eq-eqb i i refl in
            let is : form_against i a c ≡ needed r (r ∷ s ∷ []) =
            (λ t. cond ((cite-is m first ∙ cited) t && place t) (form_beside (is_r t) (is_s t)) DisambiguatedNameForm.Short) in
            subst (λ g. extent g ≤ extent (form_needed reaches (reach ms m) i)) is most

        appears : AppearsAt m i r s
        appears = made (name-at m first i r is_r)
          where
            made : NameAt m i r → AppearsAt m i r s
            made at =
                let b = base (own_forms m.names) in
                let in_document = document_form ms m.rule i at.name in
                let form = greater (greater in_document (form_needed reaches a i)) (written b at.name.own) in
                let least-is : least_form ms m i ≡ greater in_document (form_needed reaches a i) =
                ap (λ o. greater (unwrap_or (option_map (document_form ms m.rule i) o) DisambiguatedNameForm.Short) (form_needed reaches a i)) at.there in
                let form-is : slice_get (forms_of m) i ≡ Some form =
                form-at (own_forms m.names) (count_of m) (least_form ms m) i at.name.own (own-at m i at.name at.there)
                ∙ ap Some (raised-shown b (count_of m) i (least_form ms m i) at.name.own needs-it ∙ ap (λ g. greater g (written b at.name.own)) least-is) in
                record {
                  person = at.name.person;
                  form = form;
                  is_shown = shown-at m.names (forms_of m) i at.name form at.there form-is (λ j g h there. first-shown m j g (omega (arith, h, needs-it)) there);
                  as_reached = λ uncited.
                      ap (λ g. look g at.name.person) ((λ t. greater (greater in_document (needs-short uncited t)) (written b at.name.own)) ∙ short-adds-nothing in_document (written b at.name.own) (own-written b at.name.own (base-written (own_forms m.names))))
                      ∙ ap (λ y. look (reach_form y b in_document at.name.own) at.name.person) (sym uncited) ∙ at.is_reached;
                  in_full = λ cited. sym at.is_reached ∙ ap (λ y. look (reach_form y b in_document at.name.own) at.name.person) cited;
                  enough = λ cited.
                      let need = needs-enough cited in
                      let one = greater-extent in_document (form_needed reaches a i) in
                      let two = greater-extent (greater in_document (form_needed reaches a i)) (written b at.name.own) in
                      omega (arith, need, one, two);
                }

    -- where both go on at the first difference
    go-on : (m x : NamedMention) (i : ℕ) (r s : Look) → AppearsAt m i r s → AppearsAt x i s r → same_look r s ≡ false
        → shown_in m.names (forms_of m) ≡ shown_in x.names (forms_of x) → ⊥
    go-on m x i r s one other apart e = by (cases_Bool (is_by_cite f.rule))
      where
        same : look one.form one.person ≡ look other.form other.person
        same = same_Some (look one.form one.person) (look other.form other.person) (sym one.is_shown ∙ ap (λ l. slice_get l i) e ∙ other.is_shown)

        by : (is_by_cite f.rule ≡ true) ⊎ (is_by_cite f.rule ≡ false) → ⊥
        by (inl cited) =
            let p = one.in_full cited in
            let q = other.in_full cited in
            let d : same_look (full_look one.person) (full_look other.person) ≡ false = (λ t. same_look (sym p t) (sym q t)) ∙ apart in
            let needs_p : extent (needed (full_look one.person) (full_look one.person ∷ full_look other.person ∷ [])) ≡ extent (needed r (r ∷ s ∷ [])) =
            (λ t. extent (needed (sym p t) (sym p t ∷ sym q t ∷ []))) in
            let needs_q : extent (needed (full_look other.person) (full_look other.person ∷ full_look one.person ∷ [])) ≡ extent (needed s (s ∷ r ∷ [])) =
            (λ t. extent (needed (sym q t) (sym q t ∷ sym p t ∷ []))) in
            let enough_p = one.enough cited in
            let enough_q = other.enough cited in
            unlike one.person other.person one.form other.form d (omega (arith, needs_p, enough_p)) (omega (arith, needs_q, enough_q)) same
        by (inr uncited) =
            let alike : r ≡ s = sym (one.as_reached uncited) ∙ same ∙ other.as_reached uncited in
            true≢false (sym (looks_find.self r) ∙ ap (same_look r) alike ∙ apart)

    -- where the first one ends there, and the other goes on
    ends : (m x : NamedMention) (i : ℕ) → first_member ms m ≡ Some f → first_member ms x ≡ Some f → ShowsLeading (own_forms m.names)
        → length (reach ms m).looks ≡ i → i < length (reach ms x).looks → i ≤ count_of m
        → shown_by m.names (forms_of m) ≡ shown_by x.names (forms_of x) → ⊥
    ends m x i first_m first_x leading long goes before e = by f.adds_names (looks-long m first_m) (looks-long x first_x)
      where
        by : (adds : Bool) → length (reach ms m).looks ≡ length (can_be_shown adds m.names) → length (reach ms x).looks ≡ length (can_be_shown adds x.names) → ⊥
        by true all_m all_x =
            let own = own_forms m.names in
            let own_long = length-map m.names (λ n. n.own) in
            let none : list_any only_counts (forms_of m) ≡ false =
            none-left-out (base own) (count_of m) (least_form ms m) 0 own (base-written own) (omega (arith, own_long, all_m, long, before)) in
            let none_too : list_any only_counts (forms_of x) ≡ false = sym (ap (λ (p : List Look × Bool). p.1) e) ∙ none in
            let one = all-shown m.names (forms_of m) (forms-long m) none in
            let other = all-shown x.names (forms_of x) (forms-long x) none_too in
            let same = ap (λ (p : List Look × Bool). length p.0) e in
            omega (arith, one, other, same, all_m, all_x, long, goes)
        by false all_m all_x =
            let own = own_forms m.names in
            let own_x = own_forms x.names in
            let taken = length-take (shown own) m.names in
            let taken_x = length-take (shown own_x) x.names in
            let own_long = length-map m.names (λ n. n.own) in
            let most = position-within only_counts own in
            let ends_there : shown own ≡ i = omega (arith, taken, own_long, most, all_m, long) in
            let further : i < shown own_x = omega (arith, taken_x, all_x, goes) in
            let counted : count_of m ≤ i = (let w = count-within m in omega (arith, w, long)) in
            let few : length (shown_in m.names (forms_of m)) ≤ i =
            shown-within m.names (forms_of m) i (λ j g h there. others-left m leading j g (omega (arith, ends_there, h)) (omega (arith, counted, h)) there) in
            more (slice_get_past (shown_in m.names (forms_of m)) i few) further
          where
            more : slice_get (shown_in m.names (forms_of m)) i ≡ None → i < shown (own_forms x.names) → ⊥
            more none further = found (slice_get (reach ms x).looks i) refl
              where
                found : (o : Option Look) → slice_get (reach ms x).looks i ≡ o → ⊥
                found None h = let past = ends-there (reach ms x).looks i h in omega (arith, past, goes)
                found (Some r) h =
                    let at = name-at x first_x i r h in
                    let form = raised_form (base (own_forms x.names)) (count_of x) i (least_form ms x i) at.name.own in
                    let form-is : slice_get (forms_of x) i ≡ Some form = form-at (own_forms x.names) (count_of x) (least_form ms x) i at.name.own (own-at x i at.name at.there) in
                    let it = shown-at x.names (forms_of x) i at.name form at.there form-is (λ j g k there. own-shown x j g (omega (arith, k, further)) there) in
                    none-some (look form at.name.person) (sym none ∙ ap (λ (p : List Look × Bool). slice_get p.0 i) e ∙ it)

  -- of two mentions of a group
  module _ (m x : NamedMention) (k l : ℕ) (at_m : slice_get ms k ≡ Some m) (at_x : slice_get ms l ≡ Some x) (can : NamesCanTell ms m x) where
    back : in_one_group x.group m.group ≡ true
    back =
        let same = one-group m.group x.group can.one_group in
        (λ t. in_one_group (sym same t) (same t)) ∙ can.one_group

    one-first : first_member ms x ≡ first_member ms m
    one-first = ap (option_and_then (slice_get ms)) (sym (one-group m.group x.group can.one_group))

    module _ (f : NamedMention) (first : first_member ms m ≡ Some f) (i : ℕ) (differ : first_difference (reach ms m).looks (reach ms x).looks ≡ Some i) where
      too : first_member ms x ≡ Some f
      too = one-first ∙ first

      differ-back : first_difference (reach ms x).looks (reach ms m).looks ≡ Some i
      differ-back = difference-symm (reach ms x).looks (reach ms m).looks ∙ differ

      -- what stands there is not the same
      unlike-there : option_eq same_look (slice_get (reach ms m).looks i) (slice_get (reach ms x).looks i) ≡ false
      unlike-there =
          let r = (reach ms m).looks in
          let s = (reach ms x).looks in
          let place : (same_looks (take i r) (take i s) && not (option_eq same_look (slice_get r i) (slice_get s i))) ≡ true =
          sym (differs-at r s i) ∙ ap (is_place i) differ ∙ eq-eqb i i refl in
          not-true (option_eq same_look (slice_get r i) (slice_get s i)) (and_parts (same_looks (take i r) (take i s)) (not (option_eq same_look (slice_get r i) (slice_get s i))) place).1

      ended : slice_get (reach ms m).looks i ≡ None → length (reach ms m).looks ≡ i
      ended e =
          let past = ends-there (reach ms m).looks i e in
          let within = within-both (reach ms m).looks (reach ms x).looks i differ in
          omega (arith, past, within)

      ended-too : slice_get (reach ms x).looks i ≡ None → length (reach ms x).looks ≡ i
      ended-too e =
          let past = ends-there (reach ms x).looks i e in
          let within = within-both (reach ms x).looks (reach ms m).looks i differ-back in
          omega (arith, past, within)

      apart-by : (o q : Option Look) → slice_get (reach ms m).looks i ≡ o → slice_get (reach ms x).looks i ≡ q → option_eq same_look o q ≡ false
          → shown_by m.names (forms_of m) ≢ shown_by x.names (forms_of x)
      apart-by None None p q d e = true≢false d
      apart-by None (Some s) p q d e =
          ends f m x i first too can.leading (ended p) (slice_get_within (reach ms x).looks i s q) (needs-before f m x l first at_x can.occurs_too can.one_group i differ) e
      apart-by (Some r) None p q d e =
          ends f x m i too first can.leading_too (ended-too q) (slice_get_within (reach ms m).looks i r p) (needs-before f x m k too at_m can.occurs back i differ-back) (sym e)
      apart-by (Some r) (Some s) p q d e =
          go-on f m x i r s (appears f m x l first at_x can.occurs_too can.one_group i differ r s p q) (appears f x m k too at_m can.occurs back i differ-back s r q p) d (ap (λ (t : List Look × Bool). t.0) e)

      told-apart : shown_by m.names (forms_of m) ≢ shown_by x.names (forms_of x)
      told-apart = apart-by (slice_get (reach ms m).looks i) (slice_get (reach ms x).looks i) refl refl unlike-there

    by-first : (o : Option NamedMention) → first_member ms m ≡ o → shown_by m.names (forms_of m) ≢ shown_by x.names (forms_of x)
    by-first None e =
        absurd (can.apart (ap (λ o. (reach_by ms m o).looks) e ∙ sym (ap (λ o. (reach_by ms x o).looks) (one-first ∙ e))))
    by-first (Some f) e = differing (first_difference (reach ms m).looks (reach ms x).looks) refl
      where
        differing : (o : Option ℕ) → first_difference (reach ms m).looks (reach ms x).looks ≡ o → shown_by m.names (forms_of m) ≢ shown_by x.names (forms_of x)
        differing None d = absurd (can.apart (no-difference (reach ms m).looks (reach ms x).looks d))
        differing (Some i) d = told-apart f e i d

    pub names-apart : shown_names m.names (told_by_names ms m) ≢ shown_names x.names (told_by_names ms x)
    names-apart e = by-first (first_member ms m) refl (sym (as-raised m) ∙ e ∙ as-raised x)

module _ {M : Type 0} (write : M → MentionState → Written) (subjects : List (Subject M)) where
  named-at : (k : ℕ) (d : Subject M) → k < length subjects → slice_get (map (named write subjects) subjects) k ≡ Some (named write subjects (get_or subjects k d))
  named-at k d h = slice_get-map (named write subjects) subjects k ∙ ap (option_map (named write subjects)) (slice_get-get_or subjects k d h)

  abbrev with_state : Subject M → Subject M × MentionState
  with_state s = (s, settled write subjects s)

  abbrev Tells : Subject M × MentionState → Subject M × MentionState → Type 0
  Tells p q = NamesCanTell (map (named write subjects) subjects) (named write subjects p.0) (named write subjects q.0)
      → names_as_shown write subjects p ≢ names_as_shown write subjects q

  pairs-tell : AllPairs Tells (map with_state subjects)
  pairs-tell i j d h l =
      let long = length-map subjects with_state in
      let in_j : j < length subjects = omega (arith, long, l) in
      let in_i : i < length subjects = omega (arith, in_j, h) in
      subst (λ p. Tells p (get_or (map with_state subjects) j d)) (sym (get_or-map with_state subjects i d.0 d in_i))
      (subst (Tells (with_state (get_or subjects i d.0))) (sym (get_or-map with_state subjects j d.0 d in_j))
      (names-apart (map (named write subjects) subjects) (named write subjects (get_or subjects i d.0)) (named write subjects (get_or subjects j d.0)) i j (named-at i d.0 in_i) (named-at j d.0 in_j)))

  pub names-tell : NamesTell write subjects (map (settled write subjects) subjects)
  names-tell = subst (AllPairs Tells) (sym (zip-map (settled write subjects) subjects)) pairs-tell
