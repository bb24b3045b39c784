-- What is known of the entries, as cites and requests are added.
use mathlib.Core.Bool.{or-false, or-true}
use Rattle.std.proofs.Common.{◌≡◌, ℕ, Bool, true, false, cond, ◌&&◌, ◌||◌, List, [], ◌∷◌, ◌++◌, Option, Some, None, is_some, length, map, get_or, set, find, replicate, option_and_then, refl, ap, sym, ◌∙◌}
use Rattle.std.specs.Cmp.{IsEquivalence}
use Rattle.std.specs.List.{list_any}
use Rattle.std.specs.Option.{option_and, option_or}
use Rattle.std.proofs.lemmas.List.{map-append}
use Rattle.driver_entries.specs.Entries.{is_in, place}
use Rattle.driver_entries.specs.Laws.{NoTwoEqual}
use Rattle.driver_entries.proofs.Distinct.{is_in-append}
use Rattle.driver_passes.specs.Request.{RequestedCite, Request, cited, entries_of}
use Rattle.driver_positions.specs.FirstProperties.{certain_properties, has_cite_of, first_note, notes_entry}
use Rattle.driver_positions.specs.Seen.{certain_by, last_place, seen_of}
use Rattle.driver_positions.specs.declared.first.Seen.{Seen}
use Rattle.driver_positions.proofs.LastPlaces.{first_note-push, is_within-last, last_place-push}
use Rattle.driver_positions.proofs.Updates.{map-at, map-set_at}

pub and_false : (b : Bool) → (b && false) ≡ false
and_false true = refl
and_false false = refl

seen_same : {a b : Bool} {m n j k : Option ℕ} → a ≡ b → m ≡ n → j ≡ k
    → let s : Seen = record { cited = a; first_note = m; last_noted = j } in s ≡ record { cited = b; first_note = n; last_noted = k }
seen_same p q r = rw (p, q, r) refl

module _ {E P : Type 0} (eq : E → E → Bool) where
  -- what is certain, from what is known
  pub certain-known : (before : List (Request E P)) (r : Request E P) (earlier : List (RequestedCite E P)) (c : RequestedCite E P)
      → certain_by r (length before) (seen_of eq (cited before ++ entries_of earlier) before c.entry) (length earlier) ≡ certain_properties eq before r earlier c
  certain-known before r earlier c =
      let near = is_within-last (notes_entry eq c.entry) r.style.citation.near_note_distance before in
      rw near refl

  module _ (laws : IsEquivalence eq) where
    -- the same of equal entries
    known_by : (E → Bool) → List E → List (Request E P) → Seen
    known_by t cs rs = record {
      cited = list_any t cs;
      first_note = option_and_then (λ r. r.note_number) (find (λ r. is_some r.note_number && list_any t (entries_of r.cites)) rs);
      last_noted = last_place (λ r. is_some r.note_number && list_any t (entries_of r.cites)) rs;
    }

    known-equal : (cs : List E) (rs : List (Request E P)) (x d : E) → eq x d ≡ true → seen_of eq cs rs d ≡ seen_of eq cs rs x
    unfolding known_by
    known-equal cs rs x d h =
        let same : eq d ≡ eq x = λ i. λ y. laws.congr d x y (laws.symm d x ∙ h) i in
        ap (λ t. known_by t cs rs) same

    -- what is known of x, at its place
    pub known-at : (cs : List E) (rs : List (Request E P)) (x : E) (es : List E) → is_in eq x es ≡ true → (d : Seen)
        → get_or (map (seen_of eq cs rs) es) (place eq x es) d ≡ seen_of eq cs rs x
    known-at cs rs x es there d = map-at eq (seen_of eq cs rs) x (known-equal cs rs x) es there d

    -- one more cite
    pub cited-more : (cs : List E) (rs : List (Request E P)) (x : E) (es : List E) → NoTwoEqual eq es → is_in eq x es ≡ true → (s : Seen)
        → s ≡ seen_of eq cs rs x
        → set (map (seen_of eq cs rs) es) (place eq x es) (record s { cited = true }) ≡ map (seen_of eq (cs ++ x ∷ []) rs) es
    cited-more cs rs x es once there s at =
        map-set_at eq (seen_of eq cs rs) x laws (seen_of eq (cs ++ x ∷ []) rs) (record s { cited = true }) (λ d h. known-equal (cs ++ x ∷ []) rs x d h ∙ own) miss es once there
      where
        own : seen_of eq (cs ++ x ∷ []) rs x ≡ record s { cited = true }
        own =
            let listed : is_in eq x (cs ++ x ∷ []) ≡ true = is_in-append eq laws x cs (x ∷ []) ∙ rw (laws.refl x) (or-true (is_in eq x cs)) in
            seen_same listed (sym (ap (λ t. t.first_note) at)) (sym (ap (λ t. t.last_noted) at))

        miss : (d : E) → eq x d ≡ false → seen_of eq cs rs d ≡ seen_of eq (cs ++ x ∷ []) rs d
        miss d h =
            let apart : eq d x ≡ false = laws.symm d x ∙ h in
            let one : is_in eq d (cs ++ x ∷ []) ≡ is_in eq d cs = is_in-append eq laws d cs (x ∷ []) ∙ rw apart (or-false (is_in eq d cs)) in
            seen_same (sym one) refl refl

    -- the request r with the cites so far, which are noted
    abbrev with_cites : Request E P → List (RequestedCite E P) → Request E P
    with_cites r js = record r { cites = js }

    cites-more : (r : Request E P) (js : List (RequestedCite E P)) (c : RequestedCite E P) (e : E)
        → has_cite_of eq e (with_cites r (js ++ c ∷ [])) ≡ (has_cite_of eq e (with_cites r js) || eq e c.entry)
    cites-more r js c e =
        ap (λ l. is_in eq e l) (map-append (λ k. k.entry) js (c ∷ [])) ∙ is_in-append eq laws e (entries_of js) (c.entry ∷ [])
        ∙ ap (λ b. is_in eq e (entries_of js) || b) (or-false (eq e c.entry))

    -- one more cite of r, which is noted where r has a note number
    pub noted-more : (cs : List E) (rs : List (Request E P)) (r : Request E P) (js : List (RequestedCite E P)) (c : RequestedCite E P) (es : List E) → NoTwoEqual eq es → is_in eq c.entry es ≡ true
        → (s : Seen) → s ≡ seen_of eq cs (rs ++ with_cites r js ∷ []) c.entry
        → set (map (seen_of eq cs (rs ++ with_cites r js ∷ [])) es) (place eq c.entry es)
        (record s { first_note = option_or s.first_note r.note_number; last_noted = option_or (option_and r.note_number (Some (length rs))) s.last_noted })
        ≡ map (seen_of eq cs (rs ++ with_cites r (js ++ c ∷ []) ∷ [])) es
    noted-more cs rs r js c es once there s at =
        map-set_at eq (seen_of eq cs (rs ++ with_cites r js ∷ [])) c.entry laws (seen_of eq cs (rs ++ with_cites r (js ++ c ∷ []) ∷ []))
        (record s { first_note = option_or s.first_note r.note_number; last_noted = option_or (option_and r.note_number (Some (length rs))) s.last_noted })
        (λ d h. known-equal cs (rs ++ with_cites r (js ++ c ∷ []) ∷ []) c.entry d h ∙ own) miss es once there
      where
        first-again : (o n : Option ℕ) (b : Bool) → option_or o n ≡ option_or (option_or o (cond b n None)) n
        first-again (Some m) n b = refl
        first-again None n true = by n
          where
            by : (n : Option ℕ) → n ≡ option_or n n
            by None = refl
            by (Some k) = refl
        first-again None n false = refl

        last-again : (n l : Option ℕ) (k : ℕ) (b : Bool) → cond (is_some n && true) (Some k) l ≡ option_or (option_and n (Some k)) (cond (is_some n && b) (Some k) l)
        last-again None l k b = refl
        last-again (Some n) l k b = refl

        own : seen_of eq cs (rs ++ with_cites r (js ++ c ∷ []) ∷ []) c.entry
            ≡ record s { first_note = option_or s.first_note r.note_number; last_noted = option_or (option_and r.note_number (Some (length rs))) s.last_noted }
        own =
            let e = c.entry in
            let n = r.note_number in
            let cites : has_cite_of eq e (with_cites r (js ++ c ∷ [])) ≡ true = cites-more r js c e ∙ rw (laws.refl e) (or-true (has_cite_of eq e (with_cites r js))) in
            let first : first_note eq e (rs ++ with_cites r (js ++ c ∷ []) ∷ []) ≡ option_or s.first_note n =
            first_note-push eq e rs (with_cites r (js ++ c ∷ [])) ∙ ap (λ b. option_or (first_note eq e rs) (cond b n None)) cites
            ∙ first-again (first_note eq e rs) n (has_cite_of eq e (with_cites r js))
            ∙ ap (λ o. option_or o n) (sym (first_note-push eq e rs (with_cites r js)) ∙ sym (ap (λ t. t.first_note) at)) in
            let last : last_place (notes_entry eq e) (rs ++ with_cites r (js ++ c ∷ []) ∷ []) ≡ option_or (option_and n (Some (length rs))) s.last_noted =
            last_place-push (notes_entry eq e) rs (with_cites r (js ++ c ∷ []))
            ∙ ap (λ b. cond (is_some n && b) (Some (length rs)) (last_place (notes_entry eq e) rs)) cites
            ∙ last-again n (last_place (notes_entry eq e) rs) (length rs) (has_cite_of eq e (with_cites r js))
            ∙ ap (λ o. option_or (option_and n (Some (length rs))) o) (sym (last_place-push (notes_entry eq e) rs (with_cites r js)) ∙ sym (ap (λ t. t.last_noted) at)) in
            seen_same (sym (ap (λ t. t.cited) at)) first last

        miss : (d : E) → eq c.entry d ≡ false → seen_of eq cs (rs ++ with_cites r js ∷ []) d ≡ seen_of eq cs (rs ++ with_cites r (js ++ c ∷ []) ∷ []) d
        miss d h =
            let n = r.note_number in
            let apart : eq d c.entry ≡ false = laws.symm d c.entry ∙ h in
            let cites : has_cite_of eq d (with_cites r js) ≡ has_cite_of eq d (with_cites r (js ++ c ∷ [])) =
            sym (cites-more r js c d ∙ rw apart (or-false (has_cite_of eq d (with_cites r js)))) in
            seen_same refl
            (first_note-push eq d rs (with_cites r js) ∙ ap (λ b. option_or (first_note eq d rs) (cond b n None)) cites ∙ sym (first_note-push eq d rs (with_cites r (js ++ c ∷ []))))
            (last_place-push (notes_entry eq d) rs (with_cites r js) ∙ ap (λ b. cond (is_some n && b) (Some (length rs)) (last_place (notes_entry eq d) rs)) cites
            ∙ sym (last_place-push (notes_entry eq d) rs (with_cites r (js ++ c ∷ []))))

    -- nothing is noted where no entry is
    pub unnoted : (cs : List E) (rs : List (Request E P)) (r : Request E P) (es : List E) → ((e : E) → notes_entry eq e r ≡ false)
        → map (seen_of eq cs rs) es ≡ map (seen_of eq cs (rs ++ r ∷ [])) es
    unnoted cs rs r es none = same es
      where
        by : (e : E) (o : Option ℕ) (b : Bool) → r.note_number ≡ o → has_cite_of eq e r ≡ b → (is_some o && b) ≡ false → cond b r.note_number None ≡ None
        by e None true h k q = h
        by e None false h k q = refl
        by e (Some n) true h k q = cc
        by e (Some n) false h k q = refl

        or_none : (o : Option ℕ) → option_or o None ≡ o
        or_none None = refl
        or_none (Some n) = refl

        one : (e : E) → seen_of eq cs rs e ≡ seen_of eq cs (rs ++ r ∷ []) e
        one e =
            let first : first_note eq e (rs ++ r ∷ []) ≡ first_note eq e rs =
            first_note-push eq e rs r
            ∙ ap (λ (o : Option ℕ). option_or (first_note eq e rs) o) (ap (λ b. cond b r.note_number None) refl ∙ by e r.note_number (has_cite_of eq e r) refl refl (none e))
            ∙ or_none (first_note eq e rs) in
            let last : last_place (notes_entry eq e) (rs ++ r ∷ []) ≡ last_place (notes_entry eq e) rs =
            last_place-push (notes_entry eq e) rs r ∙ ap (λ b. cond b (Some (length rs)) (last_place (notes_entry eq e) rs)) (none e) in
            seen_same refl (sym first) (sym last)

        same : (ds : List E) → map (seen_of eq cs rs) ds ≡ map (seen_of eq cs (rs ++ r ∷ [])) ds
        same [] = refl
        same (d ∷ ds) = rw (one d, same ds) refl

-- nothing is known at first
pub unknown : {E : Type 0} (P : Type 0) (eq : E → E → Bool) (es : List E) (n : ℕ) → n ≡ length es
    → replicate n (record { cited = false; first_note = None; last_noted = None }) ≡ map (seen_of {P = P} eq [] []) es
unknown P eq es n count = ap (λ m. replicate m (record { cited = false; first_note = None; last_noted = None })) count ∙ same es
  where
    same : (ds : List _) → replicate (length ds) (record { cited = false; first_note = None; last_noted = None }) ≡ map (seen_of {P = P} eq [] []) ds
    same [] = refl
    same (d ∷ ds) = rw (same ds) refl
