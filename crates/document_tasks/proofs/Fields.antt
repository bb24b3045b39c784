-- What was put under a key is found there, and no other keys are.
use Rattle.std.proofs.Common.{◌≡◌, ℕ, ◌&&◌, ◌||◌, List, [], ◌∷◌, Bool, true, false, cond, Option, Some, None, refl, ap, sym, ◌∙◌, subst, true≢false}
use Rattle.std.specs.Prelude.{is_some, not}
use Rattle.std.specs.Str.{bytes_eq}
use Rattle.std.specs.List.{list_all}
use Rattle.std.specs.Ordering.{nat_cmp, match_ordering}
use Rattle.std.specs.Cmp.Lexicographic.{slice_cmp}
use Rattle.std.specs.declared.cmp.Ordering.{Ordering}
use Rattle.std.specs.declared.cmp.Ordering.TheVariants.{Less, Equal, Greater}
use Rattle.std.proofs.lemmas.Slice.Eq.{bytes_eq-Decides}
use Rattle.std.proofs.lemmas.Bool.{and_from}
use Rattle.serde_json.specs.Data.{Data, Members, no_members, member, put}
use Rattle.serde_json.specs.Find.{get_member}
use Rattle.serde_json.proofs.Views.{get_member-put, get_member-put_other}
use Rattle.document_values.specs.Words.{first_of, member_keys}
use Rattle.document_tasks.specs.TaskData.{Fields, put_if, put_fields}

-- ---- what is found under a key

-- what the last of these fields under the key has, or else what was there before
abbrev pub field_at : Fields → List ℕ → Option Data → Option Data
field_at [] k before = before
field_at (field ∷ fields) k before = field_at fields k (cond (bytes_eq k field.0) (first_of field.1 before) before)

either : {A : Type 0} (b : Bool) (x : A) → x ≡ cond b x x
either true x = refl
either false x = refl

found_put : (k l : List ℕ) (d : Data) (ms : Members) (b : Bool) → bytes_eq k l ≡ b → get_member k (put l d ms) ≡ cond b (Some d) (get_member k ms)
found_put k l d ms true e = subst (λ (j : List ℕ). get_member k (put j d ms) ≡ Some d) ((bytes_eq-Decides k l).0 e) (get_member-put k d ms)
found_put k l d ms false e = get_member-put_other k l d ms (λ h. absurd (true≢false (sym ((bytes_eq-Decides k l).1 h) ∙ e)))

found_put_if : (k l : List ℕ) (o : Option Data) (ms : Members) → get_member k (put_if l o ms) ≡ cond (bytes_eq k l) (first_of o (get_member k ms)) (get_member k ms)
found_put_if k l None ms = either (bytes_eq k l) (get_member k ms)
found_put_if k l (Some d) ms = found_put k l d ms (bytes_eq k l) refl

pub found_field : (fields : Fields) (k : List ℕ) (ms : Members) → get_member k (put_fields fields ms) ≡ field_at fields k (get_member k ms)
found_field [] k ms = refl
found_field (field ∷ fields) k ms = found_field fields k (put_if field.0 field.1 ms) ∙ ap (field_at fields k) (found_put_if k field.0 field.1 ms)

-- ---- which keys there are

module _ (p : List ℕ → Bool) where
  abbrev Each : Members → Type 0
  Each ms = list_all p (member_keys ms) ≡ true

  front : (a b : Bool) → a && b ≡ true → a ≡ true
  front true b e = refl
  front false b e = cc

  rest : (a b : Bool) → a && b ≡ true → b ≡ true
  rest true b e = e
  rest false b e = cc

  put_each : (k : List ℕ) (d : Data) (ms : Members) → p k ≡ true → Each ms → Each (put k d ms)
  put_each k d no_members h all = and_from (p k) true h refl
  put_each k d (member l e ms) h all =
      let first = front (p l) (list_all p (member_keys ms)) all in
      let others = rest (p l) (list_all p (member_keys ms)) all in
      by first others (put_each k d ms h others) (slice_cmp nat_cmp k l)
    where
      by : p l ≡ true → Each ms → Each (put k d ms) → (o : Ordering) → Each (match_ordering o (member k d (member l e ms)) (member l d ms) (member l e (put k d ms)))
      by first others later Less = and_from (p k) (list_all p (member_keys (member l e ms))) h all
      by first others later Equal = and_from (p l) (list_all p (member_keys ms)) first others
      by first others later Greater = and_from (p l) (list_all p (member_keys (put k d ms))) first later

  -- a field that is there has such a key
  abbrev pub allows : List ℕ × Option Data → Bool
  allows field = p field.0 || not (is_some field.1)

  put_allowed : (k : List ℕ) (o : Option Data) (ms : Members) → allows (k, o) ≡ true → Each ms → Each (put_if k o ms)
  put_allowed k None ms h all = all
  put_allowed k (Some d) ms h all = put_each k d ms (by (p k) h) all
    where
      by : (b : Bool) → b || false ≡ true → b ≡ true
      by true e = refl
      by false e = e

  pub fields_each : (fields : Fields) (ms : Members) → list_all allows fields ≡ true → Each ms → Each (put_fields fields ms)
  fields_each [] ms h all = all
  fields_each (field ∷ fields) ms h all =
      fields_each fields (put_if field.0 field.1 ms) (rest (allows field) (list_all allows fields) h)
      (put_allowed field.0 field.1 ms (front (allows field) (list_all allows fields) h) all)
