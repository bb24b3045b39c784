-- Names as they appear in forms.
use Rattle.std.proofs.Common.{◌≡◌, ℕ, ◌+◌, ◌<◌, ◌≤◌, zero, suc, Bool, true, false, cond, ◌||◌, Some, None, Option, List, [], ◌∷◌, filter, filter_map, length, map, refl, ap, sym, ◌∙◌, arith, true≢false}
use Rattle.std.specs.Prelude.{fold, option_map, slice_get}
use Rattle.std.specs.List.{cons_option, enumerate_from, list_any, zip}
use Rattle.std.proofs.lemmas.Bool.{le-ltb, lt-ltb, or_parts}
use Rattle.std.proofs.lemmas.Option.{none-some, same_Some, slice_get-map}
use Rattle.value_sources.specs.Finds.{lists_find}
use Rattle.value_sources.specs.Forms.{Forms}
use Rattle.value_sources.specs.Ordered.{extent}
use Rattle.value_sources.specs.declared.names.DisambiguatedNameForm.{DisambiguatedNameForm}
use Rattle.mentions_names.specs.Forms.{base, greater, only_counts, raised, raised_form, raised_forms, same_forms, written}
use Rattle.mentions_names.specs.Looks.{look}
use Rattle.mentions_names.specs.Telling.{greatest}
use Rattle.mentions_names.specs.declared.look.Look.{Look}
use Rattle.mentions_names.specs.declared.mention.MentionedName.{MentionedName}
use Rattle.mentions_table_laws.specs.Shown.{forms_in, shown_name}
use Rattle.mentions_table_laws.proofs.Fuller.{greater-extent, some_names}
use Rattle.mentions_table_laws.proofs.Listing.{enumerated-at}
use Rattle.mentions_table_laws.proofs.Sparing.{forms_find}

-- ---- forms

pub counts-nothing : (form : DisambiguatedNameForm) → only_counts form ≡ false → 1 ≤ extent form
counts-nothing DisambiguatedNameForm.Count e = absurd (true≢false e)
counts-nothing DisambiguatedNameForm.Short e = omega arith
counts-nothing DisambiguatedNameForm.LongInitialized e = omega arith
counts-nothing DisambiguatedNameForm.LongFull e = omega arith

pub is-written : (form : DisambiguatedNameForm) → 1 ≤ extent form → only_counts form ≡ false
is-written DisambiguatedNameForm.Count h = absurd (omega arith)
is-written DisambiguatedNameForm.Short h = refl
is-written DisambiguatedNameForm.LongInitialized h = refl
is-written DisambiguatedNameForm.LongFull h = refl

-- the greatest of forms is above each
pub fold-above : (f : DisambiguatedNameForm) (fs : Forms) → extent f ≤ extent (fold greater f fs)
fold-above f [] = omega arith
fold-above f (g ∷ gs) =
    let more = fold-above (greater f g) gs in
    let one = greater-extent f g in
    omega (arith, more, one)

pub base-written : (own : Forms) → 1 ≤ extent (base own)
base-written own = fold-above DisambiguatedNameForm.Short own

pub own-written : (b own : DisambiguatedNameForm) → 1 ≤ extent b → 1 ≤ extent (written b own)
own-written b DisambiguatedNameForm.Count h = h
own-written b DisambiguatedNameForm.Short h = omega arith
own-written b DisambiguatedNameForm.LongInitialized h = omega arith
own-written b DisambiguatedNameForm.LongFull h = omega arith

-- a name that is shown
pub raised-shown : (b : DisambiguatedNameForm) (count i : ℕ) (least own : DisambiguatedNameForm) → i < count → raised_form b count i least own ≡ greater least (written b own)
raised-shown b count i least DisambiguatedNameForm.Count h = ap (λ t. cond t (greater least b) DisambiguatedNameForm.Count) (lt-ltb i count h)
raised-shown b count i least DisambiguatedNameForm.Short h = refl
raised-shown b count i least DisambiguatedNameForm.LongInitialized h = refl
raised-shown b count i least DisambiguatedNameForm.LongFull h = refl

-- what is added to a written form
pub short-adds-nothing : (f w : DisambiguatedNameForm) → 1 ≤ extent w → greater (greater f DisambiguatedNameForm.Short) w ≡ greater f w
short-adds-nothing f DisambiguatedNameForm.Count h = absurd (omega arith)
short-adds-nothing DisambiguatedNameForm.Count DisambiguatedNameForm.Short h = refl
short-adds-nothing DisambiguatedNameForm.Count DisambiguatedNameForm.LongInitialized h = refl
short-adds-nothing DisambiguatedNameForm.Count DisambiguatedNameForm.LongFull h = refl
short-adds-nothing DisambiguatedNameForm.Short DisambiguatedNameForm.Short h = refl
short-adds-nothing DisambiguatedNameForm.Short DisambiguatedNameForm.LongInitialized h = refl
short-adds-nothing DisambiguatedNameForm.Short DisambiguatedNameForm.LongFull h = refl
short-adds-nothing DisambiguatedNameForm.LongInitialized DisambiguatedNameForm.Short h = refl
short-adds-nothing DisambiguatedNameForm.LongInitialized DisambiguatedNameForm.LongInitialized h = refl
short-adds-nothing DisambiguatedNameForm.LongInitialized DisambiguatedNameForm.LongFull h = refl
short-adds-nothing DisambiguatedNameForm.LongFull DisambiguatedNameForm.Short h = refl
short-adds-nothing DisambiguatedNameForm.LongFull DisambiguatedNameForm.LongInitialized h = refl
short-adds-nothing DisambiguatedNameForm.LongFull DisambiguatedNameForm.LongFull h = refl

-- names that are written by themselves stay so
pub raised-written : (b : DisambiguatedNameForm) (count i : ℕ) (least own : DisambiguatedNameForm) → only_counts own ≡ false → only_counts (raised_form b count i least own) ≡ false
raised-written b count i least DisambiguatedNameForm.Count e = absurd (true≢false e)
raised-written b count i least DisambiguatedNameForm.Short e =
    let m = greater-extent least DisambiguatedNameForm.Short in is-written (greater least DisambiguatedNameForm.Short) (omega (arith, m))
raised-written b count i least DisambiguatedNameForm.LongInitialized e =
    let m = greater-extent least DisambiguatedNameForm.LongInitialized in is-written (greater least DisambiguatedNameForm.LongInitialized) (omega (arith, m))
raised-written b count i least DisambiguatedNameForm.LongFull e =
    let m = greater-extent least DisambiguatedNameForm.LongFull in is-written (greater least DisambiguatedNameForm.LongFull) (omega (arith, m))

-- and so are the first ones
pub raised-first : (b : DisambiguatedNameForm) (count i : ℕ) (least own : DisambiguatedNameForm) → 1 ≤ extent b → i < count → only_counts (raised_form b count i least own) ≡ false
raised-first b count i least own h l =
    let w = own-written b own h in
    let m = greater-extent least (written b own) in
    let at = ap extent (raised-shown b count i least own l) in
    is-written (raised_form b count i least own) (omega (arith, w, m, at))

-- the others aren't, where they aren't by themselves
pub raised-left : (b : DisambiguatedNameForm) (count i : ℕ) (least own : DisambiguatedNameForm) → only_counts own ≡ true → count ≤ i → only_counts (raised_form b count i least own) ≡ true
raised-left b count i least DisambiguatedNameForm.Count e h = ap (λ t. only_counts (cond t (greater least b) DisambiguatedNameForm.Count)) (le-ltb i count h)
raised-left b count i least DisambiguatedNameForm.Short e h = absurd (true≢false (sym e))
raised-left b count i least DisambiguatedNameForm.LongInitialized e h = absurd (true≢false (sym e))
raised-left b count i least DisambiguatedNameForm.LongFull e h = absurd (true≢false (sym e))

-- the forms of a state
pub forms-are : (own : Forms) (count : ℕ) (least : ℕ → DisambiguatedNameForm) → forms_in own (raised own count least) ≡ raised_forms own count least
forms-are own count least = by (same_forms (raised_forms own count least) own) refl
  where
    by : (b : Bool) → same_forms (raised_forms own count least) own ≡ b → forms_in own (cond b None (some_names (raised_forms own count least))) ≡ raised_forms own count least
    by true e = sym ((lists_find forms_find).equal (raised_forms own count least) own e)
    by false e = refl

pub form-at : (own : Forms) (count : ℕ) (least : ℕ → DisambiguatedNameForm) (i : ℕ) (o : DisambiguatedNameForm) → slice_get own i ≡ Some o
    → slice_get (raised_forms own count least) i ≡ Some (raised_form (base own) count i (least i) o)
form-at own count least i o there =
    slice_get-map (λ p. raised_form (base own) count p.0 (least p.0) p.1) (enumerate_from 0 own) i
    ∙ ap (option_map (λ p. raised_form (base own) count p.0 (least p.0) p.1)) (enumerated-at 0 own i ∙ ap (option_map (λ x. (0 + i, x))) there)
    ∙ ap (λ n. Some (raised_form (base own) count n (least n) o)) (zero-plus i)
  where
    zero-plus : (n : ℕ) → 0 + n ≡ n
    zero-plus n = omega arith

-- what a form was raised from
pub record RaisedAt (forms : Forms) (count : ℕ) (least : ℕ → DisambiguatedNameForm) (i : ℕ) (form : DisambiguatedNameForm) : Type 0 where
  pub own : DisambiguatedNameForm
  pub there : slice_get forms i ≡ Some own
  pub is_raised : raised_form (base forms) count i (least i) own ≡ form

pub forms-from : (own : Forms) (count : ℕ) (least : ℕ → DisambiguatedNameForm) (i : ℕ) (form : DisambiguatedNameForm) → slice_get (raised_forms own count least) i ≡ Some form
    → RaisedAt own count least i form
forms-from own count least i form h = by (slice_get own i) refl
  where
    by : (o : Option DisambiguatedNameForm) → slice_get own i ≡ o → RaisedAt own count least i form
    by None e =
        absurd (none-some form (sym (slice_get-map (λ p. raised_form (base own) count p.0 (least p.0) p.1) (enumerate_from 0 own) i
        ∙ ap (option_map (λ p. raised_form (base own) count p.0 (least p.0) p.1)) (enumerated-at 0 own i ∙ ap (option_map (λ x. (0 + i, x))) e)) ∙ h))
    by (Some o) e = record {
      own = o;
      there = e;
      is_raised = same_Some (raised_form (base own) count i (least i) o) form (sym (form-at own count least i o e) ∙ h);
    }

-- ---- what a member asks for is at most the greatest

module _ {X : Type 0} where
  pub greatest-member : (f : X → ℕ) (p : X → Bool) (xs : List X) (k : ℕ) (x : X) → slice_get xs k ≡ Some x → p x ≡ true → f x ≤ greatest (map f (filter p xs))
  greatest-member f p [] k x there passes = absurd (none-some x there)
  greatest-member f p (y ∷ ys) zero x there passes = by (p y) (ap p (same_Some y x there) ∙ passes)
    where
      here : f y ≡ f x
      here = ap f (same_Some y x there)

      by : (b : Bool) → b ≡ true → f x ≤ greatest (map f (cond b (y ∷ filter p ys) (filter p ys)))
      by true e = omega (arith, here)
      by false e = absurd (true≢false (sym e))
  greatest-member f p (y ∷ ys) (suc k) x there passes = by (p y) (greatest-member f p ys k x there passes)
    where
      by : (b : Bool) → f x ≤ greatest (map f (filter p ys)) → f x ≤ greatest (map f (cond b (y ∷ filter p ys) (filter p ys)))
      by true rest = omega (arith, rest)
      by false rest = rest

  pub greatest-within : (f : X → ℕ) (n : ℕ) → ((x : X) → f x ≤ n) → (xs : List X) → greatest (map f xs) ≤ n
  greatest-within f n h [] = omega arith
  greatest-within f n h (x ∷ xs) =
      let one = h x in
      let rest = greatest-within f n h xs in
      omega (arith, one, rest)

  pub form-member : (f : X → DisambiguatedNameForm) (p : X → Bool) (s : DisambiguatedNameForm) (xs : List X) (k : ℕ) (x : X) → slice_get xs k ≡ Some x → p x ≡ true
      → extent (f x) ≤ extent (fold greater s (map f (filter p xs)))
  form-member f p s [] k x there passes = absurd (none-some x there)
  form-member f p s (y ∷ ys) zero x there passes = by (p y) (ap p (same_Some y x there) ∙ passes)
    where
      here : extent (f y) ≡ extent (f x)
      here = ap (λ z. extent (f z)) (same_Some y x there)

      by : (b : Bool) → b ≡ true → extent (f x) ≤ extent (fold greater s (map f (cond b (y ∷ filter p ys) (filter p ys))))
      by true e =
          let one = greater-extent s (f y) in
          let more = fold-above (greater s (f y)) (map f (filter p ys)) in
          omega (arith, here, one, more)
      by false e = absurd (true≢false (sym e))
  form-member f p s (y ∷ ys) (suc k) x there passes = by (p y) (form-member f p (greater s (f y)) ys k x there passes) (form-member f p s ys k x there passes)
    where
      by : (b : Bool) → extent (f x) ≤ extent (fold greater (greater s (f y)) (map f (filter p ys))) → extent (f x) ≤ extent (fold greater s (map f (filter p ys)))
          → extent (f x) ≤ extent (fold greater s (map f (cond b (y ∷ filter p ys) (filter p ys))))
      by true kept left = kept
      by false kept left = left

-- ---- what is shown

abbrev pub shown_in : List MentionedName → Forms → List Look
shown_in names forms = filter_map shown_name (zip names forms)

-- behind names that are all shown
pub shown-at : (names : List MentionedName) (forms : Forms) (i : ℕ) (name : MentionedName) (form : DisambiguatedNameForm) → slice_get names i ≡ Some name → slice_get forms i ≡ Some form
    → ((j : ℕ) (f : DisambiguatedNameForm) → j ≤ i → slice_get forms j ≡ Some f → only_counts f ≡ false)
    → slice_get (shown_in names forms) i ≡ Some (look form name.person)
shown-at [] forms i name form at_name at_form first = absurd (none-some name at_name)
shown-at (n ∷ ns) [] i name form at_name at_form first = absurd (none-some form at_form)
shown-at (n ∷ ns) (f ∷ fs) zero name form at_name at_form first =
    ap (λ b. slice_get (cons_option (cond b None (Some (look f n.person))) (shown_in ns fs)) 0) (first 0 f (omega arith) refl)
    ∙ (λ t. Some (look (same_Some f form at_form t) (same_Some n name at_name t).person))
shown-at (n ∷ ns) (f ∷ fs) (suc i) name form at_name at_form first =
    ap (λ b. slice_get (cons_option (cond b None (Some (look f n.person))) (shown_in ns fs)) (suc i)) (first 0 f (omega arith) refl)
    ∙ shown-at ns fs i name form at_name at_form (λ j g h there. first (suc j) g (omega arith) there)

-- past so many names none is shown
pub shown-within : (names : List MentionedName) (forms : Forms) (i : ℕ) → ((j : ℕ) (f : DisambiguatedNameForm) → i ≤ j → slice_get forms j ≡ Some f → only_counts f ≡ true)
    → length (shown_in names forms) ≤ i
shown-within [] forms i left = omega arith
shown-within (n ∷ ns) [] i left = omega arith
shown-within (n ∷ ns) (f ∷ fs) zero left =
    let none = ap (λ b. length (cons_option (cond b None (Some (look f n.person))) (shown_in ns fs))) (left 0 f (omega arith) refl) in
    let rest = shown-within ns fs zero (λ j g h there. left (suc j) g (omega arith) there) in
    omega (arith, none, rest)
shown-within (n ∷ ns) (f ∷ fs) (suc i) left = by (only_counts f) (shown-within ns fs i (λ j g h there. left (suc j) g (omega arith) there))
  where
    by : (b : Bool) → length (shown_in ns fs) ≤ i → length (cons_option (cond b None (Some (look f n.person))) (shown_in ns fs)) ≤ suc i
    by true rest = omega (arith, rest)
    by false rest = omega (arith, rest)

-- where none is left out
pub all-shown : (names : List MentionedName) (forms : Forms) → length forms ≡ length names → list_any only_counts forms ≡ false → length (shown_in names forms) ≡ length names
all-shown [] forms long e = refl
all-shown (n ∷ ns) [] long e = absurd (omega arith)
all-shown (n ∷ ns) (f ∷ fs) long e =
    let parts = or_parts (only_counts f) (list_any only_counts fs) e in
    ap (λ b. length (cons_option (cond b None (Some (look f n.person))) (shown_in ns fs))) parts.0
    ∙ ap suc (all-shown ns fs (omega (arith, long)) parts.1)

-- the first names that are asked for are all
pub none-left-out : (b : DisambiguatedNameForm) (count : ℕ) (least : ℕ → DisambiguatedNameForm) (n : ℕ) (own : Forms) → 1 ≤ extent b → n + length own ≤ count
    → list_any only_counts (map (λ p. raised_form b count p.0 (least p.0) p.1) (enumerate_from n own)) ≡ false
none-left-out b count least n [] h l = refl
none-left-out b count least n (o ∷ os) h l =
    (λ i. raised-first b count n (least n) o h (omega (arith, l)) i || none-left-out b count least (n + 1) os h (omega (arith, l)) i)
