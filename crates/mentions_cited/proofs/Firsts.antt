-- Of things with entries, the first of each entry.
use Rattle.std.proofs.Common.{◌≡◌, suc, ◌+◌, Bool, true, false, cond, not, ◌||◌, Some, List, [], ◌∷◌, ◌++◌, filter, map, refl, ap, sym, ◌∙◌, append-nil, append_assoc, arith}
use Rattle.std.specs.Prelude.{find, is_some, slice_get}
use Rattle.std.specs.Cmp.{IsEquivalence}
use Rattle.driver_entries.specs.Entries.{distinct, is_in, place, with_new}
use Rattle.driver_entries.proofs.Distinct.{distinct-push, is_in-distinct}

filter-map : {X Y : Type 0} (f : X → Y) (p : Y → Bool) (xs : List X) → map f (filter (λ x. p (f x)) xs) ≡ filter p (map f xs)
filter-map f p [] = refl
filter-map f p (x ∷ xs) = by (p (f x)) (filter-map f p xs)
  where
    by : (b : Bool) → map f (filter (λ x. p (f x)) xs) ≡ filter p (map f xs) → map f (cond b (x ∷ filter (λ x. p (f x)) xs) (filter (λ x. p (f x)) xs)) ≡ cond b (f x ∷ filter p (map f xs)) (filter p (map f xs))
    by true h = ap (λ l. f x ∷ l) h
    by false h = h

module _ {E H : Type 0} (eq : E → E → Bool) (laws : IsEquivalence eq) (entry : H → E) where
  -- they have equal entries
  abbrev pub alike : H → H → Bool
  alike a b = eq (entry a) (entry b)

  alike-laws : IsEquivalence alike
  alike-laws = record {
    refl = λ a. laws.refl (entry a);
    symm = λ a b. laws.symm (entry a) (entry b);
    congr = λ a b c h. laws.congr (entry a) (entry b) (entry c) h;
  }

  -- their entries are the distinct ones
  pub entries-of-firsts : (hs : List H) → map entry (distinct alike hs) ≡ distinct eq (map entry hs)
  entries-of-firsts [] = refl
  entries-of-firsts (h ∷ hs) =
      ap (λ l. entry h ∷ l) (filter-map entry (λ y. not (eq (entry h) y)) (distinct alike hs) ∙ ap (filter (λ y. not (eq (entry h) y))) (entries-of-firsts hs))

  -- the first with an entry that isn't that of h
  find-others : (e : E) (h : H) (xs : List H) → eq e (entry h) ≡ false → find (λ x. eq e (entry x)) (filter (λ x. not (alike h x)) xs) ≡ find (λ x. eq e (entry x)) xs
  find-others e h [] out = refl
  find-others e h (x ∷ xs) out = by (alike h x) (eq e (entry x)) refl refl (find-others e h xs out)
    where
      by : (b c : Bool) → alike h x ≡ b → eq e (entry x) ≡ c → find (λ x. eq e (entry x)) (filter (λ x. not (alike h x)) xs) ≡ find (λ x. eq e (entry x)) xs
          → find (λ x. eq e (entry x)) (cond (not b) (x ∷ filter (λ x. not (alike h x)) xs) (filter (λ x. not (alike h x)) xs)) ≡ cond c (Some x) (find (λ x. eq e (entry x)) xs)
      by true c p q more =
          let apart : eq e (entry x) ≡ false = laws.symm e (entry x) ∙ sym (laws.congr (entry h) (entry x) e p) ∙ laws.symm (entry h) e ∙ out in
          more ∙ ap (λ (d : Bool). cond d (Some x) (find (λ x. eq e (entry x)) xs)) (sym apart ∙ q)
      by false c p q more = (λ i. cond (q i) (Some x) (more i))

  pub find-first : (e : E) (hs : List H) → find (λ x. eq e (entry x)) (distinct alike hs) ≡ find (λ x. eq e (entry x)) hs
  find-first e [] = refl
  find-first e (h ∷ hs) = by (eq e (entry h)) refl (find-first e hs)
    where
      by : (b : Bool) → eq e (entry h) ≡ b → find (λ x. eq e (entry x)) (distinct alike hs) ≡ find (λ x. eq e (entry x)) hs
          → cond b (Some h) (find (λ x. eq e (entry x)) (filter (λ x. not (alike h x)) (distinct alike hs))) ≡ cond b (Some h) (find (λ x. eq e (entry x)) hs)
      by true p more = refl
      by false p more = find-others e h (distinct alike hs) p ∙ more

  -- it stands at the place of the entry among theirs
  find-place : (e : E) (hs : List H) → slice_get hs (place eq e (map entry hs)) ≡ find (λ x. eq e (entry x)) hs
  find-place e [] = refl
  find-place e (h ∷ hs) = by (eq e (entry h)) (find-place e hs)
    where
      by : (b : Bool) → slice_get hs (place eq e (map entry hs)) ≡ find (λ x. eq e (entry x)) hs
          → slice_get (h ∷ hs) (cond (not b) (1 + place eq e (map entry hs)) 0) ≡ cond b (Some h) (find (λ x. eq e (entry x)) hs)
      by true more = refl
      by false more = let next : 1 + place eq e (map entry hs) ≡ suc (place eq e (map entry hs)) = omega arith in rw next more

  pub first-at : (e : E) (hs : List H) → slice_get (distinct alike hs) (place eq e (distinct eq (map entry hs))) ≡ find (λ x. eq e (entry x)) hs
  first-at e hs =
      ap (λ es. slice_get (distinct alike hs) (place eq e es)) (sym (entries-of-firsts hs)) ∙ find-place e (distinct alike hs) ∙ find-first e hs

  -- there is one where the entry is among theirs
  pub found : (e : E) (hs : List H) → is_some (find (λ x. eq e (entry x)) hs) ≡ is_in eq e (map entry hs)
  found e [] = refl
  found e (h ∷ hs) = by (eq e (entry h)) (found e hs)
    where
      by : (b : Bool) → is_some (find (λ x. eq e (entry x)) hs) ≡ is_in eq e (map entry hs) → is_some (cond b (Some h) (find (λ x. eq e (entry x)) hs)) ≡ (b || is_in eq e (map entry hs))
      by true more = refl
      by false more = more

  -- what tells of each of hs, behind others, whether it is the first with its entry
  abbrev pub FirstsTold : (H → Bool) → List H → List H → Type 0
  FirstsTold told before [] = Unit {0}
  FirstsTold told before (h ∷ hs) = (told h ≡ not (is_in alike h before)) × FirstsTold told (before ++ h ∷ []) hs

  -- keeps these alone
  pub firsts-kept : (told : H → Bool) (before hs : List H) → FirstsTold told before hs → distinct alike before ++ filter told hs ≡ distinct alike (before ++ hs)
  firsts-kept told before [] t = append-nil (distinct alike before) ∙ ap (distinct alike) (sym (append-nil before))
  firsts-kept told before (h ∷ hs) t =
      by (is_in alike h before) (told h) refl t.0
      ∙ ap (λ l. l ++ filter told hs) (sym (distinct-push alike alike-laws before h))
      ∙ firsts-kept told (before ++ h ∷ []) hs t.1 ∙ ap (distinct alike) (append_assoc before (h ∷ []) hs)
    where
      seen : is_in alike h (distinct alike before) ≡ is_in alike h before
      seen = is_in-distinct alike alike-laws h before

      by : (b c : Bool) → is_in alike h before ≡ b → c ≡ not b
          → distinct alike before ++ cond c (h ∷ filter told hs) (filter told hs) ≡ with_new alike (distinct alike before) h ++ filter told hs
      by true c p q = rw (q, seen, p) refl
      by false c p q = rw (q, seen, p) (sym (append_assoc (distinct alike before) (h ∷ []) (filter told hs)))
