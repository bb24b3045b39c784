-- Lists of later mentions, and of mentions with what stands at their places, one mention more.
use mathlib.Core.Bool.{or-false}
use Rattle.std.proofs.Common.{◌≡◌, ℕ, ◌+◌, ◌<◌, ◌≤◌, Bool, true, false, cond, not, ◌&&◌, ◌||◌, Some, None, Option, List, [], ◌∷◌, ◌++◌, length, map, take, get_or, refl, ap, sym, ◌∙◌}
use Rattle.std.specs.Prelude.{nat_eq, option_map, slice_get}
use Rattle.std.specs.List.{list_any}
use Rattle.std.specs.Option.{option_and_then}
use Rattle.std.proofs.lemmas.List.{get_or-map, map-append, take_all}
use Rattle.std.proofs.lemmas.List.Elements.{filter-append}
use Rattle.std.proofs.lemmas.List.Folds.{list_any-append}
use Rattle.std.proofs.lemmas.Option.{slice_get-map}
use Rattle.mentions_groups.specs.Groups.{text_of}
use Rattle.mentions_groups.specs.Readings.{reading_by, reading_of}
use Rattle.mentions_groups.specs.Suffixes.{class_of, is_mistaken_for, laters}
use Rattle.mentions_groups.specs.declared.mention.Mention.{Mention}
use Rattle.list_lemmas.proofs.Stepping.{next}

-- the class of an entry, by its place
pub class-there : (ms : List Mention) (classes : List (Option ℕ)) (entry : ℕ) → classes ≡ map (text_of ms) (laters ms)
    → option_and_then (λ c. c) (slice_get classes entry) ≡ class_of ms entry
class-there ms classes entry are =
    ap (λ l. option_and_then (λ c. c) (slice_get l entry)) are ∙ ap (option_and_then (λ c. c)) (slice_get-map (text_of ms) (laters ms) entry) ∙ by (slice_get (laters ms) entry)
  where
    by : (o : Option Mention) → option_and_then (λ c. c) (option_map (text_of ms) o) ≡ option_and_then (text_of ms) o
    by None = refl
    by (Some m) = refl

pub all-laters : {Y : Type 0} (f : Mention → Y) (ms : List Mention) (k : ℕ) → length ms ≤ k → map f (laters (take k ms)) ≡ map f (laters ms)
all-laters f ms k h = ap (λ l. map f (laters l)) (take_all k ms h)

module _ (ms : List Mention) (k : ℕ) (m : Mention) (within : k < length ms) (here : m ≡ get_or ms k m) where
  -- what stands at its place in a list that is made of the mentions
  pub at-place : {Y : Type 0} (f : Mention → Y) (ys : List Y) (y d : Y) → y ≡ get_or ys k d → ys ≡ map f ms → y ≡ f m
  at-place f ys y d is are = is ∙ ap (λ l. get_or l k d) are ∙ get_or-map f ms k m d within ∙ ap f (sym here)

  pub later-next : {Y : Type 0} (f : Mention → Y) (old new : List Y) (y : Y) → y ≡ f m → old ≡ map f (laters (take k ms)) → new ≡ old ++ cond m.is_first [] (y ∷ [])
      → new ≡ map f (laters (take (k + 1) ms))
  later-next f old new y is so_far pushed =
      pushed ∙ (λ i. so_far i ++ cond m.is_first [] (is i ∷ [])) ∙ ap (λ l. map f (laters (take k ms)) ++ l) (by m.is_first)
      ∙ sym (map-append f (laters (take k ms)) (laters (m ∷ [])))
      ∙ ap (map f) (sym (filter-append (λ (x : Mention). not x.is_first) (take k ms) (m ∷ [])) ∙ ap laters (sym (next ms k m within here)))
    where
      by : (b : Bool) → cond b [] (f m ∷ []) ≡ map f (cond (not b) (m ∷ []) [])
      by true = refl
      by false = refl

  pub reading-next : (old new : List (Option _)) (text class : Option ℕ) → text ≡ text_of ms m → class ≡ class_of ms m.entry → old ≡ map (reading_of ms) (take k ms)
      → new ≡ old ++ reading_by text class ∷ [] → new ≡ map (reading_of ms) (take (k + 1) ms)
  reading-next old new text class t c so_far pushed =
      pushed ∙ (λ i. so_far i ++ reading_by (t i) (c i) ∷ []) ∙ sym (ap (map (reading_of ms)) (next ms k m within here) ∙ map-append (reading_of ms) (take k ms) (m ∷ []))

  -- entries that are asked
  abbrev asks : ℕ → Mention → Bool
  asks n x = nat_eq n x.entry && (x.occurs && list_any (is_mistaken_for ms x) ms)

  pub asked-next : (old new : List ℕ) (b : Bool) → b ≡ (m.occurs && list_any (is_mistaken_for ms m) ms) → ((n : ℕ) → list_any (nat_eq n) old ≡ list_any (asks n) (take k ms))
      → ((n : ℕ) → list_any (nat_eq n) new ≡ (list_any (nat_eq n) old || (nat_eq n m.entry && b))) → (n : ℕ) → list_any (nat_eq n) new ≡ list_any (asks n) (take (k + 1) ms)
  asked-next old new b is so_far added n =
      added n ∙ (λ i. so_far n i || (nat_eq n m.entry && is i)) ∙ ap (λ c. list_any (asks n) (take k ms) || c) (sym (or-false (asks n m)))
      ∙ sym (list_any-append (asks n) (take k ms) (m ∷ [])) ∙ ap (list_any (asks n)) (sym (next ms k m within here))
