-- In a style without a ring it never matters how deep macros are followed: what their names mean,
-- level by level, is settled at the count of macros.
use Rattle.std.proofs.Common.{◌≡◌, ℕ, zero, suc, ◌+◌, ◌≤◌, List, [], ◌∷◌, ◌++◌, length, Bool, true, false, ◌||◌, Option, Some, None, is_some, sym, ap, ◌∙◌, refl, subst, arith}
use Rattle.std.specs.Prelude.{bytes_eq}
use Rattle.std.specs.Cmp.Lexicographic.{same_text}
use Rattle.std.proofs.lemmas.Cmp.{nat_list_eq_equiv}
use Rattle.std.proofs.lemmas.Bool.{false≢true, or_left, or_right}
use Rattle.value_styles.specs.Element.{Name, Elements, Macro}
use Rattle.value_styles.specs.Calls.{Names}
use Rattle.value_styles.specs.Ring.{has_name, body_of, Calls, IsWalk, HasNoRing}
use Rattle.driver_styles.proofs.NameLists.{left, left-lt, left-empty}

-- a walk, and one call more
walk-more : (ms : List Macro) (a : Name) (between : Names) (b c : Name) → IsWalk ms a between b → Calls ms b c → IsWalk ms a (between ++ b ∷ []) c
walk-more ms a [] b c w h = (w, h)
walk-more ms a (d ∷ between) b c w h = (w.0, walk-more ms d between b c w.1 h)

-- one more open name leaves fewer macros, where it has one
opened : (a : Name) (os : Names) (ms : List Macro) (es : Elements) → Some es ≡ body_of a ms → has_name a os ≡ false → left (a ∷ os) ms + 1 ≤ left os ms
opened a os ms es e out =
    left-lt a os (a ∷ os) ms (ap is_some (sym e)) out (λ b h. or_right (bytes_eq a b) _ h) (or_left (bytes_eq a a) _ (nat_list_eq_equiv.refl a))

module _ (ms : List Macro) (no_ring : HasNoRing ms) where
  -- each open name leads to this one
  abbrev pub AllLead : Names → Name → Type 0
  AllLead os a = (b : Name) → has_name b os ≡ true → (between : Names) × IsWalk ms b between a

  is_closed : (os : Names) (a : Name) → AllLead os a → has_name a os ≡ false
  is_closed os a all =
      let by : (b : Bool) → has_name a os ≡ b → has_name a os ≡ false = λ b.
      elim b as (λ b. has_name a os ≡ b → has_name a os ≡ false) [ true ↦ λ e. absurd (no_ring a (all a e)) | false ↦ λ e. e ] in
      by (has_name a os) refl

  leads_on : (os : Names) (a b : Name) → AllLead os a → Calls ms a b → AllLead (a ∷ os) b
  leads_on os a b all h c =
      let by : (t : Bool) → t ≡ bytes_eq a c → (t || has_name c os) ≡ true → (between : Names) × IsWalk ms c between b = λ t.
      elim t as (λ t. t ≡ bytes_eq a c → (t || has_name c os) ≡ true → (between : Names) × IsWalk ms c between b) [
        | true ↦ λ q _. subst (λ x. (between : Names) × IsWalk ms x between b) (same_text a c q) ([], h)
        | false ↦ λ _ m. let w = all c m in (w.0 ++ a ∷ [], walk-more ms c w.0 a b w.1 h)
      ] in
      by (bytes_eq a c) refl

  -- what names mean, where at first they mean nothing, and then `level` says it by what is called
  module _ {X : Type 0} (nil : X) (level : (Name → X) → Name → X)
      (agree : (f g : Name → X) (a : Name) → ((b : Name) → Calls ms a b → f b ≡ g b) → level f a ≡ level g a)
      (bare : (f : Name → X) (a : Name) → None ≡ body_of a ms → level f a ≡ nil) where
    abbrev pub meaning : ℕ → Name → X
    meaning zero a = nil
    meaning (suc n) a = level (meaning n) a

    at_none : (n : ℕ) (a : Name) → None ≡ body_of a ms → meaning n a ≡ nil
    at_none zero a e = refl
    at_none (suc n) a e = bare (meaning n) a e

    pub unfelt : (n : ℕ) (os : Names) (a : Name) → AllLead os a → left os ms ≤ n → (k : ℕ) → meaning (n + k) a ≡ meaning n a
    unfelt zero os a all le k =
        let by : (o : Option Elements) → o ≡ body_of a ms → meaning (0 + k) a ≡ meaning 0 a = λ o.
        elim o as (λ o. o ≡ body_of a ms → meaning (0 + k) a ≡ meaning 0 a) [
          | None ↦ λ e. at_none (0 + k) a e
          | Some es ↦ λ e. absurd (omega (arith, opened a os ms es e (is_closed os a all)))
        ] in
        by (body_of a ms) refl
    unfelt (suc n) os a all le k =
        let by : (o : Option Elements) → o ≡ body_of a ms → level (meaning (n + k)) a ≡ level (meaning n) a = λ o.
        elim o as (λ o. o ≡ body_of a ms → level (meaning (n + k)) a ≡ level (meaning n) a) [
          | None ↦ λ e. bare (meaning (n + k)) a e ∙ sym (bare (meaning n) a e)
          | Some es ↦ λ e.
              let fewer = opened a os ms es e (is_closed os a all) in
              agree (meaning (n + k)) (meaning n) a (λ b m. unfelt n (a ∷ os) b (leads_on os a b all m) (omega (arith, fewer, le)) k)
        ] in
        let next : suc n + k ≡ suc (n + k) = omega arith in
        ap (λ j. meaning j a) next ∙ by (body_of a ms) refl

    pub settled : (a : Name) → level (meaning (length ms)) a ≡ meaning (length ms) a
    settled a =
        let deep : suc (length ms) ≡ length ms + 1 = omega arith in
        ap (λ j. meaning j a) deep ∙ unfelt (length ms) [] a (λ b h. absurd (false≢true h)) (omega (arith, left-empty ms)) 1
