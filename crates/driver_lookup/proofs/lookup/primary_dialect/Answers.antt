-- A code that ends in another byte than the five.
use Rattle.std.proofs.Common.{◌≡◌, ℕ, ◌-◌, List, length, Bool, true, false, Option, Some, bytes_eq, refl, sym, ap, ◌∙◌, arith}
use Rattle.std.specs.Prelude.{codes, slice_get}
use Rattle.std.proofs.lemmas.Slice.Eq.{bytes_eq-Decides}
use Rattle.driver_lookup.proofs.lookup.primary_dialect.Goals as goal

abbrev last_of : List ℕ → Option ℕ
last_of text = slice_get text (length text - 1)

-- texts that end in two bytes are two texts
end_otherwise : (name code : List ℕ) (a b : ℕ) → Some a ≡ last_of name → Some b ≡ last_of code → (b ≡ a → ⊥) → bytes_eq name code ≡ false
end_otherwise name code a b p q differ =
    let by : (t : Bool) → bytes_eq name code ≡ t → t ≡ false = λ t.
    elim t as (λ t. bytes_eq name code ≡ t → t ≡ false) [
      | true ↦ λ e.
          let same : Some b ≡ Some a = q ∙ ap last_of (sym ((bytes_eq-Decides name code).0 e)) ∙ sym p in
          let ends : b ≡ a = cc in
          absurd (differ ends)
      | false ↦ λ e. refl
    ] in
    by (bytes_eq name code) refl

pub returns-in_default : goal.returns-in_default
returns-in_default c =
    let code = c.args.code.now in
    let ends : Some c.in_ok-last.field-0.now ≡ last_of code = c.in_ok-last.ensures.value ∙ ap last_of c.as_bytes.ensures.value in
    let differs : (name : List ℕ) (a : ℕ) → Some a ≡ last_of name → (c.in_ok-last.field-0.now ≡ a → ⊥) → bytes_eq name code ≡ false = λ name a p. end_otherwise name code a c.in_ok-last.field-0.now p ends in
    rw (
      differs (codes "de-AT") 84 refl (λ e. omega arith),
      differs (codes "de-CH") 72 refl (λ e. omega arith),
      differs (codes "en-GB") 66 refl (λ e. omega arith),
      differs (codes "pt-BR") 82 refl (λ e. omega arith),
      differs (codes "zh-TW") 87 refl (λ e. omega arith),
    ) refl
